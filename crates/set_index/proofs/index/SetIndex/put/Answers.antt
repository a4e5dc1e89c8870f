use Rattle.bits_law.proofs.TableLemmas.{holds_put}
use Rattle.set_index.specs.Buckets.{bucket_bit, IsBuckets}
use Rattle.set_index.proofs.BucketLemmas.{within}
use Rattle.set_index.proofs.index.SetIndex.put.Goals as goal

pub returns-clause-keys : goal.returns-clause-keys
returns-clause-keys g c =
    let a = c.args in
    holds_put 64 bucket_bit IsBuckets c.put.result a.self.now.table c.put.new.self a.row a.buckets _ (λ j l. within j (bucket_bit j a.buckets) l) c.ranges.buckets.fits c.put.ensures.ok
