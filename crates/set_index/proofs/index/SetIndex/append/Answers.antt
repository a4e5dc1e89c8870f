use Rattle.bits_law.proofs.TableLemmas.{holds_joined}
use Rattle.set_index.specs.Buckets.{bucket_bit, IsBuckets}
use Rattle.set_index.proofs.index.SetIndex.append.Goals as goal

pub returns-clause-keys : goal.returns-clause-keys
returns-clause-keys g c = λ keys more h o. holds_joined 64 bucket_bit IsBuckets keys more c.args.self.table c.args.other.now.table _ h o c.in_ok-append.ensures.ok
