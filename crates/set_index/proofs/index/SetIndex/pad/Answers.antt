use Rattle.bits_law.proofs.TableLemmas.{holds_gap}
use Rattle.set_index.specs.Buckets.{bucket_bit, IsBuckets}
use Rattle.set_index.proofs.index.SetIndex.pad.Goals as goal

pub returns-clause-keys : goal.returns-clause-keys
returns-clause-keys g c = λ keys h. holds_gap 64 bucket_bit IsBuckets keys c.args.self.table _ c.args.rows h c.in_ok-pad.ensures.ok
