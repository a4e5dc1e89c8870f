use Rattle.set_index.proofs.BucketLemmas.{taken_ok}
use Rattle.set_index.proofs.index.SetIndex.taken.Goals as goal

pub returns-clause-keys : goal.returns-clause-keys
returns-clause-keys g c = taken_ok g.B.Bits.bits c.args.self.now.table c.args.bucket c.column.result c.requires c.column.ensures.value
