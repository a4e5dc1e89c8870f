use Rattle.slice_index.proofs.SliceLemmas.{answer_ok}
use Rattle.slice_index.proofs.index.SliceIndex.ask.Goals as goal

pub returns-clause-keys : goal.returns-clause-keys
returns-clause-keys g c = answer_ok g.B.Bits.bits c.args.self.now.width c.args.self.now.table c.args.rel c.args.key c.ask.result c.ask.ensures
