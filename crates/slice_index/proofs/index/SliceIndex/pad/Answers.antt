use Rattle.bits_law.proofs.TableLemmas.{holds_gap}
use Rattle.slice_index.specs.Slices.{slice_bit, IsNarrow}
use Rattle.slice_index.proofs.index.SliceIndex.pad.Goals as goal

pub returns-clause-keys : goal.returns-clause-keys
returns-clause-keys g c = λ keys h. holds_gap c.args.self.width (slice_bit c.args.self.width) (IsNarrow c.args.self.width) keys c.args.self.table _ c.args.rows h c.in_ok-pad.ensures.ok
