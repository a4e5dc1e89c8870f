use Rattle.bits_law.proofs.TableLemmas.{holds_joined}
use Rattle.slice_index.specs.Slices.{slice_bit, IsNarrow}
use Rattle.slice_index.proofs.index.SliceIndex.append.Goals as goal

pub returns-clause-keys : goal.returns-clause-keys
returns-clause-keys g c = λ keys more h o. holds_joined c.args.self.width (slice_bit c.args.self.width) (IsNarrow c.args.self.width) keys more c.args.self.table c.args.other.now.table _ h o c.in_ok-append.ensures.ok
