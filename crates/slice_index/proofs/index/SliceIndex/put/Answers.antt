use Rattle.bits_law.proofs.TableLemmas.{holds_put}
use Rattle.slice_index.specs.Slices.{slice_bit, IsNarrow}
use Rattle.slice_index.proofs.SliceLemmas.{in_slices}
use Rattle.slice_index.proofs.index.SliceIndex.put.Goals as goal

pub returns-clause-keys : goal.returns-clause-keys
returns-clause-keys g c =
    let a = c.args in
    let width = a.self.now.width in
    holds_put width (slice_bit width) (IsNarrow width) c.put.result a.self.now.table c.put.new.self a.row a.key _ (λ j l. in_slices width j (slice_bit width j a.key) l) c.requires.small c.put.ensures.ok
