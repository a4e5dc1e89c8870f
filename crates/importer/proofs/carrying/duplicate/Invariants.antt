use Rattle.std.proofs.Common.{◌≡◌, take}
use Rattle.importer.proofs.carrying.duplicate.Given as goal

abbrev pub invariant-loop-cell : goal.invariant-loop-cell
invariant-loop-cell l = l.row ≡ take l.cell-index l.cells
