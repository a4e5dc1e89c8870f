use Rattle.std.proofs.Common.{◌≡◌, take}
use Rattle.vast_value.proofs.row.Seq+Cell.duplicate.Given as goal

abbrev pub invariant-loop-cell : goal.invariant-loop-cell
invariant-loop-cell l = l.copy ≡ take l.cell-index l.cells
