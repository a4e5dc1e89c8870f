use Rattle.std.proofs.Common.{◌≡◌, map, take}
use Rattle.importer.specs.Carrying.{carried_cell}
use Rattle.importer.proofs.carrying.carry_over.Given as goal

abbrev pub invariant-loop-cell : goal.invariant-loop-cell
invariant-loop-cell l = l.row ≡ map (carried_cell l.over) (take l.cell-index l.cells)
