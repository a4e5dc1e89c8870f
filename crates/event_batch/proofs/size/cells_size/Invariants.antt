use Rattle.std.proofs.Common.{◌≡◌, ◌-◌, ◌^◌, min, length, take}
use Rattle.std.specs.List.{flat_map}
use Rattle.event_batch.specs.declared.format.Format.TheVariants.{Second}
use Rattle.event_batch.specs.Spelling.{cell_bytes}
use Rattle.event_batch.proofs.size.cells_size.Given as goal

abbrev pub invariant-loop-cell : goal.invariant-loop-cell
invariant-loop-cell l = l.size ≡ min (length (flat_map (cell_bytes Second) (take l.cell-index l.cells))) (2 ^ 64 - 1)
