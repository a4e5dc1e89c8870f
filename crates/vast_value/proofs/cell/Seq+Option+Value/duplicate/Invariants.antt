use Rattle.std.proofs.Common.{◌≡◌, take}
use Rattle.vast_value.proofs.cell.Seq+Option+Value.duplicate.Given as goal

abbrev pub invariant-loop-item : goal.invariant-loop-item
invariant-loop-item l = l.copy ≡ take l.item-index l.items
