use Rattle.std.proofs.Common.{◌≡◌, take}
use Rattle.vast_value.proofs.layout.Seq+Column.duplicate.Given as goal

abbrev pub invariant-loop-column : goal.invariant-loop-column
invariant-loop-column l = l.copy ≡ take l.column-index l.columns
