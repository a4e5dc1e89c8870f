use Rattle.std.proofs.Common.{◌≡◌, ◌+◌, [], take, drop}
use Rattle.vast_value.specs.Layouts.{columns_fault}
use Rattle.vast_value.proofs.layout.columns_fault.Given as goal

abbrev pub invariant-loop-at : goal.invariant-loop-at
invariant-loop-at l = columns_fault (l.at + 1) (take l.at l.columns) (drop l.at l.columns) ≡ columns_fault 1 [] l.columns
