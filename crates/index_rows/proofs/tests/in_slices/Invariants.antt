use Rattle.std.proofs.Common.{◌≡◌}
use Rattle.index_rows.proofs.tests.in_slices.Given as goal

abbrev pub invariant-loop-at : goal.invariant-loop-at
invariant-loop-at g l = l.index.width ≡ l.fn.width
