use Rattle.std.proofs.Common.{◌≡◌}
use Rattle.index_rows.proofs.tests.tabled.Given as goal

abbrev pub invariant-loop-at : goal.invariant-loop-at
invariant-loop-at g l = l.index.width ≡ 4
