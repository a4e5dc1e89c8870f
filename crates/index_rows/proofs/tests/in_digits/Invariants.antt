use Rattle.std.proofs.Common.{◌≡◌}
use Rattle.index_rows.proofs.tests.in_digits.Given as goal

abbrev pub invariant-loop-at : goal.invariant-loop-at
invariant-loop-at g l = (l.index.bases ≡ l.fn.bases) × (l.index.coding ≡ l.fn.coding)
