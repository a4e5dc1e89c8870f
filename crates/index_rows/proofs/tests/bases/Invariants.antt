use Rattle.std.proofs.Common.{◌≡◌, replicate}
use Rattle.index_rows.proofs.tests.bases.Given as goal

abbrev pub invariant-loop : goal.invariant-loop
invariant-loop l = l.bases ≡ replicate l.counter l.base
