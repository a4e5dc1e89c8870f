use Rattle.std.proofs.Common.{◌≡◌, ◌<◌, ◌≤◌, false, slice_index_or, ℕ}
use Rattle.history_core.specs.declared.kept.Kept.{Kept}
use Rattle.history_core.specs.Searches.{is_open}
use Rattle.history_core.proofs.store.claims.next_free.Given as goal

abbrev pub invariant-loop-at : goal.invariant-loop-at
invariant-loop-at l = (b : ℕ) (k : Kept) → l.from ≤ b → b < l.at → k ≡ slice_index_or l.kept b k → is_open k ≡ false
