use Rattle.std.proofs.Common.{◌≡◌, ◌<◌, ℕ, false}
use Rattle.event_history.specs.Choices.{is_waiting}
use Rattle.event_history.specs.Histories.{past}
use Rattle.history_core.proofs.store.Store.next_group.Given as goal

abbrev pub invariant-loop-number : goal.invariant-loop-number
invariant-loop-number l = (k : ℕ) → k < l.number → is_waiting l.self.limits.group (past l.self.history) k ≡ false
