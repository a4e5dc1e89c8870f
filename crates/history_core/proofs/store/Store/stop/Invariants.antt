use Rattle.std.proofs.Common.{◌≡◌, ◌<◌, ℕ, false}
use Rattle.event_history.specs.Choices.{holds_up}
use Rattle.event_history.specs.Histories.{past}
use Rattle.history_core.proofs.store.Store.stop.Given as goal

abbrev pub invariant-loop-at : goal.invariant-loop-at
invariant-loop-at l = (b : ℕ) → b < l.at → holds_up l.low l.high (past l.self.history) b ≡ false
