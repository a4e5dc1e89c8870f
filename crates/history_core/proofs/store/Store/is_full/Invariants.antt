use Rattle.std.proofs.Common.{◌≡◌, ◌+◌, ◌*◌, true}
use Rattle.event_history.specs.Histories.{all_below, is_indexed, past}
use Rattle.history_core.proofs.store.Store.is_full.Given as goal

abbrev pub invariant-loop-i : goal.invariant-loop-i
invariant-loop-i l = all_below (λ i. is_indexed (l.number * l.self.limits.group + i) (past l.self.history)) l.i ≡ true
