use Rattle.std.proofs.Common.{◌≡◌, ◌*◌}
use Rattle.event_history.specs.Histories.{past}
use Rattle.event_history.specs.Steps.{group_pieces}
use Rattle.history_core.proofs.store.Store.fragments.Given as goal

abbrev pub invariant-loop-i : goal.invariant-loop-i
invariant-loop-i l = l.fragments ≡ group_pieces (past l.self.history) (l.number * l.self.limits.group) l.i
