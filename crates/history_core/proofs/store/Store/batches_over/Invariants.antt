use Rattle.std.proofs.Common.{◌≡◌, ◌≤◌}
use Rattle.event_history.specs.Histories.{batch_count, past}
use Rattle.event_history.specs.Pieces.{held_upto}
use Rattle.history_core.proofs.store.Store.batches_over.Given as goal

abbrev pub invariant-loop-at : goal.invariant-loop-at
invariant-loop-at l = (l.held.items ≡ held_upto l.low l.high (past l.self.history) l.at) × (l.at ≤ batch_count (past l.self.history))
