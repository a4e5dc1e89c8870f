use Rattle.std.proofs.Common.{◌-◌, ◌<◌, ◌≤◌, ℕ, length}
use Rattle.event_history.specs.Histories.{first_of, past}
use Rattle.history_core.proofs.store.Store.begins_at.Given as goal

-- the place is from `low` on and not past `high`
abbrev pub invariant-loop-low : goal.invariant-loop-low
invariant-loop-low l =
    (l.low ≤ l.high)
    × (l.high ≤ length l.self-inside.kept.items)
    × ((b : ℕ) → b < l.low → first_of b (past l.self-inside.entries.items) < l.id)
    × ((b : ℕ) → l.high ≤ b → b < length l.self-inside.kept.items → l.id ≤ first_of b (past l.self-inside.entries.items))

abbrev pub decreases-loop-low : goal.decreases-loop-low
decreases-loop-low l = l.high - l.low
