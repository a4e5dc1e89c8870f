use Rattle.std.proofs.Common.{◌+◌, ◌-◌, ◌<◌, ◌≤◌, length}
use Rattle.event_history.specs.Histories.{first_of, past}
use Rattle.history_core.proofs.store.Store.place_of.Given as goal

-- the place is from `low` on and not past `high`
abbrev pub invariant-loop-low : goal.invariant-loop-low
invariant-loop-low l =
    (l.low ≤ l.high)
    × (l.high ≤ length l.self-inside.kept.items)
    × (first_of l.low (past l.self-inside.entries.items) ≤ l.id)
    × (l.high < length l.self-inside.kept.items → l.id < first_of (l.high + 1) (past l.self-inside.entries.items))

abbrev pub decreases-loop-low : goal.decreases-loop-low
decreases-loop-low l = l.high - l.low
