-- The rows of a batch that are in a range.
use Rattle.std.specs.Prelude.{ℕ, ◌+◌, ◌-◌, List, take, drop, filter}
use Rattle.event_history.specs.Events.{Event, events_of, is_within, numbered}
use Rattle.event_history.specs.Pieces.{Held}

-- a batch's events in a range, with their ids
abbrev pub in_range : ℕ → ℕ → Held → List (ℕ × Event)
in_range from to h = filter (is_within from to) (numbered h.first (events_of h.packed.content))

-- the events from one place on and below another, with their ids, where the first event has the id `first`
abbrev pub rows_between : ℕ → ℕ → ℕ → List Event → List (ℕ × Event)
rows_between first low high events = numbered (first + low) (take (high - low) (drop low events))
