-- What a query was told once a take is done.
use Rattle.std.specs.Prelude.{◌≡◌, ℕ, ◌==◌, ◌&&◌, if◌then◌else◌, List, [], Option, None, Some, filter, slice_get, nat_le, nat_lt}
use Rattle.event_history.specs.declared.entry.Entry.{Entry}
use Rattle.event_history.specs.Choices.{Taking}
use Rattle.event_history.specs.Delivered.{delivered}
use Rattle.event_history.specs.Events.{Event, matches}
use Rattle.event_history.specs.Histories.{event_count, events}
use Rattle.event_history.specs.Laws.{IsTold, told_as}
use Rattle.event_history.specs.Modes.{live_end, past_begin}
use Rattle.event_history.specs.Queries.{Registration, position}

-- of each id of the query's span below the end of its live part, the event with that id was told once, where it matches;
-- and of no other id anything
abbrev pub TellsSpan : List Entry → ℕ → Registration → Type 0
TellsSpan before q g =
    (id : ℕ)
    → filter (λ (x : ℕ × Event). x.0 == id) (delivered q before)
    ≡ (if nat_le (past_begin g.mode g.from) id && nat_lt id (live_end g.mode g.from (event_count before))
    then told_as (matches g.expr) id (slice_get (events before) id) else [])

-- The query was told the matching events of its past part up to where the take goes in it, and those of its live part up
-- to its end, each once. Where the take stopped at no batch, these are the matching events of its whole span.
abbrev pub TellsUpTo : List Entry → ℕ → Taking → Option Registration → Type 0
TellsUpTo before q t None = ⊥
TellsUpTo before q t (Some g) =
    IsTold q before g
    × (position q before ≡ (t.past_to, t.live_to))
    × (t.live_to ≡ live_end g.mode g.from (event_count before))
    × (t.again ≡ None → TellsSpan before q g)
