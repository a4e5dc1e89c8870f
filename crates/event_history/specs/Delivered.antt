-- What a query was told.
use Rattle.std.specs.Prelude.{ℕ, Bool, ◌==◌, if◌then◌else◌, List, [], ◌∷◌, ◌++◌, Option, None, Some, nat_lt}
use Rattle.event_history.specs.declared.entry.Deed.{Deed}
use Rattle.event_history.specs.declared.entry.Deed.TheVariants.{Take}
use Rattle.event_history.specs.declared.entry.Entry.{Entry}
use Rattle.event_history.specs.Events.{Event, answer}
use Rattle.event_history.specs.Histories.{events}
use Rattle.event_history.specs.Queries.{Registration, position, registration}

-- the answers over both ranges, from the old positions to the new ones
abbrev pub told_between : List Event → ℕ × ℕ → ℕ × ℕ → Option Registration → List (ℕ × Event)
told_between all old new None = []
told_between all old new (Some g) = answer g.expr all old.0 new.0 ++ answer g.expr all old.1 new.1

abbrev pub told_after : ℕ → Deed → List Entry → List (ℕ × Event) → List (ℕ × Event)
told_after q (Take r past_to live_to) before told =
    if r == q then told ++ told_between (events before) (position q before) (past_to, live_to) (registration q before) else told
told_after q _ before told = told

-- what a query was told by all its takes, in their order
abbrev pub delivered : ℕ → List Entry → List (ℕ × Event)
delivered q [] = []
delivered q (e ∷ before) = told_after q e.deed before (delivered q before)

abbrev pub is_below : ℕ → ℕ × Event → Bool
is_below id x = nat_lt x.0 id
