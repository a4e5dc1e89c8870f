-- What a page says of a snapshot.
use Rattle.std.specs.Prelude.{ℕ, ◌+◌, Bool, not, ◌&&◌, List, ◌++◌, filter, flat_map, length, sum_by}
use Rattle.std.specs.List.{list_any}
use Rattle.query_meaning.specs.declared.expr.Expr.{Expr}
use Rattle.query_meaning.specs.Sure.{maybe, sure}
use Rattle.event_history.specs.Events.{Event, matches}
use Rattle.event_history.specs.Pieces.{Held, batch_answer}
use Rattle.history_core.specs.Snapshots.{Snapshot}
use Rattle.exporter.specs.Rows.{in_range}

-- the events that match, of the past range and then of the live one
abbrev pub found_in : Snapshot → List (ℕ × Event)
found_in x =
    flat_map (batch_answer (matches x.taking.expr) x.taking.past_from x.taking.past_to) x.past_batches
    ++ flat_map (batch_answer (matches x.taking.expr) x.taking.live_from x.taking.live_to) x.live_batches

-- indexes tell that the event may match
abbrev pub may_match : Expr → Event → Bool
may_match expr e = maybe e.heading e.row expr

-- they tell that it may, and not that it does
abbrev pub is_unsure : Expr → Event → Bool
is_unsure expr e = maybe e.heading e.row expr && not (sure e.heading e.row expr)

-- how many events of a batch have to be looked at
abbrev pub unsure_in : Expr → ℕ → ℕ → Held → ℕ
unsure_in expr from to h = length (filter (λ x. is_unsure expr x.1) (in_range from to h))

-- some event of the batch in the range may match
abbrev pub is_touched : Expr → ℕ → ℕ → Held → Bool
is_touched expr from to h = list_any (λ x. may_match expr x.1) (in_range from to h)

-- The events that are looked at: of the past range those that indexes don't decide, and all of the live range.
abbrev pub checked_in : Snapshot → ℕ
checked_in x =
    sum_by (unsure_in x.taking.expr x.taking.past_from x.taking.past_to) x.past_batches
    + sum_by (λ h. length (in_range x.taking.live_from x.taking.live_to h)) x.live_batches

-- the batches that are read: of the past range those with an event that may match, and all of the live range
abbrev pub touched_in : Snapshot → List Held
touched_in x = filter (is_touched x.taking.expr x.taking.past_from x.taking.past_to) x.past_batches ++ x.live_batches

-- all that the snapshot holds
abbrev pub held_by : Snapshot → List Held
held_by x = x.past_batches ++ x.live_batches
