-- Events, which of them match, and their ids.
use Rattle.std.specs.Prelude.{ℕ, ◌+◌, Bool, ◌&&◌, List, [], ◌∷◌, map, filter, flat_map, take, drop, nat_le, nat_lt}
use Rattle.vast_value.specs.declared.cell.Cell.{Cell}
use Rattle.vast_value.specs.Headings.{Heading}
use Rattle.query_meaning.specs.declared.expr.Expr.{Expr}
use Rattle.query_meaning.specs.Meaning.{holds}
use Rattle.event_batch.specs.Contents.{Content}

-- a row with its layout's heading
pub record Event : Type 0 where
  pub heading : Heading
  pub row : List Cell

abbrev pub event_of : Heading → List Cell → Event
event_of h cells = record { heading = h; row = cells }

-- a batch's events, in order
abbrev pub events_of : Content → List Event
events_of c = map (event_of c.heading) c.rows

-- the events of batches, in order
abbrev pub events_in : List Content → List Event
events_in batches = flat_map events_of batches

-- the event matches the query
unfoldable pub matches : Expr → Event → Bool
matches expr event = holds event.heading event.row expr

-- events with their ids, from a number on
abbrev pub numbered : ℕ → List Event → List (ℕ × Event)
numbered id [] = []
numbered id (x ∷ xs) = (id, x) ∷ numbered (id + 1) xs

-- the events from one id on and below another, with their ids
abbrev pub ranged : ℕ → ℕ → List Event → List (ℕ × Event)
ranged from to events = numbered from (drop from (take to events))

-- those of them that pass a test
abbrev pub chosen : (Event → Bool) → ℕ → ℕ → List Event → List (ℕ × Event)
chosen test from to events = filter (λ x. test x.1) (ranged from to events)

-- The answer of a query over a range: the events with these ids that match, in ascending order.
abbrev pub answer : Expr → List Event → ℕ → ℕ → List (ℕ × Event)
answer expr events from to = chosen (matches expr) from to events

-- the event's id is in the range
abbrev pub is_within : ℕ → ℕ → ℕ × Event → Bool
is_within from to x = nat_le from x.0 && nat_lt x.0 to
