-- That an index stands for events.
use Rattle.std.specs.Prelude.{◌≡◌, ℕ, ◌<◌, ◌≤◌, Bool, true, ◌&&◌, List, [], ◌∷◌, Option, None, Some, length, map, nat_eq, slice_get, slice_index_or, drop}
use Rattle.std.specs.List.{list_all}
use Rattle.column_index.specs.Stands.{Stands}
use Rattle.event_history.specs.Events.{Event}
use Rattle.partition.specs.declared.index.PlacedColumn.{PlacedColumn}
use Rattle.partition.specs.declared.index.Span.{Span}
use Rattle.partition.specs.declared.index.Index.{Index}
use Rattle.partition.specs.Columns.{Place, are_distinct, column_cells, is_covered, time_place}

abbrev pub place_in : PlacedColumn → Place
place_in c = record { path = c.path; name = c.name; kind = c.column.kind }

abbrev pub places_of : List PlacedColumn → List Place
places_of columns = map place_in columns

-- each column stands for the cells that the events have in it
abbrev pub EachColumn : List PlacedColumn → List Event → Type 0
EachColumn columns events = (i : ℕ) (c : PlacedColumn) → i < length columns → c ≡ slice_index_or columns i c → Stands c.column (column_cells (place_in c) events)

-- the event's layout names no field twice, and its row has a cell for each
abbrev pub is_sound : Event → Bool
is_sound e = are_distinct e.heading.fields && nat_eq (length e.heading.fields) (length e.row)

-- where the time of a span's events stands
abbrev pub time_at : List Place → Option ℕ → Option Place
time_at places None = None
time_at places (Some i) = slice_get places i

-- an event of the span
pub record InSpan (places : List Place) (s : Span) (e : Event) : Type 0 where
  pub path : e.heading.path ≡ s.path
  pub time : time_place e.heading ≡ time_at places s.time

-- the spans are of the events, one behind the other
abbrev pub AreSpans : List Place → List Span → List Event → Type 0
AreSpans places [] events = events ≡ []
AreSpans places (s ∷ ss) events =
    (s.rows ≤ length events)
    × ((i : ℕ) (e : Event) → i < s.rows → slice_get events i ≡ Some e → InSpan places s e)
    × AreSpans places ss (drop s.rows events)

pub record IndexStands (index : Index) (events : List Event) : Type 0 where
  pub rows : index.rows ≡ length events
  pub columns : EachColumn index.columns.items events
  pub covers : list_all (is_covered (places_of index.columns.items)) events ≡ true
  pub sound : list_all is_sound events ≡ true
  pub spans : AreSpans (places_of index.columns.items) index.spans.items events
