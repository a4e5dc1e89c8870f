-- What merged fragments say.
use Rattle.std.specs.Prelude.{◌≡◌, ℕ, true, List, [], ◌∷◌, ◌++◌, Option, None, Some, map, flat_map}
use Rattle.std.specs.List.{list_any}
use Rattle.std.specs.declared.snapshot.Snapshot.{Snapshot}
use Rattle.event_batch.specs.Contents.{Content}
use Rattle.event_history.specs.Events.{Event}
use Rattle.event_history.specs.Pieces.{Piece, piece_events}
use Rattle.partition.specs.declared.index.Span.{Span}
use Rattle.partition.specs.Columns.{Place, same_place}
use Rattle.partition.specs.Indexes.{time_at}

abbrev pub pieces_of : List (Snapshot Piece) → List Piece
pieces_of snapshots = map (λ s. s.value) snapshots

abbrev pub contents_of : List (Snapshot Piece) → List Content
contents_of snapshots = flat_map (λ p. p.contents) (pieces_of snapshots)

-- the events of pieces, one behind the other
abbrev pub all_events : List Piece → List Event
all_events pieces = flat_map piece_events pieces

-- each of these places is among those
abbrev pub IsWithin : List Place → List Place → Type 0
IsWithin these those = (p : Place) → list_any (same_place p) these ≡ true → list_any (same_place p) those ≡ true

-- where a time stands among these places: there is none where there was none, and what it was wherever it is among them
pub record Retimed (places : List Place) (was : Option Place) (now : Option ℕ) : Type 0 where
  pub none : was ≡ None → time_at places now ≡ None
  pub some : (p : Place) → was ≡ Some p → list_any (same_place p) places ≡ true → time_at places now ≡ Some p

-- the spans are these ones, their times among other places
abbrev pub Retold : List Place → List Place → List Span → List Span → Type 0
Retold places old [] [] = Unit {0}
Retold places old [] (t ∷ ts) = ⊥
Retold places old (s ∷ ss) [] = ⊥
Retold places old (s ∷ ss) (t ∷ ts) = (t.path ≡ s.path) × (t.rows ≡ s.rows) × Retimed places (time_at old s.time) t.time × Retold places old ss ts

-- such spans were added
abbrev pub Added : List Place → List Place → List Span → List Span → List Span → Type 0
Added places old spans before after = (added : List Span) × (after ≡ before ++ added) × Retold places old spans added
