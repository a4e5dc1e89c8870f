-- What an index stands for, and the parts and batches of a range.
use Rattle.std.specs.Prelude.{◌≡◌, ℕ, zero, suc, ◌+◌, ◌*◌, Bool, true, false, if◌then◌else◌, List, [], ◌∷◌, ◌++◌, Option, None, Some, min, max, nat_lt, map, take, drop, slice_get, filter, flat_map, length}
use Rattle.std.specs.Option.{option_to_list}
use Rattle.event_batch.specs.Contents.{Content, Spelled}
use Rattle.event_history.specs.declared.entry.Entry.{Entry}
use Rattle.event_history.specs.Choices.{reaches}
use Rattle.event_history.specs.Events.{Event, events_in, events_of, is_within, numbered}
use Rattle.event_history.specs.Histories.{accepted, batch_count, content, first_of, is_sealed}

-- adjacent batches: the number of the first, the id of its first event, and what they say
pub record Piece : Type 0 where
  pub batch : ℕ
  pub first : ℕ
  pub contents : List Content

-- the events of a piece, in order
abbrev pub piece_events : Piece → List Event
piece_events p = events_in p.contents

-- the first of these pieces begins with this batch and this event, and each further one where the one before it ends
abbrev pub Follow : ℕ → ℕ → List Piece → Type 0
Follow batch first [] = Unit {0}
Follow batch first (p ∷ ps) = (p.batch ≡ batch) × (p.first ≡ first) × Follow (batch + length p.contents) (first + length (piece_events p)) ps

-- the pieces follow each other: each begins with the next batch and the next event
abbrev pub AreAdjacent : List Piece → Type 0
AreAdjacent [] = Unit {0}
AreAdjacent (p ∷ ps) = Follow (p.batch + length p.contents) (p.first + length (piece_events p)) ps

-- adjacent pieces as one
abbrev pub joined : List Piece → Piece
joined [] = record { batch = 0; first = 0; contents = [] }
joined (p ∷ ps) = record { batch = p.batch; first = p.first; contents = flat_map (λ q. q.contents) (p ∷ ps) }

-- a batch with its number and the id of its first event
pub record Held : Type 0 where
  pub no : ℕ
  pub first : ℕ
  pub packed : Spelled

-- the batch as a piece
abbrev pub piece_in : List Entry → ℕ → Piece
piece_in before b = record { batch = b; first = first_of b before; contents = option_to_list (slice_get (map content (accepted before)) b) }

-- the batches of a whole group
abbrev pub group_piece : ℕ → ℕ → List Entry → Piece
group_piece size k before = record {
  batch = k * size;
  first = first_of (k * size) before;
  contents = take size (drop (k * size) (map content (accepted before)));
}

abbrev pub one_if : Bool → Piece → List Piece
one_if true p = p ∷ []
one_if false p = []

-- of `n` batches from one on, those with an event in the range
abbrev pub reached : ℕ → ℕ → List Entry → ℕ → ℕ → List Piece
reached low high before b zero = []
reached low high before b (suc n) = reached low high before b n ++ one_if (reaches low high before (b + n)) (piece_in before (b + n))

-- the group has an event in the range
abbrev pub group_reaches : ℕ → ℕ → ℕ → List Entry → ℕ → Bool
group_reaches size low high before k = nat_lt (max low (first_of (k * size) before)) (min high (first_of (k * size + size) before))

abbrev pub group_parts : ℕ → ℕ → ℕ → List Entry → ℕ → List Piece
group_parts size low high before k =
    if is_sealed k before then one_if (group_reaches size low high before k) (group_piece size k before)
    else reached low high before (k * size) size

abbrev pub parts_upto : ℕ → ℕ → ℕ → List Entry → ℕ → List Piece
parts_upto size low high before zero = []
parts_upto size low high before (suc k) = parts_upto size low high before k ++ group_parts size low high before k

-- The parts of a range, in ascending order: each sealed group with an event in it as one, and each other batch with one.
abbrev pub parts_of : ℕ → ℕ → ℕ → List Entry → List Piece
parts_of size low high before = parts_upto size low high before (batch_count before)

abbrev pub held_in : List Entry → ℕ → Option Spelled → List Held
held_in before b None = []
held_in before b (Some packed) = record { no = b; first = first_of b before; packed = packed } ∷ []

abbrev pub held_at : Bool → List Entry → ℕ → List Held
held_at true before b = held_in before b (slice_get (accepted before) b)
held_at false before b = []

abbrev pub held_upto : ℕ → ℕ → List Entry → ℕ → List Held
held_upto low high before zero = []
held_upto low high before (suc b) = held_upto low high before b ++ held_at (reaches low high before b) before b

-- the batches with an event in the range
abbrev pub held_of : ℕ → ℕ → List Entry → List Held
held_of low high before = held_upto low high before (batch_count before)

-- of a batch's events those in a range that pass a test, with their ids
abbrev pub batch_answer : (Event → Bool) → ℕ → ℕ → Held → List (ℕ × Event)
batch_answer test from to h = filter (λ x. test x.1) (filter (is_within from to) (numbered h.first (events_of h.packed.content)))
