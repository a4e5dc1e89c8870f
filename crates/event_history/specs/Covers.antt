-- In which part of a range each of its batches stands.
use Rattle.std.specs.Prelude.{◌≡◌, ℕ, ◌+◌, ◌<◌, ◌≤◌, List, [], ◌∷◌, ◌++◌, All, length}
use Rattle.event_batch.specs.Contents.{Content}
use Rattle.event_history.specs.declared.entry.Entry.{Entry}
use Rattle.event_history.specs.Events.{events_in}
use Rattle.event_history.specs.Pieces.{Held, Piece, held_of, parts_of}

-- the number of the batch behind a piece
abbrev pub piece_end : Piece → ℕ
piece_end p = p.batch + length p.contents

-- the batch is one of the piece's, behind these
pub record StandsIn (p : Piece) (h : Held) : Type 0 where
  pub front : List Content
  pub back : List Content
  pub contents : p.contents ≡ front ++ h.packed.content ∷ back
  pub number : h.no ≡ p.batch + length front
  pub place : h.first ≡ p.first + length (events_in front)

-- Each batch stands in one of the parts, both in ascending order: those in front in the first part, and those behind it in
-- the others.
abbrev pub Cover : List Piece → List Held → Type 0
Cover [] held = held ≡ []
Cover (p ∷ ps) held =
    (mine : List Held) × (rest : List Held)
    × (held ≡ mine ++ rest) × All (StandsIn p) mine × All (λ h. piece_end p ≤ h.no) rest × Cover ps rest

-- the parts of a range cover its batches, whatever groups are sealed
abbrev pub PartsCover : List Entry → Type 0
PartsCover before = (size low high : ℕ) → 0 < size → Cover (parts_of size low high before) (held_of low high before)
