-- What is promised of cutting, and of a whole run of answers.
use Rattle.std.specs.Prelude.{◌≡◌, ℕ, ◌<◌, Bool, true, false, List, [], ◌∷◌, Option, None, Some, length, take}
use Rattle.vast_value.specs.declared.cell.Cell.{Cell}
use Rattle.zeek_log.specs.Table.{LogStep, Head, Line}
use Rattle.importer.specs.declared.ends.ImportEnd.{ImportEnd}
use Rattle.importer.specs.declared.ends.ImportEnd.TheVariants.{ReadFault}
use Rattle.importer.specs.Coming.{Ended, Flows, Importing, Standing, fresh}
use Rattle.importer.specs.Ending.{Answers, ahead}

-- all rows of the steps, in order
abbrev pub rows_in : List LogStep → List (List Cell)
rows_in [] = []
rows_in (Head heading ∷ steps) = rows_in steps
rows_in (Line row ∷ steps) = row ∷ rows_in steps

-- some rows, no shorter beginning of which is full
pub record IsPiece (full : List (List Cell) → Bool) (piece : List (List Cell)) : Type 0 where
  pub some : 0 < length piece
  pub first : (count : ℕ) → 0 < count → count < length piece → full (take count piece) ≡ false

-- each piece is closed as soon as it is full, and each but the last is full
abbrev pub AreCut : (List (List Cell) → Bool) → List (List (List Cell)) → Type 0
AreCut full [] = Unit {0}
AreCut full (piece ∷ []) = IsPiece full piece
AreCut full (piece ∷ (next ∷ pieces)) = IsPiece full piece × (full piece ≡ true) × AreCut full (next ∷ pieces)

-- an import before its first call
abbrev pub starting : ℕ → ℕ → Importing
starting number rows = record { number = number; rows = rows; heading = None; standing = fresh }

-- the end is a failed read
abbrev pub is_read_fault : Option ImportEnd → Bool
is_read_fault (Some ReadFault) = true
is_read_fault _ = false

-- a failed read is the end, also where steps are still to come before it
abbrev pub is_failed : Standing → Bool
is_failed (Flows f) = is_read_fault f.end
is_failed (Ended end) = is_read_fault end
is_failed _ = false

-- these are the first of all that is given
abbrev pub ComesFirst : {X : Type 0} → List X → Answers X → Type 0
ComesFirst {X} given all = (more : Answers X) × (all ≡ ahead given more)
