-- How steps are cut into batches.
use Rattle.std.specs.Prelude.{ℕ, Bool, ◌||◌, if◌then◌else◌, List, [], ◌∷◌, ◌++◌, Option, None, Some, length, map, nat_le}
use Rattle.std.specs.List.{flat_map}
use Rattle.vast_value.specs.declared.cell.Cell.{Cell}
use Rattle.vast_value.specs.Headings.{Heading}
use Rattle.event_batch.specs.declared.format.Format.TheVariants.{Second}
use Rattle.event_batch.specs.Contents.{Content}
use Rattle.event_batch.specs.Spelling.{row_bytes}
use Rattle.zeek_log.specs.Table.{LogStep, Head, Line}
use Rattle.importer.specs.Ending.{Answers}

-- a head, and the rows up to the next one
pub record Part : Type 0 where
  pub heading : Heading
  pub rows : List (List Cell)

-- the rows before the next head
abbrev pub rows_first : List LogStep → List (List Cell)
rows_first [] = []
rows_first (Head next ∷ steps) = []
rows_first (Line row ∷ steps) = row ∷ rows_first steps

-- the steps cut at their heads
abbrev pub parts_of : List LogStep → List Part
parts_of [] = []
parts_of (Head heading ∷ steps) = record { heading = heading; rows = rows_first steps } ∷ parts_of steps
parts_of (Line row ∷ steps) = parts_of steps

-- a last piece that is not full, if it has any rows
abbrev pub last_piece : List (List Cell) → List (List (List Cell))
last_piece [] = []
last_piece (row ∷ rows) = (row ∷ rows) ∷ []

-- Rows cut behind each row at which those since the last cut are full. `since` are the rows since the last cut.
abbrev pub pieces_since : (List (List Cell) → Bool) → List (List Cell) → List (List Cell) → List (List (List Cell))
pieces_since full since [] = last_piece since
pieces_since full since (row ∷ rows) =
    if full (since ++ row ∷ []) then (since ++ row ∷ []) ∷ pieces_since full [] rows
    else pieces_since full (since ++ row ∷ []) rows

-- at how many rows, and at how many bytes of cells, a batch closes
pub record Bounds : Type 0 where
  pub rows : ℕ
  pub bytes : ℕ

-- the cell bytes of rows, as a batch's second format has them
abbrev pub cell_bytes_of : List (List Cell) → List ℕ
cell_bytes_of rows = flat_map (λ row. row_bytes Second row) rows

abbrev pub is_full : Bounds → List (List Cell) → Bool
is_full bounds rows = nat_le bounds.rows (length rows) || nat_le bounds.bytes (length (cell_bytes_of rows))

abbrev pub batch_of : ℕ → Heading → List (List Cell) → Content
batch_of source heading rows = record { source = source; heading = heading; rows = rows }

-- the batches of a part
abbrev pub part_batches : ℕ → Bounds → Part → List Content
part_batches source bounds part = map (batch_of source part.heading) (pieces_since (is_full bounds) [] part.rows)

-- The batches of steps. One closes where it is full, before each head, and at the end, and none is empty.
abbrev pub cut_by : Bounds → ℕ → List LogStep → List Content
cut_by bounds source steps = flat_map (part_batches source bounds) (parts_of steps)

abbrev pub most_cell_bytes : ℕ
most_cell_bytes = 4194304

abbrev pub bounds_of : ℕ → Bounds
bounds_of rows = record { rows = rows; bytes = most_cell_bytes }

-- the batches of a source's steps, where one closes at so many rows
abbrev pub cut : ℕ → ℕ → List LogStep → List Content
cut source rows steps = cut_by (bounds_of rows) source steps

-- the batches, and then the end of the steps
abbrev pub cut_answers : ℕ → ℕ → Answers LogStep → Answers Content
cut_answers source rows steps = record { given = cut source rows steps.given; end = steps.end }

-- rows of a heading that were read already stand before the steps that are still to come
abbrev pub behind : Option Heading → List (List Cell) → List LogStep → List LogStep
behind None rows steps = steps
behind (Some heading) rows steps = Head heading ∷ (map Line rows ++ steps)

abbrev pub steps_behind : Option Heading → List (List Cell) → Answers LogStep → Answers LogStep
steps_behind heading rows steps = record { given = behind heading rows steps.given; end = steps.end }
