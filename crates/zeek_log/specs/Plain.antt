-- Lines that are seen to be rows before any of their cells is read.
use Rattle.std.specs.Prelude.{◌≡◌, ℕ, zero, suc, ◌+◌, ◌-◌, ◌<◌, ◌≤◌, List, [], ◌∷◌, Option, None, Some, Result, Ok, Err, IsSome, IsSomeAnd, length, take, drop, get_or}
use Rattle.memchr.specs.Find.{IsFirstByte, is_byte}
use Rattle.vast_value.specs.declared.cell.Cell.{Cell}
use Rattle.vast_value.specs.Headings.{Field, Heading}
use Rattle.value_text.specs.declared.Marks.{Marks}
use Rattle.value_text.specs.Reading.{cell_read}
use Rattle.value_text.specs.Writing.{cell_text}
use Rattle.zeek_log.specs.declared.fault.At.{At}
use Rattle.zeek_log.specs.declared.fault.ZeekFault.TheVariants.{NoHead}
use Rattle.zeek_log.specs.Heads.{Told}
use Rattle.zeek_log.specs.Lines.{pieces_of}
use Rattle.zeek_log.specs.Table.{Gives, Line, line_outcome, row_read}

-- the cells of a line under a heading, if there is one
abbrev pub row_under : Told → Option Heading → List ℕ → Result (List Cell) At
row_under told None line = Err (record { column = 0; what = NoHead })
row_under told (Some heading) line = row_read told.marks heading.fields (pieces_of told.separator line)

abbrev pub row_in : Told → List ℕ → Result (List Cell) At
row_in told line = row_under told told.heading line

abbrev pub cells_or_none : Result (List Cell) At → List Cell
cells_or_none (Ok cells) = cells
cells_or_none (Err at) = []

-- the last of the first places
abbrev pub line_end : List ℕ → ℕ → ℕ
line_end places count = get_or places (count - 1) 0

-- a text cut at places, from so much on: what stands before each
abbrev pub cut_before : List ℕ → ℕ → List ℕ → List (List ℕ)
cut_before [] from text = []
cut_before (to ∷ more) from text = take (to - from) (drop from text) ∷ cut_before more (to + 1) text

-- places that follow one another, from so much on and up to so much
abbrev pub AreInOrder : ℕ → ℕ → List ℕ → Type 0
AreInOrder from count [] = Unit {0}
AreInOrder from count (to ∷ more) = (from ≤ to) × (to ≤ count) × AreInOrder (to + 1) count more

-- where the cell of a column begins
abbrev pub start_of : List ℕ → ℕ → ℕ
start_of places zero = 0
start_of places (suc column) = get_or places column 0 + 1

-- each raw text reads as a cell of its field's kind
abbrev pub AreRead : Marks → List Field → List (List ℕ) → Type 0
AreRead marks [] raws = Unit {0}
AreRead marks (field ∷ fields) [] = Unit {0}
AreRead marks (field ∷ fields) (raw ∷ raws) = IsSome (cell_read marks field.kind raw) × AreRead marks fields raws

-- The first places are those behind the cells of the first line of a text, the last of them its newline's, and the line is a
-- row.
pub record IsPlain (told : Told) (text places : List ℕ) (count : ℕ) : Type 0 where
  pub found : IsFirstByte (is_byte 10) text (Some (line_end places count))
  pub pieces : pieces_of told.separator (take (line_end places count) text) ≡ cut_before (take count places) 0 (take (line_end places count) text)
  pub row : row_in told (take (line_end places count) text) ≡ Ok (cells_or_none (row_in told (take (line_end places count) text)))
  pub order : AreInOrder 0 (line_end places count) (take count places)
  pub some : 0 < count
  pub few : count ≤ length places
  pub columns : IsSomeAnd told.heading (λ heading. length heading.fields ≡ count)
  pub gives : line_outcome told (take (line_end places count) text) ≡ Gives told (Line (cells_or_none (row_in told (take (line_end places count) text))))

-- these bytes are how the cell is written, if there is one
abbrev pub IsWrittenAs : Option Cell → List ℕ → Type 0
IsWrittenAs None raw = Unit {0}
IsWrittenAs (Some cell) raw = cell_text cell ≡ raw

-- a piece of a line is how its cell is written, if there is one
abbrev pub IsOwnPiece : Option Cell → Option (List ℕ) → Type 0
IsOwnPiece cell piece = (x : Cell) → cell ≡ Some x → piece ≡ Some (cell_text x)
