-- Cells that stand in a log as they are written.
use Rattle.std.specs.Prelude.{◌≡◌, ℕ, Bool, List, Some, length, get_or}
use Rattle.vast_value.specs.declared.cell.Cell.{Cell}
use Rattle.vast_value.specs.declared.kind.Kind.{Kind}
use Rattle.value_reading.specs.declared.marks.Marks.{Marks}
use Rattle.value_reading.specs.Reading.{cell_read}
use Rattle.value_writing.specs.declared.place.Place.TheVariants as place
use Rattle.value_writing.specs.Writing.{AreUsual, is_bare, cell_text}

-- Raw bytes that are the canonical text of the cell that they read as in a log with the usual marks, if they read as one.
abbrev pub IsOwnText : Kind → List ℕ → Type 0
IsOwnText kind raw = (marks : Marks) → AreUsual marks → (cell : Cell) → cell_read marks kind raw ≡ Some cell → cell_text cell ≡ raw

-- A number that begins with 0 is 0 alone.
abbrev pub HasNoLeadingZero : List ℕ → Type 0
HasNoLeadingZero digits = get_or digits 0 0 ≡ 48 → length digits ≡ 1

-- a byte that stands for itself in a text that is a whole cell
abbrev pub stands_bare : ℕ → Bool
stands_bare b = is_bare place.Whole b
