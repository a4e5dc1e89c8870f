-- Cells that can be read.
use Rattle.std.specs.Prelude.{◌≡◌, ℕ, List, Some, IsSome, codes}
use Rattle.vast_value.specs.declared.cell.Cell.{Cell}
use Rattle.vast_value.specs.declared.kind.Kind.{Kind}
use Rattle.value_reading.specs.declared.marks.Marks.{Marks}
use Rattle.value_reading.specs.Reading.{cell_read}

-- Raw bytes that read as a cell of the kind, whatever the marks are.
abbrev pub IsReadable : Kind → List ℕ → Type 0
IsReadable kind raw = (marks : Marks) → IsSome (cell_read marks kind raw)

-- Raw bytes that read as this cell of the kind where the unset text is the usual one.
abbrev pub ReadsAs : Kind → List ℕ → Cell → Type 0
ReadsAs kind raw cell = (marks : Marks) → marks.unset ≡ codes "-" → cell_read marks kind raw ≡ Some cell
