-- The cells of a batch's rows, column by column.
use Rattle.std.specs.Prelude.{ℕ, Bool, false, List, Option, None, Some, slice_get}
use Rattle.vast_value.specs.declared.cell.Cell.{Cell}
use Rattle.vast_value.specs.declared.kind.Elem.TheVariants as elem
use Rattle.vast_value.specs.declared.kind.Kind.{Kind}
use Rattle.vast_value.specs.Headings.{Field}
use Rattle.vast_value.specs.Kinds.{has_kind}
use Rattle.query_meaning.specs.Meaning.{is_of}

-- the cell at a place of a row
abbrev pub cell_at : ℕ → List Cell → Option Cell
cell_at at row = slice_get row at

abbrev pub is_cell_of : Kind → Option Cell → Bool
is_cell_of kind None = false
is_cell_of kind (Some x) = has_kind x kind

-- the row has a cell of the kind at the place
abbrev pub has_cell : Kind → ℕ → List Cell → Bool
has_cell kind at row = is_cell_of kind (slice_get row at)

abbrev pub is_time : Field → Bool
is_time f = is_of elem.Time f.kind
