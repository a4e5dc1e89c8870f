-- Which rows are a batch's.
use Rattle.std.specs.Prelude.{ℕ, Bool, ◌&&◌, List, nat_le}
use Rattle.std.specs.List.{list_all}
use Rattle.vast_value.specs.declared.cell.Cell.{Cell}
use Rattle.vast_value.specs.declared.layout.Layout.{Layout}
use Rattle.vast_value.specs.Fit.{fits_columns}

-- a batch has 1 to 4,096 rows
abbrev pub is_batch_size : ℕ → Bool
is_batch_size n = nat_le 1 n && nat_le n 4096

-- each row fits the layout
abbrev pub rows_fit : Layout → List (List Cell) → Bool
rows_fit layout rows = list_all (fits_columns layout.columns) rows
