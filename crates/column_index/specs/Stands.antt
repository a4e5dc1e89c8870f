-- What a column stands for.
use Rattle.std.specs.Prelude.{◌≡◌, true, List, Option}
use Rattle.vast_value.specs.declared.cell.Cell.{Cell}
use Rattle.bits_law.specs.Keys.{answers}
use Rattle.column_index.specs.declared.column.ColumnIndex.{ColumnIndex}
use Rattle.column_index.specs.Columns.{AreOf}
use Rattle.column_index.specs.Kept.{KeysStand}

-- the column stands for the cells: a gap where there is none
pub record Stands (column : ColumnIndex) (cells : List (Option Cell)) : Type 0 where
  pub has : column.has ≡ answers (λ _. true) cells
  pub kinds : AreOf column.kind cells
  pub keys : KeysStand column.keys cells
