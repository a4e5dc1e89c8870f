use Rattle.std.proofs.Common.{◌≡◌, ◌<◌, ℕ, length, map, take, slice_index_or}
use Rattle.vast_value.specs.Headings.{field_of}
use Rattle.column_index.specs.Stands.{Stands}
use Rattle.partition.specs.Building.{cell_at}
use Rattle.partition.specs.Columns.{place_of}
use Rattle.partition.specs.Indexes.{places_of}
use Rattle.partition.specs.declared.index.PlacedColumn.{PlacedColumn}
use Rattle.partition.proofs.building.columns_of.Given as goal

abbrev pub invariant-loop-at : goal.invariant-loop-at
invariant-loop-at l = record {
  places : places_of l.columns.items ≡ map (place_of l.fn.layout.path) (map field_of (take l.at l.fn.layout.columns));
  cells : (i : ℕ) (c : PlacedColumn) → i < length l.columns.items → c ≡ slice_index_or l.columns.items i c → Stands c.column (map (cell_at i) l.fn.rows);
}
