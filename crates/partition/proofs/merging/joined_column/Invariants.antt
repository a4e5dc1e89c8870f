use Rattle.std.proofs.Common.{◌≡◌, map, take}
use Rattle.std.specs.Arc.{arc_value}
use Rattle.column_index.specs.Stands.{Stands}
use Rattle.partition.specs.Columns.{column_cells}
use Rattle.partition.specs.Indexes.{place_in}
use Rattle.partition.specs.Merged.{all_events}
use Rattle.partition.proofs.merging.joined_column.Given as goal

abbrev pub invariant-loop-fragment : goal.invariant-loop-fragment
invariant-loop-fragment l = record {
  kind : l.column.kind ≡ l.fn.like.column.kind;
  cells : Stands l.column (column_cells (place_in l.fn.like) (all_events (map arc_value (take l.fragment-index l.fn.fragments))));
}
