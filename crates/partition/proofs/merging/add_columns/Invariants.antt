use Rattle.std.proofs.Common.{map, take}
use Rattle.std.specs.Arc.{arc_value}
use Rattle.partition.specs.Indexes.{EachColumn, places_of}
use Rattle.partition.specs.Merged.{IsWithin, all_events}
use Rattle.partition.proofs.merging.add_columns.Given as goal

abbrev pub invariant-loop-column : goal.invariant-loop-column
invariant-loop-column l = record {
  cells : EachColumn l.fn.columns.items (all_events (map arc_value l.fn.fragments)) → EachColumn l.columns.items (all_events (map arc_value l.fn.fragments));
  keeps : IsWithin (places_of l.fn.columns.items) (places_of l.columns.items);
  adds : IsWithin (places_of (take l.column-index l.fn.index.columns.items)) (places_of l.columns.items);
}
