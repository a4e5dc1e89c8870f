use Rattle.std.proofs.Common.{◌≡◌, true, map, take}
use Rattle.std.specs.Arc.{arc_value}
use Rattle.std.specs.List.{list_all}
use Rattle.partition.specs.Columns.{is_covered}
use Rattle.partition.specs.Indexes.{EachColumn, places_of}
use Rattle.partition.specs.Merged.{all_events}
use Rattle.partition.proofs.merging.merged_columns.Given as goal

abbrev pub invariant-loop-fragment : goal.invariant-loop-fragment
invariant-loop-fragment l = record {
  cells : EachColumn l.columns.items (all_events (map arc_value l.fn.fragments));
  covers : list_all (is_covered (places_of l.columns.items)) (all_events (map arc_value (take l.fragment-index l.fn.fragments))) ≡ true;
}
