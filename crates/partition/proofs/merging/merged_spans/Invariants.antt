use Rattle.std.proofs.Common.{◌≡◌, true, map, take}
use Rattle.std.specs.Arc.{arc_value}
use Rattle.std.specs.List.{list_all}
use Rattle.partition.specs.Indexes.{AreSpans, is_sound, place_in}
use Rattle.partition.specs.Merged.{all_events}
use Rattle.partition.proofs.merging.merged_spans.Given as goal

abbrev pub invariant-loop-fragment : goal.invariant-loop-fragment
invariant-loop-fragment l = record {
  spans : AreSpans (map place_in l.fn.columns) l.spans.items (all_events (map arc_value (take l.fragment-index l.fn.fragments)));
  sound : list_all is_sound (all_events (map arc_value (take l.fragment-index l.fn.fragments))) ≡ true;
}
