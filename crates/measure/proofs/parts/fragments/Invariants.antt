use Rattle.std.proofs.Common.{◌≡◌, length, map, flat_map}
use Rattle.std.specs.Arc.{arc_value}
use Rattle.event_history.specs.Pieces.{Follow}
use Rattle.partition.specs.Merged.{all_events}
use Rattle.measure.proofs.parts.fragments.Given as goal

abbrev pub invariant-loop-at : goal.invariant-loop-at
invariant-loop-at l = record {
  adjacent : Follow 0 0 (map arc_value l.all.items);
  batches : length (flat_map (λ q. q.contents) (map arc_value l.all.items)) ≡ l.at;
  first : l.first ≡ length (all_events (map arc_value l.all.items));
}
