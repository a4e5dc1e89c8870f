use Rattle.std.proofs.Common.{◌≡◌, length, map, take}
use Rattle.std.specs.Arc.{arc_value}
use Rattle.partition.specs.Merged.{all_events}
use Rattle.partition.proofs.merging.all_rows.Given as goal

abbrev pub invariant-loop-fragment : goal.invariant-loop-fragment
invariant-loop-fragment l = l.rows ≡ length (all_events (map arc_value (take l.fragment-index l.fragments)))
