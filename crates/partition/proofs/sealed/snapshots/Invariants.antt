use Rattle.std.proofs.Common.{◌≡◌, map, take}
use Rattle.std.specs.Arc.{arc_value}
use Rattle.partition.specs.Merged.{pieces_of}
use Rattle.partition.proofs.sealed.snapshots.Given as goal

abbrev pub invariant-loop-fragment : goal.invariant-loop-fragment
invariant-loop-fragment l = pieces_of l.kept.items ≡ map arc_value (take l.fragment-index l.fragments)
