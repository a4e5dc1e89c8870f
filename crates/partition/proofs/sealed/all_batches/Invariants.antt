use Rattle.std.proofs.Common.{◌≡◌, length, map, take, flat_map}
use Rattle.std.specs.Arc.{arc_value}
use Rattle.partition.proofs.sealed.all_batches.Given as goal

abbrev pub invariant-loop-fragment : goal.invariant-loop-fragment
invariant-loop-fragment l = l.batches ≡ length (flat_map (λ q. q.contents) (map arc_value (take l.fragment-index l.fragments)))
