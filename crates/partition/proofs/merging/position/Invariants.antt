use Rattle.std.proofs.Common.{◌≡◌, false, map, take}
use Rattle.std.specs.List.{list_any}
use Rattle.partition.specs.Columns.{same_place}
use Rattle.partition.specs.Indexes.{place_in}
use Rattle.partition.proofs.merging.position.Given as goal

abbrev pub invariant-loop-at : goal.invariant-loop-at
invariant-loop-at l = list_any (same_place (place_in l.fn.like)) (map place_in (take l.at l.fn.columns)) ≡ false
