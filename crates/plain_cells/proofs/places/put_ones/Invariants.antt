use Rattle.std.proofs.Common.{◌≡◌, ◌≤◌, ◌++◌, length, take}
use Rattle.plain_cells.specs.Places.{ones_of}
use Rattle.plain_cells.proofs.places.put_ones.Given as goal

abbrev pub invariant-loop-left : goal.invariant-loop-left
invariant-loop-left l = record {
  within : l.n ≤ length l.places;
  ones : take l.n l.places ++ ones_of 64 l.at l.left ≡ take l.count l.initial.places ++ ones_of 64 l.at l.marks;
}

abbrev pub decreases-loop-left : goal.decreases-loop-left
decreases-loop-left l = l.left
