use Rattle.std.proofs.Common.{◌≡◌, ◌-◌, ◌≤◌, eqb, length, take}
use Rattle.plain_cells.specs.Places.{places_of}
use Rattle.plain_cells.proofs.places.byte_places.Given as goal

abbrev pub invariant-loop-at : goal.invariant-loop-at
invariant-loop-at l = record {
  low : l.at ≤ l.count;
  within : l.n ≤ length l.places;
  are : take l.n l.places ≡ places_of (λ b. eqb b l.byte) 0 (take l.at l.text);
}

abbrev pub decreases-loop-at : goal.decreases-loop-at
decreases-loop-at l = l.count - l.at
