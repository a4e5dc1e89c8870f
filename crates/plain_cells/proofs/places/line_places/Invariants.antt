use Rattle.std.proofs.Common.{◌≡◌, ◌-◌, ◌≤◌, eqb, length, take}
use Rattle.std.specs.List.{position_or_len}
use Rattle.plain_cells.specs.Places.{is_newline, places_of}
use Rattle.plain_cells.proofs.places.line_places.Given as goal

abbrev pub invariant-loop-at : goal.invariant-loop-at
invariant-loop-at l = record {
  low : l.at ≤ length l.text;
  none : l.at ≤ position_or_len is_newline l.text;
  within : l.n ≤ length l.places;
  are : take l.n l.places ≡ places_of (λ b. eqb b l.separator) 0 (take l.at l.text);
}

abbrev pub decreases-loop-at : goal.decreases-loop-at
decreases-loop-at l = length l.text - l.at
