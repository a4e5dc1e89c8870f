use Rattle.std.proofs.Common.{◌≡◌, ◌-◌, ◌≤◌, ◌+◌, take, true}
use Rattle.std.specs.List.{list_all}
use Rattle.plain_cells.specs.Own.{stands_bare}
use Rattle.plain_cells.proofs.texts.are_bare.Given as goal

abbrev pub invariant-loop-at : goal.invariant-loop-at
invariant-loop-at l = record {
  low : l.at ≤ l.count + 15;
  bare : list_all stands_bare (take l.at l.text) ≡ true;
}

abbrev pub decreases-loop-at : goal.decreases-loop-at
decreases-loop-at l = l.count - l.at
