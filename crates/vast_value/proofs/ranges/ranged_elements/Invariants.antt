use Rattle.std.proofs.Common.{◌≡◌, true, take}
use Rattle.std.specs.List.{list_all}
use Rattle.vast_value.specs.Fit.{is_ranged_element}
use Rattle.vast_value.proofs.ranges.ranged_elements.Given as goal

abbrev pub invariant-loop-item : goal.invariant-loop-item
invariant-loop-item l = list_all is_ranged_element (take l.item-index l.items) ≡ true
