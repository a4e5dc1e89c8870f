use Rattle.std.proofs.Common.{◌≡◌, ◌++◌, ◌∷◌, take}
use Rattle.std.specs.List.{flat_map}
use Rattle.value_writing.specs.Writing.{element_text}
use Rattle.value_writing.proofs.writing.push_more.Given as goal

abbrev pub invariant-loop-item : goal.invariant-loop-item
invariant-loop-item l = l.out ≡ l.initial.out ++ flat_map (λ x. 44 ∷ element_text x) (take l.item-index l.items)
