use Rattle.std.proofs.Common.{◌≡◌, ◌++◌, ◌∷◌, take}
use Rattle.std.specs.List.{flat_map}
use Rattle.value_writing.specs.Writing.{group_text}
use Rattle.value_writing.proofs.write_addresses.push_more_groups.Given as goal

abbrev pub invariant-loop-group : goal.invariant-loop-group
invariant-loop-group l = l.out ≡ l.initial.out ++ flat_map (λ g. 58 ∷ group_text g) (take l.group-index l.groups)
