use Rattle.std.proofs.Common.{◌≡◌, ◌++◌, map, take}
use Rattle.bits_law.specs.Packed.{moved}
use Rattle.bits_law.proofs.packed.add_moved.Given as goal

-- the heads so far are added
abbrev pub invariant-loop-head : goal.invariant-loop-head
invariant-loop-head l = l.heads.items ≡ l.initial.heads.items ++ map (moved l.from) (take l.head-index l.other)
