use Rattle.std.proofs.Common.{◌≡◌, length}
use Rattle.bits_law.specs.Packed.{IsPlane}
use Rattle.bits_law.proofs.head.turn.Given as goal

-- the bytes of the keys so far
abbrev pub invariant-loop-i : goal.invariant-loop-i
invariant-loop-i l = record {
  size : length l.plane ≡ 64;
  plane : IsPlane l.plane l.keys l.byte l.i;
}
