use Rattle.std.proofs.Common.{◌≡◌, ◌<◌, ◌≤◌, ◌&&◌, length, get_or}
use Rattle.bits_law.specs.Numbers.{has_bit}
use Rattle.bits_law.specs.Packed.{IsPlane, AreFilled}
use Rattle.bits_law.proofs.PackLemmas.{IsLeft}
use Rattle.bits_law.proofs.head.fill.Given as goal

-- the columns of `own` from bit `at` up are filled in
abbrev pub invariant-loop-left : goal.invariant-loop-left
invariant-loop-left l = record {
  within : l.at ≤ 64;
  left : IsLeft l.left l.own l.at;
  size : length l.plane ≡ 64;
  plane : l.made < 8 → IsPlane l.plane l.keys l.made 64;
  filled : AreFilled l.initial.words.items l.words.items l.own l.at (λ c i. has_bit l.taken i && has_bit (get_or l.keys i 0) c);
}

abbrev pub decreases-loop-left : goal.decreases-loop-left
decreases-loop-left l = l.at
