use Rattle.std.proofs.Common.{◌≡◌, ℕ, ◌+◌, ◌<◌, true, false, get_or}
use Rattle.bits_law.specs.Numbers.{has_bit}
use Rattle.bits_law.proofs.head.shared_by_all.Given as goal

-- the bits of the keys so far
abbrev pub invariant-loop-i : goal.invariant-loop-i
invariant-loop-i l = record {
  any : (taken c k : ℕ) → c < 64 → k < l.i → has_bit taken k ≡ true → has_bit (get_or l.keys k 0) c ≡ true → has_bit l.any c ≡ true;
  each : (taken c k : ℕ) → c < 64 → k < l.i → has_bit taken k ≡ true → has_bit l.each c ≡ true → has_bit (get_or l.keys k 0) c ≡ true;
  apart : (taken c k : ℕ) → c + 1 < 64 → k < l.i → has_bit taken k ≡ true → has_bit l.apart c ≡ false → has_bit (get_or l.keys k 0) (c + 1) ≡ has_bit (get_or l.keys k 0) c;
}
