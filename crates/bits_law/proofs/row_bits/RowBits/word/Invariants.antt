use Rattle.std.proofs.Common.{◌≡◌, ℕ, ◌+◌, ◌-◌, ◌*◌, ◌^◌, ◌<◌}
use Rattle.bits_law.specs.Numbers.{has_bit}
use Rattle.bits_law.proofs.row_bits.RowBits.word.Given as goal

-- the bits of the columns so far
abbrev pub invariant-loop-j : goal.invariant-loop-j
invariant-loop-j g l = record {
  small : l.word < 2 ^ l.j;
  bits : (i : ℕ) → i < l.j → has_bit l.word (l.j - 1 - i) ≡ g.Self.RowBits.bit l.self (64 * l.part + i);
}
