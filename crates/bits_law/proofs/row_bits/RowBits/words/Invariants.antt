use Rattle.std.proofs.Common.{◌≡◌, ℕ, ◌+◌, ◌-◌, ◌*◌, ◌<◌, length, get_or}
use Rattle.bits_law.specs.Numbers.{has_bit}
use Rattle.bits_law.proofs.row_bits.RowBits.words.Given as goal

-- the words so far are written
abbrev pub invariant-loop-part : goal.invariant-loop-part
invariant-loop-part g l = record {
  long : length l.words ≡ length l.initial.words;
  bits : (part j : ℕ) → part < l.part → j < 64 → has_bit (get_or l.words part 0) (63 - j) ≡ g.Self.RowBits.bit l.self (64 * part + j);
}
