use Rattle.std.proofs.Common.{◌≡◌, ℕ, ◌+◌, ◌-◌, ◌*◌, ◌/◌, ◌<◌, ◌&&◌, ltb, length, get_or, take}
use Rattle.bits_law.specs.Numbers.{has_bit}
use Rattle.digit_index.specs.Digits.{product, width, digit_bit}
use Rattle.digit_index.proofs.coding.digit_words.Given as goal

-- the columns of the digits so far
abbrev pub invariant-loop-k : goal.invariant-loop-k
invariant-loop-k l = record {
  long : length l.words ≡ length l.initial.words;
  from : l.from ≡ width l.coding (take l.k l.bases);
  rest : l.rest ≡ l.key / product (take l.k l.bases);
  bits : (part j : ℕ) → part < length l.words → j < 64 → has_bit (get_or l.words part 0) (63 - j) ≡ (ltb (64 * part + j) l.from && digit_bit l.coding l.bases (64 * part + j) l.key);
}
