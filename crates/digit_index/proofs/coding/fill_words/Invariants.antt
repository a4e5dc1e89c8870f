use Rattle.std.proofs.Common.{◌≡◌, ℕ, ◌<◌, ◌≤◌, ◌&&◌, ◌||◌, length, get_or, leb, ltb, max}
use Rattle.bits_law.specs.Numbers.{has_bit}
use Rattle.digit_index.proofs.coding.fill_words.Given as goal

-- the words before `part` are full
abbrev pub invariant-loop-part : goal.invariant-loop-part
invariant-loop-part l = record {
  long : length l.words ≡ length l.initial.words;
  least : l.from ≤ l.part;
  most : l.part ≤ max l.from l.part-end;
  bits : (k i : ℕ) → k < length l.initial.words → i < 64 → has_bit (get_or l.words k 0) i ≡ (has_bit (get_or l.initial.words k 0) i || (leb l.from k && ltb k l.part));
}
