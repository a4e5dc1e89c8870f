use Rattle.std.proofs.Common.{◌≡◌, ℕ, ◌+◌, ◌-◌, ◌*◌, ◌/◌, ◌%◌, ◌^◌, ◌<◌}
use Rattle.bits_law.specs.Numbers.{has_bit}
use Rattle.string_index.specs.Texts.{text_unit}
use Rattle.string_index.proofs.index.TextKeyRowBits.word.Given as goal

-- the units so far, the first one highest
abbrev pub invariant-loop-k : goal.invariant-loop-k
invariant-loop-k l = record {
  small : l.word < 2 ^ (8 * l.k);
  bits : (j : ℕ) → j < 8 * l.k → has_bit l.word (8 * l.k - 1 - j) ≡ has_bit (text_unit (8 * l.part + j / 8) l.self.text.now) (7 - j % 8);
}
