use Rattle.std.proofs.Common.{◌≡◌, ◌+◌, ◌^◌, ◌<◌, ◌≤◌, ◌++◌, take, drop, vec_len, vec_capacity}
use Rattle.bits_law.specs.Bitwise.{bits_below}
use Rattle.word_bitmap.specs.Words.{spelled}
use Rattle.word_bitmap.proofs.kernels.shift_in.Given as goal

abbrev pub invariant-loop-word : goal.invariant-loop-word
invariant-loop-word l = record {
  rest : l.rest < 2 ^ l.held;
  len : vec_len l.literals ≡ vec_len l.fn.literals + l.word-index;
  capacity : vec_capacity l.fn.literals ≤ vec_capacity l.literals;
  kept : take (vec_len l.fn.literals) l.literals.items ≡ l.fn.literals.items;
  bits : (spelled (drop (vec_len l.fn.literals) l.literals.items) ++ bits_below l.rest l.held) ++ spelled (drop l.word-index l.words) ≡ bits_below l.last l.held ++ spelled l.words;
}
