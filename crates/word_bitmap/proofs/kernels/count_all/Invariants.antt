use Rattle.std.proofs.Common.{◌≡◌, ◌+◌, ◌*◌, ◌≤◌, drop}
use Rattle.std.specs.List.{count_by}
use Rattle.word_bitmap.specs.Words.{spelled}
use Rattle.word_bitmap.proofs.kernels.count_all.Given as goal

abbrev pub invariant-loop-word : goal.invariant-loop-word
invariant-loop-word l = record {
  fits : l.ones ≤ 64 * l.word-index;
  all : l.ones + count_by (λ bit. bit) (spelled (drop l.word-index l.words)) ≡ count_by (λ bit. bit) (spelled l.words);
}
