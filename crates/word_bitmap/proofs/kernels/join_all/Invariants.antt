use Rattle.std.proofs.Common.{◌≡◌, ℕ, ◌*◌, ◌<◌, ◌≤◌, length, get_or}
use Rattle.word_bitmap.specs.Words.{word_of}
use Rattle.word_bitmap.proofs.kernels.join_all.Given as goal

abbrev pub invariant-loop-k : goal.invariant-loop-k
invariant-loop-k l = record {
  long : length l.words ≡ length l.fn.words;
  so_far : (j : ℕ) → j < 8 * l.k → get_or l.words j 0 ≡ word_of l.ones (get_or l.fn.words j 0) (get_or l.others j 0);
  left : (j : ℕ) → 8 * l.k ≤ j → get_or l.words j 0 ≡ get_or l.fn.words j 0;
}

abbrev pub invariant-loop-i : goal.invariant-loop-i
invariant-loop-i l = record {
  long : length l.words ≡ length l.fn.words;
  so_far : (j : ℕ) → j < l.i → get_or l.words j 0 ≡ word_of l.ones (get_or l.fn.words j 0) (get_or l.others j 0);
  left : (j : ℕ) → l.i ≤ j → get_or l.words j 0 ≡ get_or l.fn.words j 0;
}
