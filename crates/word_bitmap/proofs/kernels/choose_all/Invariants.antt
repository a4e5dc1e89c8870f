use Rattle.std.proofs.Common.{◌≡◌, ℕ, ◌<◌, ◌≤◌, length, get_or}
use Rattle.word_bitmap.specs.Words.{chosen}
use Rattle.word_bitmap.proofs.kernels.choose_all.Given as goal

abbrev pub invariant-loop-i : goal.invariant-loop-i
invariant-loop-i l = record {
  long : length l.words ≡ length l.fn.words;
  so_far : (k : ℕ) → k < l.i → get_or l.words k 0 ≡ chosen l.clear l.set (get_or l.fn.words k 0);
  left : (k : ℕ) → l.i ≤ k → get_or l.words k 0 ≡ get_or l.fn.words k 0;
}
