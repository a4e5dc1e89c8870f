use Rattle.std.proofs.Common.{◌≡◌, ℕ, ◌<◌, get_or}
use Rattle.word_bitmap.proofs.kernels.first_set.Given as goal

abbrev pub invariant-loop-i : goal.invariant-loop-i
invariant-loop-i l = record { clear : (k : ℕ) → k < l.i → get_or l.words k 0 ≡ 0 }
