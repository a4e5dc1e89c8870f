use Rattle.std.proofs.Common.{◌≡◌, ℕ, ◌+◌, ◌*◌, ◌<◌, length, get_or}
use Rattle.bits_law.proofs.packed.gather.Given as goal

-- the words of the keys so far
abbrev pub invariant-loop-i : goal.invariant-loop-i
invariant-loop-i l = record {
  size : length l.column ≡ 64;
  same : (k : ℕ) → k < l.i → get_or l.column k 0 ≡ get_or l.keys (k * l.n + l.part) 0;
}
