use Rattle.std.proofs.Common.{◌≡◌, ℕ, ◌-◌, ◌≤◌, ◌<◌, drop, get_or, length}
use Rattle.word_bitmap.specs.Words.{words_from, words_of, all_of, AreLaid, reach}
use Rattle.word_bitmap.proofs.pieces.Pieces.next_set.Given as goal

abbrev pub decreases-loop-at : goal.decreases-loop-at
decreases-loop-at l = length (all_of l.self) - l.i

-- only words of 0 were passed over
abbrev pub invariant-loop-at : goal.invariant-loop-at
invariant-loop-at l = record {
  laid : AreLaid (length l.self.literals.items) l.at (drop l.i (all_of l.self));
  left : drop l.at (words_of l.self) ≡ words_from l.self.literals.items l.at (drop l.i (all_of l.self));
  end : reach l.at (drop l.i (all_of l.self)) ≡ l.self.end;
  after : l.from ≤ l.at;
  clear : (j : ℕ) → l.from ≤ j → j < l.at → get_or (words_of l.self) j 0 ≡ 0;
}
