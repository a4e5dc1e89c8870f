use Rattle.std.proofs.Common.{◌≡◌, ◌+◌, ◌-◌, ◌++◌, drop, length}
use Rattle.bits_law.specs.Bitwise.{bitwise}
use Rattle.word_bitmap.specs.Words.{IsLaid, words_of, words_from, all_of, AreLaid, reach, spelled, joins}
use Rattle.word_bitmap.proofs.combine.combined.Given as goal

-- at each step one piece is done with
abbrev pub decreases-loop-at : goal.decreases-loop-at
decreases-loop-at l = (length (all_of l.first) - l.i) + (length (all_of l.second) - l.j)

-- the words so far, and the rest of both joined, are both joined
abbrev pub invariant-loop-at : goal.invariant-loop-at
invariant-loop-at l = record {
  bits : spelled (words_of l.pieces) ++ bitwise (joins l.ones) (spelled (words_from l.first.literals.items l.at (drop l.i (all_of l.first)))) (spelled (words_from l.second.literals.items l.at (drop l.j (all_of l.second)))) ≡ bitwise (joins l.ones) (spelled (words_of l.first)) (spelled (words_of l.second));
  laid : IsLaid l.pieces;
  so_far : l.pieces.end ≡ l.at;
  left : AreLaid (length l.first.literals.items) l.at (drop l.i (all_of l.first));
  left_end : reach l.at (drop l.i (all_of l.first)) ≡ l.first.end;
  right : AreLaid (length l.second.literals.items) l.at (drop l.j (all_of l.second));
  right_end : reach l.at (drop l.j (all_of l.second)) ≡ l.first.end;
}
