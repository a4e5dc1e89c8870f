use Rattle.std.proofs.Common.{◌≡◌, ◌+◌, ◌*◌, ◌≤◌, drop, length}
use Rattle.std.specs.List.{count_by}
use Rattle.word_bitmap.specs.Words.{words_from, words_of, all_of, AreLaid, reach, spelled}
use Rattle.word_bitmap.proofs.pieces.Pieces.count.Given as goal

-- the ones so far, and those of the pieces that are left, are all
abbrev pub invariant-loop-i : goal.invariant-loop-i
invariant-loop-i l = record {
  laid : AreLaid (length l.self.literals.items) l.at (drop l.i (all_of l.self));
  end : reach l.at (drop l.i (all_of l.self)) ≡ l.self.end;
  fits : l.ones ≤ 64 * l.at;
  all : l.ones + count_by (λ bit. bit) (spelled (words_from l.self.literals.items l.at (drop l.i (all_of l.self)))) ≡ count_by (λ bit. bit) (spelled (words_of l.self));
}
