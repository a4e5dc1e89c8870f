use Rattle.std.proofs.Common.{◌≡◌, ◌+◌, ◌-◌, ◌*◌, ◌≤◌, ◌++◌, min, length, drop, vec_len, vec_capacity}
use Rattle.word_bitmap.specs.Words.{words_from, words_of, all_of, AreLaid, reach, needs, spelled, shown, IsSound}
use Rattle.word_bitmap.proofs.words.Words.join.Given as goal

-- the bits so far, and those of the pieces that are left, are those of both
abbrev pub invariant-loop-i : goal.invariant-loop-i
invariant-loop-i l = record {
  sound : IsSound l.self;
  laid : AreLaid (length l.other.pieces.literals.items) l.at (drop l.i (all_of l.other.pieces));
  end : reach l.at (drop l.i (all_of l.other.pieces)) ≡ l.other.pieces.end;
  bits : shown l.self ++ spelled (words_from l.other.pieces.literals.items l.at (drop l.i (all_of l.other.pieces))) ≡ shown l.fn.self ++ spelled (words_of l.other.pieces);
  len : 64 * l.self.pieces.end + l.self.held + 64 * (l.other.pieces.end - l.at) ≡ 64 * l.fn.self.pieces.end + l.fn.self.held + 64 * l.other.pieces.end;
  list : vec_len l.self.pieces.list + (2 * (length l.other.pieces.list.items + 1 - l.i) + 1) ≤ vec_capacity l.self.pieces.list;
  literals : vec_len l.self.pieces.literals + min 7 (l.self.pieces.end - l.self.pieces.closed) + needs l.at (drop l.i (all_of l.other.pieces)) + 1 ≤ vec_capacity l.self.pieces.literals;
}
