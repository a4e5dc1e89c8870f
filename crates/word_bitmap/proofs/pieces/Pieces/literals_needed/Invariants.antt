use Rattle.std.proofs.Common.{◌≡◌, ◌+◌, ◌*◌, ◌≤◌, drop, length}
use Rattle.word_bitmap.specs.Words.{all_of, AreLaid, reach, needs}
use Rattle.word_bitmap.proofs.pieces.Pieces.literals_needed.Given as goal

-- what the pieces so far need, and those that are left, is what all need
abbrev pub invariant-loop-i : goal.invariant-loop-i
invariant-loop-i l = record {
  laid : AreLaid (length l.self.literals.items) l.at (drop l.i (all_of l.self));
  end : reach l.at (drop l.i (all_of l.self)) ≡ l.self.end;
  fits : l.needed ≤ 8 * l.i + l.at;
  all : l.needed + needs l.at (drop l.i (all_of l.self)) ≡ needs 0 (all_of l.self);
}
