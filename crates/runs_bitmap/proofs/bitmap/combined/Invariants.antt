use Rattle.std.proofs.Common.{◌≡◌, ◌-◌, ◌≤◌, ◌^◌, ◌++◌}
use Rattle.bits_law.specs.Bitwise.{bitwise}
use Rattle.runs_bitmap.specs.Runs.{rendered, AreApart, AreAhead, joins}
use Rattle.runs_bitmap.proofs.bitmap.combined.Given as goal

abbrev pub decreases-loop-at : goal.decreases-loop-at
decreases-loop-at l = l.len - l.at

-- the bits so far, and the rest of both joined, are both joined
abbrev pub invariant-loop-at : goal.invariant-loop-at
invariant-loop-at l = record {
  bits : rendered 0 l.runs.items l.at ++ bitwise (joins l.ones) (rendered l.left.at l.left.runs.now l.left.len) (rendered l.right.at l.right.runs.now l.right.len) ≡ bitwise (joins l.ones) l.first l.second;
  apart : AreApart 0 l.runs.items l.at;
  within : l.at ≤ l.len;
  short : l.len ≤ 2 ^ 40;
  left_at : l.left.at ≡ l.at;
  left_len : l.left.len ≡ l.len;
  left_ahead : AreAhead l.left.at l.left.runs.now l.left.len;
  right_at : l.right.at ≡ l.at;
  right_len : l.right.len ≡ l.len;
  right_ahead : AreAhead l.right.at l.right.runs.now l.right.len;
}
