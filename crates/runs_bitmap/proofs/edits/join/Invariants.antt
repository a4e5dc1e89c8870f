use Rattle.std.proofs.Common.{◌≡◌, ◌+◌, ◌-◌, ◌≤◌, ◌++◌, length, take, drop, vec_len, vec_capacity}
use Rattle.runs_bitmap.specs.Runs.{rendered, AreApart, reach}
use Rattle.runs_bitmap.proofs.edits.join.Given as goal

-- the bits so far, and those of the runs that are left, are those of both
abbrev pub invariant-loop-run : goal.invariant-loop-run
invariant-loop-run l =
    let at = reach 0 (take l.run-index l.more) in
    record {
      apart : AreApart 0 l.runs.items (l.len + at);
      ahead : AreApart at (drop l.run-index l.more) l.more_len;
      within : at ≤ l.more_len;
      bits : rendered 0 l.runs.items (l.len + at) ++ rendered at (drop l.run-index l.more) l.more_len ≡ rendered 0 l.initial.runs.items l.len ++ rendered 0 l.more l.more_len;
      room : vec_len l.runs + (length l.more - l.run-index) ≤ vec_capacity l.runs;
    }
