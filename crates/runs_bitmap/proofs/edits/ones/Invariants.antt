use Rattle.std.proofs.Common.{◌≡◌, ◌+◌, ◌≤◌, take, drop}
use Rattle.std.specs.List.{count_by}
use Rattle.runs_bitmap.specs.Runs.{rendered, AreApart, reach}
use Rattle.runs_bitmap.proofs.edits.ones.Given as goal

-- the ones so far, and those of the runs that are left, are all
abbrev pub invariant-loop-run : goal.invariant-loop-run
invariant-loop-run l =
    let at = reach 0 (take l.run-index l.runs) in
    record {
      ahead : AreApart at (drop l.run-index l.runs) l.len;
      fits : l.ones ≤ at;
      all : l.ones + count_by (λ bit. bit) (rendered at (drop l.run-index l.runs) l.len) ≡ count_by (λ bit. bit) (rendered 0 l.runs l.len);
    }
