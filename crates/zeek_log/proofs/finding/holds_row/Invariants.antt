use Rattle.std.proofs.Common.{length, ◌-◌, ◌≤◌}
use Rattle.zeek_log.specs.Finding.{IsLineStart}
use Rattle.zeek_log.proofs.finding.holds_row.Given as goal

abbrev pub invariant-loop-at : goal.invariant-loop-at
invariant-loop-at l = IsLineStart l.held l.at × (l.at ≤ length l.held)

abbrev pub decreases-loop-at : goal.decreases-loop-at
decreases-loop-at l = length l.held - l.at
