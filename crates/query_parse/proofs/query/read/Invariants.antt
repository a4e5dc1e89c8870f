use Rattle.std.proofs.Common.{length, ◌-◌}
use Rattle.query_parse.proofs.PieceLemmas.{Reading}
use Rattle.query_parse.proofs.query.read.Given as goal

abbrev pub invariant-loop-at : goal.invariant-loop-at
invariant-loop-at l = Reading l.text l.parser l.at

abbrev pub decreases-loop-at : goal.decreases-loop-at
decreases-loop-at l = length l.text - l.at
