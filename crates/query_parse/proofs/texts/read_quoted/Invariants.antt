use Rattle.std.proofs.Common.{◌≡◌, ◌-◌, ◌≤◌, length, drop}
use Rattle.query_parse.specs.Tokens.{quoted}
use Rattle.query_parse.proofs.TokenLemmas.{ahead}
use Rattle.query_parse.proofs.texts.read_quoted.Given as goal

abbrev pub invariant-loop-at : goal.invariant-loop-at
invariant-loop-at l = (l.at ≤ length l.rest) × (quoted l.rest ≡ ahead l.content l.at (quoted (drop l.at l.rest)))

abbrev pub decreases-loop-at : goal.decreases-loop-at
decreases-loop-at l = length l.rest - l.at
