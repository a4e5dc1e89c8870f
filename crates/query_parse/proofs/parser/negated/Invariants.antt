use Rattle.std.proofs.Common.{◌≡◌}
use Rattle.query_parse.specs.Parsing.{negated}
use Rattle.query_parse.proofs.parser.negated.Given as goal

abbrev pub invariant-loop : goal.invariant-loop
invariant-loop l = l.whole ≡ negated l.counter l.fn.expr
