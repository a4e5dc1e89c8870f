use Rattle.std.proofs.Common.{arith}
use Rattle.std.proofs.lemmas.Int.{ints}
use Rattle.query_literal.proofs.moment.nanoseconds.Goals as goal

pub returns : goal.returns
returns c = omega (arith, ints)
