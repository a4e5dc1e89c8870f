use Rattle.query_parse.proofs.LiteralWords.{literals_are_read}
use Rattle.query_parse.proofs.laws.literals_are_read.Goals as goal

pub returns : goal.returns
returns c = literals_are_read
