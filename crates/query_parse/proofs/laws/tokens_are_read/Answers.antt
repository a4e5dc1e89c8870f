use Rattle.query_parse.proofs.TokenTexts.{tokens_are_read}
use Rattle.query_parse.proofs.laws.tokens_are_read.Goals as goal

pub returns : goal.returns
returns c = tokens_are_read
