use Rattle.query_parse.proofs.QuotedTexts.{texts_are_read}
use Rattle.query_parse.proofs.laws.texts_are_read.Goals as goal

pub returns : goal.returns
returns c = texts_are_read
