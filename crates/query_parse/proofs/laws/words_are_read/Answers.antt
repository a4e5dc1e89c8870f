use Rattle.query_parse.proofs.WordLemmas.{words_are_read}
use Rattle.query_parse.proofs.laws.words_are_read.Goals as goal

pub returns : goal.returns
returns c = words_are_read
