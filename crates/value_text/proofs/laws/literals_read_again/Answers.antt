use Rattle.value_text.proofs.LiteralLemmas.{literal_again}
use Rattle.value_text.proofs.laws.literals_read_again.Goals as goal

pub returns : goal.returns
returns c = literal_again
