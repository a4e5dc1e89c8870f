use Rattle.exporter.proofs.TakenLemmas.{finds}
use Rattle.exporter.proofs.laws.finds_the_answers.Goals as goal

pub returns : goal.returns
returns c = finds
