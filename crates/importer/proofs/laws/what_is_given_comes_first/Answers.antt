use Rattle.importer.proofs.LawLemmas.{first_batches}
use Rattle.importer.proofs.laws.what_is_given_comes_first.Goals as goal

pub returns : goal.returns
returns c = first_batches
