use Rattle.importer.proofs.LawLemmas.{whole_batches, whole_steps}
use Rattle.importer.proofs.laws.all_is_given.Goals as goal

pub returns-clause-steps : goal.returns-clause-steps
returns-clause-steps c = whole_steps

pub returns-clause-batches : goal.returns-clause-batches
returns-clause-batches c = whole_batches
