use Rattle.importer.proofs.LawLemmas.{batches_join, steps_join}
use Rattle.importer.proofs.laws.answers_join.Goals as goal

pub returns-clause-steps : goal.returns-clause-steps
returns-clause-steps c = steps_join

pub returns-clause-batches : goal.returns-clause-batches
returns-clause-batches c = batches_join
