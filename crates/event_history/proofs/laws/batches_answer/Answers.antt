use Rattle.event_history.proofs.SnapshotLemmas.{batches_answer}
use Rattle.event_history.proofs.laws.batches_answer.Goals as goal

pub returns : goal.returns
returns c = batches_answer
