use Rattle.event_history.proofs.TellingLemmas.{exactly}
use Rattle.event_history.proofs.laws.delivered_exactly.Goals as goal

pub returns : goal.returns
returns c = exactly
