use Rattle.event_history.proofs.GrowthLemmas.{grows}
use Rattle.event_history.proofs.laws.histories_grow.Goals as goal

pub returns : goal.returns
returns c = grows
