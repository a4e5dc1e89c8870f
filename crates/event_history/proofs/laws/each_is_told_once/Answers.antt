use Rattle.event_history.proofs.OnceLemmas.{once}
use Rattle.event_history.proofs.laws.each_is_told_once.Goals as goal

pub returns : goal.returns
returns c = once
