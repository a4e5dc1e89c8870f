use Rattle.event_history.proofs.CoverLemmas.{parts_cover}
use Rattle.event_history.proofs.laws.parts_cover.Goals as goal

pub returns : goal.returns
returns c = parts_cover
