use Rattle.script_desk.proofs.StayLemmas.{kept}
use Rattle.script_desk.proofs.laws.kept_stays.Goals as goal

pub returns : goal.returns
returns c = kept
