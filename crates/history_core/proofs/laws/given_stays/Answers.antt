use Rattle.history_core.proofs.GivenLemmas.{given}
use Rattle.history_core.proofs.laws.given_stays.Goals as goal

pub returns : goal.returns
returns c = given
