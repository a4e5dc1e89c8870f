use Rattle.round_robin.proofs.DealLemmas.{length_dealt}
use Rattle.round_robin.proofs.laws.hands_get_their_share.Goals as goal

pub returns : goal.returns
returns g c = length_dealt c.args.hands c.args.hand c.args.items.now
