use Rattle.round_robin.proofs.DealLemmas.{same_hands}
use Rattle.round_robin.proofs.laws.hands_tell_the_list.Goals as goal

pub returns : goal.returns
returns g c = same_hands c.args.hands c.args.items.now c.args.others.now c.requires.some c.requires.length c.requires.same
