use Rattle.shared_store.proofs.TurnLemmas.{groups_stay}
use Rattle.shared_store.proofs.vast.Vast.publish_group.Goals as goal

pub turn-requires-clause-needs : goal.turn-requires-clause-needs
turn-requires-clause-needs g c f framed = (groups_stay c.given_stays.ensures f (g.P.Turner.standing c.args.pass.now).seen c.args.group (c.requires.known f framed), c.requires.sealed)
