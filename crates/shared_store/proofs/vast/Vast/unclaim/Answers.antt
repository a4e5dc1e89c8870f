use Rattle.shared_store.proofs.TurnLemmas.{claims_stay}
use Rattle.shared_store.proofs.vast.Vast.unclaim.Goals as goal

pub turn-requires-clause-needs : goal.turn-requires-clause-needs
turn-requires-clause-needs g c f framed = claims_stay c.given_stays.ensures f (g.P.Turner.standing c.args.pass.now).seen c.args.claim c.requires.known
