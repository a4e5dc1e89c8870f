use Rattle.shared_store.proofs.TurnLemmas.{batches_stay}
use Rattle.shared_store.proofs.vast.Vast.claim_for.Goals as goal

pub turn-requires-clause-needs : goal.turn-requires-clause-needs
turn-requires-clause-needs g c f framed = batches_stay c.histories_grow.ensures f (g.P.Turner.standing c.args.pass.now).seen c.args.batch c.requires.known
