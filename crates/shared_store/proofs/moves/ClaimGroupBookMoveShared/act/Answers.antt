use Rattle.shared_store.proofs.TurnLemmas.{claimed_group}
use Rattle.shared_store.proofs.moves.ClaimGroupBookMoveShared.act.Goals as goal

pub returns : goal.returns
returns c =
    claimed_group c.args.state.now.store.limits c.args.state.now.store.history c.args._seat c.claim_group.result c.entries.ensures.legal
    c.claim_group.ensures.step c.claim_group.ensures.given c.claim_group.ensures.merged c.claim_group.ensures.mergeable
