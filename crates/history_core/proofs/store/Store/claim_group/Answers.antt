use Rattle.std.proofs.Common.{◌∙◌, sym}
use Rattle.event_history.specs.Histories.{past}
use Rattle.history_core.proofs.GroupLemmas.{next_is_full}
use Rattle.history_core.proofs.store.Store.claim_group.Goals as goal

pub fragments-requires : goal.fragments-requires
fragments-requires c =
    let now = c.args.self.now in
    next_is_full now.limits.group (past now.history) c.in-Some.number (sym c.next_group.ensures ∙ c.in-Some.is)

pub returns-clause-given : goal.returns-clause-given
returns-clause-given c =
    let now = c.args.self.now in
    (next_is_full now.limits.group (past now.history) c.in-Some.number (sym c.next_group.ensures ∙ c.in-Some.is), c.in_ok-fragments.ensures.pieces)
