use Rattle.std.proofs.Common.{ap, ◌∙◌, arith, sym, length, ◌≤◌, List}
use Rattle.event_history.specs.Histories.{is_indexed, past}
use Rattle.history_core.specs.declared.kept.Kept.{Kept}
use Rattle.history_core.specs.Shown.{Shown}
use Rattle.history_core.proofs.LegalLemmas.{unnamed}
use Rattle.partition.proofs.ListLemmas.{not_below}
use Rattle.history_core.proofs.store.Store.indexed.Goals as goal

pub returns-in-None : goal.returns-in-None
returns-in-None c =
    let i = c.self.inside in
    let far : length i.kept.items ≤ c.args.batch = omega (arith, not_below c.args.batch (length c.deref.result.now) c.in-None.ensures.lookup.0, ap (λ (xs : List Kept). length xs) c.deref.ensures.value) in
    sym (unnamed i.limits (past i.entries.items) c.args.batch c.self.invariant.main.legal (omega (arith, far, c.self.invariant.main.count))).0
    ∙ ap (λ (s : Shown). is_indexed c.args.batch (past s.history)) c.self.view_is
