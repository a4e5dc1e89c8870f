use Rattle.std.proofs.Common.{◌≡◌, length, ap, ◌∙◌, arith}
use Rattle.event_history.specs.Histories.{batch_count, past}
use Rattle.history_core.specs.Shown.{Shown}
use Rattle.history_core.proofs.WaitingLemmas.{counted}
use Rattle.history_core.proofs.store.Store.batches_from.Goals as goal

pub returns : goal.returns
returns c =
    let i = c.self.inside in
    let before = past c.args.self.now.history in
    let count : length i.kept.items ≡ batch_count before = c.self.invariant.main.count ∙ ap (λ (s : Shown). batch_count (past s.history)) c.self.view_is in
    counted before c.args.id c.len.result c.begins_at.result (omega (arith, c.len.ensures, i.kept.ok.0, count)) c.begins_at.ensures.within c.begins_at.ensures.before c.begins_at.ensures.after
