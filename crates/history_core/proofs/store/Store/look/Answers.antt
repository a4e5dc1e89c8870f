use Rattle.std.proofs.Common.{ℕ, ap, ◌∙◌, sym}
use Rattle.event_history.specs.Choices.{reaches}
use Rattle.event_history.specs.Histories.{past}
use Rattle.history_core.proofs.RangeLemmas.{told_indexed}
use Rattle.history_core.proofs.store.Store.look.Goals as goal

pub parts_over-requires : goal.parts_over-requires
parts_over-requires c =
    let before = past c.args.self.now.history in
    let from = c.index-query.result.now.past_to in
    let to = c.index-query.result.now.registered in
    λ b h. told_indexed from to before b (ap (λ (n : ℕ). reaches from n before b) (sym c.stop-past_to.ensures.end) ∙ h)
