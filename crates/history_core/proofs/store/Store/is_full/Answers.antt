use Rattle.std.proofs.Common.{◌≡◌, ◌+◌, ◌*◌, ℕ, ap, ◌∙◌, arith, sym}
use Rattle.event_history.specs.Histories.{is_indexed, past}
use Rattle.history_core.specs.Shown.{Shown}
use Rattle.history_core.proofs.GroupLemmas.{fails_at}
use Rattle.history_core.proofs.store.Store.is_full.Goals as goal

pub returns-then-not-indexed : goal.returns-then-not-indexed
returns-then-not-indexed c =
    let now = c.args.self.now in
    let same : c.self.inside.limits.group ≡ now.limits.group = ap (λ (s : Shown). s.limits.group) c.self.view_is in
    sym (fails_at (λ (j : ℕ). is_indexed (c.args.number * now.limits.group + j) (past now.history)) now.limits.group c.loop-i.i
    (omega (arith, same, c.loop-i-test.true))
    (ap (λ (g : ℕ). is_indexed (c.args.number * g + c.loop-i.i) (past now.history)) (sym same) ∙ sym c.indexed.ensures ∙ c.if-not-indexed.true))
