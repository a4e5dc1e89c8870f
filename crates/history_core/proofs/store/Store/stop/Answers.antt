use Rattle.std.proofs.Common.{◌≡◌, ◌+◌, ◌<◌, ℕ, Option, None, Some, length, max, ap, ◌∙◌, arith, sym}
use Rattle.event_history.specs.Choices.{again_of, stop_at}
use Rattle.event_history.specs.Histories.{batch_count, first_of, past}
use Rattle.history_core.specs.Shown.{Shown}
use Rattle.history_core.specs.Stores.{IsKept}
use Rattle.history_core.proofs.RangeLemmas.{stops_here, stops_nowhere}
use Rattle.history_core.proofs.store.Store.stop.Goals as goal

pub returns-then-holds_up-clause-again : goal.returns-then-holds_up-clause-again
returns-then-holds_up-clause-again c =
    let now = c.args.self.now in
    let low = c.args.low in
    let high = c.args.high in
    let before = past now.history in
    let again : again_of low high before ≡ Some c.loop-at.at =
    stops_here low high before c.loop-at.at (sym c.holds_up.ensures ∙ c.if-holds_up.true) c.loop-at.invariant (omega (arith, c.loop-at-test.true, c.reach-begin.ensures.ends)) in
    sym again

pub returns-then-holds_up-clause-end : goal.returns-then-holds_up-clause-end
returns-then-holds_up-clause-end c =
    let now = c.args.self.now in
    let low = c.args.low in
    let high = c.args.high in
    let before = past now.history in
    let again : again_of low high before ≡ Some c.loop-at.at =
    stops_here low high before c.loop-at.at (sym c.holds_up.ensures ∙ c.if-holds_up.true) c.loop-at.invariant (omega (arith, c.loop-at-test.true, c.reach-begin.ensures.ends)) in
    let i = c.self.inside in
    let count : length i.kept.items ≡ batch_count before = c.self.invariant.main.count ∙ ap (λ (s : Shown). batch_count (past s.history)) c.self.view_is in
    let there : c.loop-at.at < length i.kept.items = omega (arith, c.loop-at-test.true, c.reach-begin.ensures.ends, count) in
    let one : IsKept (past i.entries.items) c.loop-at.at c.index.result.now = c.self.invariant.main.each c.loop-at.at c.index.result.now there c.index.ensures in
    let first : c.index.result.now.first ≡ first_of c.loop-at.at before = one.1 ∙ ap (λ (s : Shown). first_of c.loop-at.at (past s.history)) c.self.view_is in
    c.max.ensures ∙ ap (λ (n : ℕ). max low n) first ∙ sym (ap (λ (o : Option ℕ). stop_at low high before o) again)

pub returns-clause-again : goal.returns-clause-again
returns-clause-again c =
    let now = c.args.self.now in
    let low = c.args.low in
    let high = c.args.high in
    let before = past now.history in
    let again : again_of low high before ≡ None =
    stops_nowhere low high before c.loop-at.at c.loop-at.invariant (λ b h. c.reach-begin.ensures.after b (b + 1) (omega (arith, h, c.loop-at-test.false))) in
    sym again

pub returns-clause-end : goal.returns-clause-end
returns-clause-end c =
    let now = c.args.self.now in
    let low = c.args.low in
    let high = c.args.high in
    let before = past now.history in
    let again : again_of low high before ≡ None =
    stops_nowhere low high before c.loop-at.at c.loop-at.invariant (λ b h. c.reach-begin.ensures.after b (b + 1) (omega (arith, h, c.loop-at-test.false))) in
    sym (ap (λ (o : Option ℕ). stop_at low high before o) again)
