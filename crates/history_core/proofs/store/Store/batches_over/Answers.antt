use Rattle.std.proofs.Common.{◌+◌, ◌∙◌, arith, sym}
use Rattle.event_history.specs.Histories.{batch_count, past}
use Rattle.history_core.proofs.RangeLemmas.{held_rest, none_held}
use Rattle.history_core.proofs.store.Store.batches_over.Goals as goal

pub loop-at-init : goal.loop-at-init
loop-at-init c =
    let now = c.args.self.now in
    let low = c.args.low in
    let high = c.args.high in
    let before = past now.history in (
      c.new-held.ensures.items ∙ sym (none_held low high before c.reach-begin.result.0 (λ b h. c.reach-begin.ensures.before b (b + 1) (omega (arith, h)))),
      c.reach-begin.ensures.begins,
    )

pub returns : goal.returns
returns c =
    let now = c.args.self.now in
    let low = c.args.low in
    let high = c.args.high in
    let before = past now.history in
    c.loop-at.invariant.0
    ∙ held_rest low high before c.loop-at.at (batch_count before) c.loop-at.invariant.1 (λ b h. c.reach-begin.ensures.after b (b + 1) (omega (arith, h, c.loop-at-test.false)))
