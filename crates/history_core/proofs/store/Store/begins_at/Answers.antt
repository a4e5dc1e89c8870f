use Rattle.std.proofs.Common.{◌+◌, ◌-◌, ◌/◌, ◌<◌, ℕ, length, arith}
use Rattle.event_history.specs.Histories.{past}
use Rattle.history_core.specs.Stores.{IsKept}
use Rattle.event_history.proofs.CoverLemmas.{first_up}
use Rattle.history_core.proofs.store.Store.begins_at.Goals as goal

pub loop-low-preserved-then-index-id : goal.loop-low-preserved-then-index-id
loop-low-preserved-then-index-id c =
    let i = c.self.inside in
    let before = past i.entries.items in
    let v = c.loop-low.invariant in
    let middle : ℕ = c.loop-low.low + (c.loop-low.high - c.loop-low.low) / 2 in
    let there : middle < length i.kept.items = omega (arith, c.loop-low-test.true, v.1) in
    let one : IsKept before middle c.index.result.now = c.self.invariant.main.each middle c.index.result.now there c.index.ensures in (
      omega (arith, c.loop-low-test.true),
      v.1,
      λ b h. omega (arith, first_up before b middle (omega (arith, h)), one.1, c.if-index-id.true),
      v.3,
    )

pub loop-low-preserved : goal.loop-low-preserved
loop-low-preserved c =
    let i = c.self.inside in
    let before = past i.entries.items in
    let v = c.loop-low.invariant in
    let middle : ℕ = c.loop-low.low + (c.loop-low.high - c.loop-low.low) / 2 in
    let there : middle < length i.kept.items = omega (arith, c.loop-low-test.true, v.1) in
    let one : IsKept before middle c.index.result.now = c.self.invariant.main.each middle c.index.result.now there c.index.ensures in (
      omega arith,
      omega (arith, there),
      v.2,
      λ b h k. omega (arith, first_up before middle b h, one.1, c.if-index-id.false),
    )
