use Rattle.std.proofs.Common.{◌+◌, ◌≤◌, arith}
use Rattle.event_batch.specs.Contents.{content_of}
use Rattle.event_history.specs.Events.{events_of, matches}
use Rattle.exporter.proofs.PageLemmas.{events_long, found_step}
use Rattle.exporter.proofs.rows.push_all.Goals as goal

pub loop-place-preserved : goal.loop-place-preserved
loop-place-preserved c =
    let b = c.args.batch.now in
    let i = c.loop-place.place in
    let next : i + 1 ≤ c.args.high = omega (arith, c.loop-place-test.true) in (
      next,
      found_step (matches c.args.expr.now) c.args.first i (i + 1) c.args.high (events_of (content_of b)) c.loop-place.founds c.push_row.new.founds _
          (omega arith) next (omega (arith, events_long b, c.requires.end)) (λ k e from to is. absurd (omega (arith, from, to))) c.in_ok-push_row.ensures c.loop-place.invariant.1,
    )
