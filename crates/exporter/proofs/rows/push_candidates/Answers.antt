use Rattle.std.proofs.Common.{◌≡◌, ◌+◌, ◌≤◌, ◌<◌, ℕ, List, Some, length, arith, false}
use Rattle.std.specs.List.{slice_get}
use Rattle.event_batch.specs.Contents.{content_of}
use Rattle.event_history.specs.Events.{Event, events_of, matches}
use Rattle.exporter.specs.Pages.{is_unsure, may_match}
use Rattle.exporter.proofs.PageLemmas.{count_step, events_long, found_step, no_candidate, no_look, no_match, rows_few}
use Rattle.exporter.proofs.rows.push_candidates.Goals as goal

pub overflow_add-checked : goal.overflow_add-checked
overflow_add-checked c =
    let events : List Event = events_of (content_of c.args.batch.now) in
    let i = c.loop-place.place in
    let end : c.args.high ≤ length events = omega (arith, events_long c.args.batch.now, c.requires.end) in
    let all = count_step (is_unsure c.args.expr.now) c.args.first i (i + 1) c.args.high events c.loop-place.checked c.in_ok-more.more _
    (omega arith) (omega (arith, c.loop-place-test.true)) end (λ k e from to is. absurd (omega (arith, from, to))) c.in_ok-more.ensures.checked c.loop-place.invariant.checked in
    omega (arith, all, rows_few (is_unsure c.args.expr.now) c.args.first c.args.low c.args.high events, c.ranges.high.fits)

pub loop-place-preserved : goal.loop-place-preserved
loop-place-preserved c =
    let expr = c.args.expr.now in
    let events : List Event = events_of (content_of c.args.batch.now) in
    let i = c.loop-place.place in
    let next = c.next_candidate-place.result in
    let found = c.next_candidate-place.ensures in
    let end : c.args.high ≤ length events = omega (arith, events_long c.args.batch.now, c.requires.end) in
    let later : i < next = omega (arith, found.after) in
    let none : (k : ℕ) (e : Event) → i + 1 ≤ k → k < next → slice_get events k ≡ Some e → may_match expr e ≡ false =
    λ k e from to is. no_candidate expr c.args.pair.now c.args.offset events k e c.requires.tells is (found.first k from to) in
    record {
      order = found.within;
      candidate = found.one;
      found = found_step (matches expr) c.args.first i next c.args.high events c.loop-place.founds c.push_candidate.new.founds _
          later found.within end (λ k e from to is. no_match expr e (none k e from to is)) c.in_ok-more.ensures.found c.loop-place.invariant.found;
      checked = count_step (is_unsure expr) c.args.first i next c.args.high events c.loop-place.checked c.in_ok-more.more _
          later found.within end (λ k e from to is. no_look expr e (none k e from to is)) c.in_ok-more.ensures.checked c.loop-place.invariant.checked;
    }
