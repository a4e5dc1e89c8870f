use Rattle.std.proofs.Common.{ap, subst, sym, ◌∙◌, arith}
use Rattle.std.specs.List.{Contains}
use Rattle.event_history.specs.Pieces.{Held}
use Rattle.exporter.specs.Pages.{held_by}
use Rattle.exporter.specs.Walks.{Gathered, gathered, live_reading}
use Rattle.exporter.proofs.CacheLemmas.{only_then}
use Rattle.exporter.proofs.WalkLemmas.{decoded_few, walk_next}
use Rattle.exporter.proofs.live.add_batches.Goals as goal

pub add_batch-requires-clause-own : goal.add_batch-requires-clause-own
add_batch-requires-clause-own g c =
    subst (λ (h : Held). Contains (held_by c.args.taken.now.snapshot) h) (sym c.batch-item.is)
    (c.requires.own c.loop-batch.batch-index c.batch-item.result c.loop-batch-test.true)

pub returns-in_err-add_batch-clause-only : goal.returns-in_err-add_batch-clause-only
returns-in_err-add_batch-clause-only g c =
    only_then (held_by c.args.taken.now.snapshot) c.args.cache.now c.loop-batch.cache c.add_batch.new.cache c.loop-batch.invariant.only c.in_err-add_batch.ensures.only

pub loop-batch-preserved : goal.loop-batch-preserved
loop-batch-preserved g c =
    let t = c.args.taken.now.snapshot.taking in
    let reading = live_reading t.expr t.live_from t.live_to in
    let held = c.args.held.now in
    let i = c.loop-batch.batch-index in
    let h = c.batch-item.result in
    let now : Gathered = gathered c.loop-batch.tally c.loop-batch.cache c.loop-batch.steps in
    let next : Gathered = gathered c.add_batch.new.tally c.add_batch.new.cache c.add_batch.new.steps in
    let steps = ap (λ (x : Gathered). x.steps) c.in_ok-add_batch.ensures.page in
    record {
      page = sym (walk_next reading held i h now next c.loop-batch-test.true c.batch-item.is c.in_ok-add_batch.ensures.page) ∙ c.loop-batch.invariant.page;
      few = omega (arith, steps, decoded_few (reading h).touched h c.loop-batch.cache, c.loop-batch.invariant.few);
      only = only_then (held_by c.args.taken.now.snapshot) c.args.cache.now c.loop-batch.cache c.add_batch.new.cache c.loop-batch.invariant.only c.in_ok-add_batch.ensures.only;
      agree = c.in_ok-add_batch.ensures.agree;
    }
