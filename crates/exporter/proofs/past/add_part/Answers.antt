use Rattle.std.proofs.Common.{ap, subst, sym, ◌∙◌, arith}
use Rattle.std.specs.List.{Contains}
use Rattle.event_history.specs.Pieces.{Held}
use Rattle.exporter.specs.Pages.{held_by}
use Rattle.exporter.specs.Walks.{Gathered, gathered, past_reading}
use Rattle.exporter.proofs.CacheLemmas.{only_then}
use Rattle.exporter.proofs.WalkLemmas.{decoded_few, reads_next, walk_next}
use Rattle.exporter.proofs.past.add_part.Goals as goal

pub add_batch-requires-clause-own : goal.add_batch-requires-clause-own
add_batch-requires-clause-own g c =
    subst (λ (h : Held). Contains (held_by c.args.taken.now.snapshot) h) (sym c.held-item.is)
    (c.requires.own c.loop-held.held-index c.held-item.result c.loop-held-test.true)

pub returns-in_err-add_batch-clause-only : goal.returns-in_err-add_batch-clause-only
returns-in_err-add_batch-clause-only g c =
    only_then (held_by c.args.taken.now.snapshot) c.args.cache.now c.loop-held.cache c.add_batch.new.cache c.loop-held.invariant.only c.in_err-add_batch.ensures.only

pub loop-held-preserved : goal.loop-held-preserved
loop-held-preserved g c =
    let t = c.args.taken.now.snapshot.taking in
    let reading = past_reading t.expr t.past_from t.past_to in
    let mine = c.args.mine.now in
    let i = c.loop-held.held-index in
    let h = c.held-item.result in
    let now : Gathered = gathered c.loop-held.tally c.loop-held.cache c.loop-held.steps in
    let next : Gathered = gathered c.add_batch.new.tally c.add_batch.new.cache c.add_batch.new.steps in
    let steps = ap (λ (x : Gathered). x.steps) c.in_ok-add_batch.ensures.page in
    record {
      page = sym (walk_next reading mine i h now next c.loop-held-test.true c.held-item.is c.in_ok-add_batch.ensures.page) ∙ c.loop-held.invariant.page;
      few = omega (arith, steps, decoded_few (reading h).touched h c.loop-held.cache, reads_next reading mine i h c.loop-held-test.true c.held-item.is, c.loop-held.invariant.few);
      only = only_then (held_by c.args.taken.now.snapshot) c.args.cache.now c.loop-held.cache c.add_batch.new.cache c.loop-held.invariant.only c.in_ok-add_batch.ensures.only;
      agree = c.in_ok-add_batch.ensures.agree;
    }
