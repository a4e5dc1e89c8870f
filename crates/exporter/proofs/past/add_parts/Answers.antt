use Rattle.std.proofs.Common.{◌≡◌, ◌+◌, List, map, drop, ap, sym, ◌∙◌, arith}
use Rattle.std.specs.List.{Contains}
use Rattle.event_history.specs.Pieces.{Held}
use Rattle.partition.specs.Parts.{piece_of}
use Rattle.exporter.specs.Pages.{held_by}
use Rattle.exporter.specs.Walks.{Gathered, gathered, past_reading, reads, walk}
use Rattle.exporter.proofs.CacheLemmas.{only_then}
use Rattle.exporter.proofs.PartLemmas.{on_err}
use Rattle.exporter.proofs.SplitLemmas.{all_back, all_front, cut, next_cover}
use Rattle.exporter.proofs.WalkLemmas.{reads_append, walk_append, walk_steps}
use Rattle.exporter.proofs.past.add_parts.Goals as goal

pub add_part-requires-clause-own : goal.add_part-requires-clause-own
add_part-requires-clause-own g c =
    all_front (λ h. Contains (held_by c.args.taken.now.snapshot) h) c.loop-part.rest.now c.split_off.result.0.now c.split_off.result.1.now c.split_off.ensures.whole c.loop-part.invariant.own

pub add_part-requires-clause-stand : goal.add_part-requires-clause-stand
add_part-requires-clause-stand g c =
    let parts = c.args.parts.now in
    let i = c.loop-part.part-index in
    let both = cut (piece_of c.part-item.result) (map piece_of (drop (i + 1) parts)) c.loop-part.rest.now c.split_off.result.0.now c.split_off.result.1.now
    (next_cover parts i c.part-item.result c.loop-part.rest.now c.loop-part-test.true c.part-item.is c.loop-part.invariant.cover)
    c.split_off.ensures.whole c.split_off.ensures.mine c.split_off.ensures.rest in
    both.0

pub returns-in_err-add_part-clause-few : goal.returns-in_err-add_part-clause-few
returns-in_err-add_part-clause-few g c =
    let t = c.args.taken.now.snapshot.taking in
    let reading = past_reading t.expr t.past_from t.past_to in
    let all : reads reading c.loop-part.rest.now ≡ reads reading c.split_off.result.0.now + reads reading c.split_off.result.1.now =
    ap (λ (hs : List Held). reads reading hs) c.split_off.ensures.whole ∙ reads_append reading c.split_off.result.0.now c.split_off.result.1.now in
    on_err c.from_residual.result _ (omega (arith, all, c.in_err-add_part.ensures.few, c.loop-part.invariant.few))

pub returns-in_err-add_part-clause-only : goal.returns-in_err-add_part-clause-only
returns-in_err-add_part-clause-only g c =
    only_then (held_by c.args.taken.now.snapshot) c.args.cache.now c.loop-part.cache c.add_part.new.cache c.loop-part.invariant.only c.in_err-add_part.ensures.only

pub loop-part-preserved : goal.loop-part-preserved
loop-part-preserved g c =
    let t = c.args.taken.now.snapshot.taking in
    let reading = past_reading t.expr t.past_from t.past_to in
    let parts = c.args.parts.now in
    let i = c.loop-part.part-index in
    let rest = c.loop-part.rest.now in
    let mine = c.split_off.result.0.now in
    let others = c.split_off.result.1.now in
    let now : Gathered = gathered c.loop-part.tally c.loop-part.cache c.loop-part.steps in
    let next : Gathered = gathered c.add_part.new.tally c.add_part.new.cache c.add_part.new.steps in
    let steps : next.steps ≡ (walk reading mine now).steps = ap (λ (x : Gathered). x.steps) c.in_ok-add_part.ensures.page in
    let all : reads reading rest ≡ reads reading mine + reads reading others =
    ap (λ (hs : List Held). reads reading hs) c.split_off.ensures.whole ∙ reads_append reading mine others in
    let walked : walk reading rest now ≡ walk reading others next =
    ap (λ (hs : List Held). walk reading hs now) c.split_off.ensures.whole ∙ walk_append reading mine others now
    ∙ ap (λ (x : Gathered). walk reading others x) (sym c.in_ok-add_part.ensures.page) in
    let both = cut (piece_of c.part-item.result) (map piece_of (drop (i + 1) parts)) rest mine others
    (next_cover parts i c.part-item.result rest c.loop-part-test.true c.part-item.is c.loop-part.invariant.cover)
    c.split_off.ensures.whole c.split_off.ensures.mine c.split_off.ensures.rest in
    record {
      page = sym walked ∙ c.loop-part.invariant.page;
      few = omega (arith, steps, all, walk_steps reading mine now, c.loop-part.invariant.few);
      only = only_then (held_by c.args.taken.now.snapshot) c.args.cache.now c.loop-part.cache c.add_part.new.cache c.loop-part.invariant.only c.in_ok-add_part.ensures.only;
      agree = c.in_ok-add_part.ensures.agree;
      own = all_back (λ h. Contains (held_by c.args.taken.now.snapshot) h) rest mine others c.split_off.ensures.whole c.loop-part.invariant.own;
      cover = both.1;
    }
