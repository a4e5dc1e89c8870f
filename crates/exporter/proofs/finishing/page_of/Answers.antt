use Rattle.std.proofs.Common.{◌≡◌, ◌+◌, ◌<◌, ◌^◌, ℕ, List, length, ap, subst, sym, ◌∙◌, arith}
use Rattle.std.specs.List.{All, Contains}
use Rattle.event_history.specs.Covers.{Cover}
use Rattle.event_history.specs.Pieces.{Held, Piece}
use Rattle.exporter.specs.Pages.{held_by}
use Rattle.exporter.specs.Walks.{Gathered, gathered, reads, walk}
use Rattle.exporter.proofs.FinishLemmas.{end, end_cache, end_checked, end_found, end_loads, end_of, end_steps, end_touched, own_live, own_past, past_of, start_of, touched_long}
use Rattle.exporter.proofs.PartLemmas.{on_err}
use Rattle.exporter.proofs.TakenLemmas.{taken_cover}
use Rattle.exporter.proofs.WalkLemmas.{walk_steps}
use Rattle.exporter.proofs.finishing.page_of.Goals as goal

pub add_parts-requires-clause-own : goal.add_parts-requires-clause-own
add_parts-requires-clause-own g c =
    let x = c.args.taken.now.snapshot in
    subst (λ (hs : List Held). All (λ h. Contains (held_by x) h) hs) (sym c.past_batches.ensures) (own_past x)

pub add_parts-requires-clause-cover : goal.add_parts-requires-clause-cover
add_parts-requires-clause-cover g c =
    let x = c.args.taken.now.snapshot in
    subst (λ (ps : List Piece). Cover ps c.past_batches.result.now) (sym c.parts-parts.ensures.parts)
    (subst (λ (hs : List Held). Cover x.parts hs) (sym c.past_batches.ensures) (taken_cover x c.parts-parts.ensures.taken))

pub returns-in_err-add_parts-clause-few : goal.returns-in_err-add_parts-clause-few
returns-in_err-add_parts-clause-few g c =
    let x = c.args.taken.now.snapshot in
    let all : reads (past_of x) c.past_batches.result.now ≡ reads (past_of x) x.past_batches = ap (λ (hs : List Held). reads (past_of x) hs) c.past_batches.ensures in
    on_err c.from_residual.result _ (omega (arith, all, touched_long x, c.in_err-add_parts.ensures.few))

pub add_batches-requires-clause-own : goal.add_batches-requires-clause-own
add_batches-requires-clause-own g c =
    let x = c.args.taken.now.snapshot in
    subst (λ (hs : List Held). All (λ h. Contains (held_by x) h) hs) (sym c.live_batches.ensures) (own_live x)

pub returns-in_err-add_batches-clause-few : goal.returns-in_err-add_batches-clause-few
returns-in_err-add_batches-clause-few g c =
    let x = c.args.taken.now.snapshot in
    let begin : Gathered = gathered c.new-tally.result c.args.cache.now c.args.steps.now in
    let all : reads (past_of x) c.past_batches.result.now ≡ reads (past_of x) x.past_batches = ap (λ (hs : List Held). reads (past_of x) hs) c.past_batches.ensures in
    let steps : c.add_parts.new.steps ≡ (walk (past_of x) c.past_batches.result.now begin).steps = ap (λ (y : Gathered). y.steps) c.in_ok-add_parts.ensures.page in
    let live : length c.live_batches.result.now ≡ length x.live_batches = ap (λ (hs : List Held). length hs) c.live_batches.ensures in
    on_err c.from_residual-in_err-add_batches.result _
    (omega (arith, all, steps, live, walk_steps (past_of x) c.past_batches.result.now begin, touched_long x, c.in_err-add_batches.ensures.few))

pub returns-clause-page : goal.returns-clause-page
returns-clause-page g c =
    let x = c.args.taken.now.snapshot in
    let cache = c.args.cache.now in
    let steps = c.args.steps.now in
    let begin : Gathered = gathered c.new-tally.result cache steps in
    let mid : Gathered = gathered c.add_parts.new.tally c.add_parts.new.cache c.add_parts.new.steps in
    let last : Gathered = gathered c.add_batches.new.tally c.add_batches.new.cache c.add_batches.new.steps in
    let tally = c.new-tally.result in
    let begins : begin ≡ _ = start_of tally.found tally.checked tally.touched tally.loads cache steps c.new-tally.ensures.found c.new-tally.ensures.checked c.new-tally.ensures.touched c.new-tally.ensures.loads in
    let ends : last ≡ end x cache steps =
    end_of x c.past_batches.result.now c.live_batches.result.now cache steps begin mid last begins c.past_batches.ensures c.live_batches.ensures c.in_ok-add_parts.ensures.page c.in_ok-add_batches.ensures.page in
    let few : length x.past_batches + length x.live_batches < 2 ^ 64 = omega (arith, c.batches_of.ensures, c.batches_of.type_inv) in
    record {
      found = ap (λ (y : Gathered). y.found) ends ∙ end_found x cache steps;
      past_to = ap (λ (r : ℕ × ℕ). r.1) c.past-past_to.ensures;
      live_to = ap (λ (r : ℕ × ℕ). r.1) c.live-live_to.ensures;
      again = c.again.ensures;
      checked = ap (λ (y : Gathered). y.checked) ends ∙ end_checked x cache steps c.parts-parts.ensures.taken;
      touched = ap (λ (y : Gathered). y.touched) ends ∙ end_touched x cache steps few;
      loads = ap (λ (y : Gathered). y.loads) ends ∙ end_loads x cache steps few;
    }

pub returns-clause-cache : goal.returns-clause-cache
returns-clause-cache g c =
    let x = c.args.taken.now.snapshot in
    let cache = c.args.cache.now in
    let steps = c.args.steps.now in
    let begin : Gathered = gathered c.new-tally.result cache steps in
    let mid : Gathered = gathered c.add_parts.new.tally c.add_parts.new.cache c.add_parts.new.steps in
    let last : Gathered = gathered c.add_batches.new.tally c.add_batches.new.cache c.add_batches.new.steps in
    let tally = c.new-tally.result in
    let begins : begin ≡ _ = start_of tally.found tally.checked tally.touched tally.loads cache steps c.new-tally.ensures.found c.new-tally.ensures.checked c.new-tally.ensures.touched c.new-tally.ensures.loads in
    let ends : last ≡ end x cache steps =
    end_of x c.past_batches.result.now c.live_batches.result.now cache steps begin mid last begins c.past_batches.ensures c.live_batches.ensures c.in_ok-add_parts.ensures.page c.in_ok-add_batches.ensures.page in
    ap (λ (y : Gathered). y.cache) ends ∙ end_cache x cache steps

pub returns-clause-steps : goal.returns-clause-steps
returns-clause-steps g c =
    let x = c.args.taken.now.snapshot in
    let cache = c.args.cache.now in
    let steps = c.args.steps.now in
    let begin : Gathered = gathered c.new-tally.result cache steps in
    let mid : Gathered = gathered c.add_parts.new.tally c.add_parts.new.cache c.add_parts.new.steps in
    let last : Gathered = gathered c.add_batches.new.tally c.add_batches.new.cache c.add_batches.new.steps in
    let tally = c.new-tally.result in
    let begins : begin ≡ _ = start_of tally.found tally.checked tally.touched tally.loads cache steps c.new-tally.ensures.found c.new-tally.ensures.checked c.new-tally.ensures.touched c.new-tally.ensures.loads in
    let ends : last ≡ end x cache steps =
    end_of x c.past_batches.result.now c.live_batches.result.now cache steps begin mid last begins c.past_batches.ensures c.live_batches.ensures c.in_ok-add_parts.ensures.page c.in_ok-add_batches.ensures.page in
    let few : length x.past_batches + length x.live_batches < 2 ^ 64 = omega (arith, c.batches_of.ensures, c.batches_of.type_inv) in
    let loads = ap (λ (y : Gathered). y.loads) ends ∙ end_loads x cache steps few in
    ap (λ (y : Gathered). y.steps) ends ∙ end_steps x cache steps ∙ ap (λ (n : ℕ). steps + n) (sym loads)
