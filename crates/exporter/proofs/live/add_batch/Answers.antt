use Rattle.std.proofs.Common.{◌≡◌, ◌-◌, ◌++◌, ℕ, List, filter, length, true, ap, subst, ◌∙◌, arith}
use Rattle.std.proofs.lemmas.List.{length-map}
use Rattle.event_batch.specs.Contents.{Content, content_of}
use Rattle.event_batch.specs.declared.batch.Batch.{Batch}
use Rattle.event_history.specs.Events.{Event, event_of, events_of, matches}
use Rattle.exporter.specs.Rows.{in_range, rows_between}
use Rattle.exporter.specs.Walks.{gathered, live_reading}
use Rattle.exporter.proofs.PartLemmas.{read_adds, same_rows}
use Rattle.exporter.proofs.RowLemmas.{rows_long}
use Rattle.exporter.proofs.TakenLemmas.{taken_fits}
use Rattle.exporter.proofs.live.add_batch.Goals as goal

pub push_all-requires-clause-room : goal.push_all-requires-clause-room
push_all-requires-clause-room g c =
    let content : content_of c.deref.result.now ≡ c.args.held.now.packed.content = ap (λ (b : Batch). content_of b) c.deref.ensures ∙ c.in_ok-batch.ensures.batch in
    let rows : length c.deref.result.now.rows ≡ length c.args.held.now.packed.content.rows = ap (λ (x : Content). length x.rows) content in
    omega (arith, rows, taken_fits c.args.taken.now.snapshot c.args.held.now c.requires.taken c.requires.own, c.first-first.ensures)

pub returns-clause-page : goal.returns-clause-page
returns-clause-page g c =
    let t = c.args.taken.now.snapshot.taking in
    let h = c.args.held.now in
    let low = c.rows_within-low.result.0 in
    let high = c.rows_within-low.result.1 in
    let xs : List Event = events_of h.packed.content in
    let rows : in_range t.live_from t.live_to h ≡ rows_between h.first low high xs =
    subst (λ (r : ℕ × ℕ). in_range r.0 r.1 h ≡ rows_between h.first low high xs) c.live.ensures c.rows_within-low.ensures.rows in
    let long : length xs ≡ length h.packed.content.rows = length-map h.packed.content.rows (event_of h.packed.content.heading) in
    let content : content_of c.deref.result.now ≡ h.packed.content = ap (λ (b : Batch). content_of b) c.deref.ensures ∙ c.in_ok-batch.ensures.batch in
    let more : List (ℕ × Event) = filter (λ (x : ℕ × Event). matches t.expr x.1) (rows_between h.first low high xs) in
    let count : length (rows_between h.first low high xs) ≡ high - low =
    rows_long h.first low high xs c.rows_within-low.ensures.order (omega (arith, long, c.rows_within-low.ensures.end)) in
    let reading : live_reading t.expr t.live_from t.live_to h ≡ record { touched = true; checked = high - low; found = more } =
    ap (λ (ys : List (ℕ × Event)). record { touched = true; checked = length ys; found = filter (λ (x : ℕ × Event). matches t.expr x.1) ys }) rows
    ∙ ap (λ (n : ℕ). record { touched = true; checked = n; found = more }) count in
    read_adds (live_reading t.expr t.live_from t.live_to h) h (gathered c.args.tally.now c.args.cache.now c.args.steps.now) (gathered c.ask.new.self c.ask.new.cache c.ask.new.steps)
    (high - low) more c.push_all.new.founds c.saturating_add-tally.result reading c.in_ok-batch.ensures.page
    (c.in_ok-push_all.ensures
    ∙ ap (λ (ys : List (ℕ × Event)). c.ask.new.self.found ++ ys) (same_rows matches t.expr c.expr.result.now h.first c.first-first.result low high h.packed.content (content_of c.deref.result.now) c.expr.ensures c.first-first.ensures content))
    c.saturating_add-tally.ensures
