use Rattle.std.proofs.Common.{◌≡◌, ◌+◌, ◌-◌, ◌^◌, ◌++◌, ℕ, List, filter, length, min, true, ap, subst, sym, ◌∙◌, arith}
use Rattle.query_meaning.specs.declared.expr.Expr.{Expr}
use Rattle.event_batch.specs.Contents.{Content, content_of}
use Rattle.event_batch.specs.declared.batch.Batch.{Batch}
use Rattle.event_history.specs.Events.{Event, events_of, matches}
use Rattle.event_history.specs.Pieces.{Piece}
use Rattle.partition.specs.Parts.{piece_of}
use Rattle.exporter.specs.Pages.{is_unsure}
use Rattle.exporter.specs.Rows.{in_range, rows_between}
use Rattle.exporter.specs.Told.{Tells}
use Rattle.exporter.specs.Walks.{gathered, past_reading}
use Rattle.exporter.proofs.PartLemmas.{on_err, part_tells, passed_adds, read_adds, read_touches, reading_passed, reading_read, same_events, same_rows}
use Rattle.exporter.proofs.TakenLemmas.{taken_fits}
use Rattle.exporter.proofs.WalkLemmas.{decoded_few}
use Rattle.exporter.proofs.past.add_batch.Goals as goal

pub next_candidate-place-requires-clause-room : goal.next_candidate-place-requires-clause-room
next_candidate-place-requires-clause-room g c =
    omega (arith, taken_fits c.args.taken.now.snapshot c.args.held.now c.requires.taken c.requires.own, c.first-first.ensures, c.rows_within-low.ensures.end)

pub returns-then-place-high-clause-page : goal.returns-then-place-high-clause-page
returns-then-place-high-clause-page g c =
    let t = c.args.taken.now.snapshot.taking in
    let h = c.args.held.now in
    let p : Piece = piece_of c.args.part.now in
    let low = c.rows_within-low.result.0 in
    let high = c.rows_within-low.result.1 in
    let offset : ℕ = c.first-first.result - c.first.result in
    let place = c.next_candidate-place.result in
    let off : offset ≡ h.first - p.first = ap (λ (n : ℕ). n - c.first.result) c.first-first.ensures ∙ ap (λ (n : ℕ). h.first - n) c.first.ensures in
    let rows : in_range t.past_from t.past_to h ≡ rows_between h.first low high (events_of h.packed.content) =
    subst (λ (r : ℕ × ℕ). in_range r.0 r.1 h ≡ rows_between h.first low high (events_of h.packed.content)) c.past.ensures c.rows_within-low.ensures.rows in
    let tells : Tells t.expr c.args.pair.now offset (events_of h.packed.content) = part_tells t.expr p h c.args.pair.now offset c.requires.stands off c.requires.sure c.requires.maybe in
    let tally = c.args.tally.now in
    let at : place ≡ high = omega (arith, c.next_candidate-place.ensures.within, c.if-place-high.true) in
    passed_adds (past_reading t.expr t.past_from t.past_to h) h tally.found tally.checked tally.touched tally.loads c.args.cache.now c.args.steps.now
    (reading_passed t.expr t.past_from t.past_to h c.args.pair.now offset low high place rows c.rows_within-low.ensures.order c.rows_within-low.ensures.end tells c.next_candidate-place.ensures at)
    (omega (arith, c.checked.ensures, c.checked.type_inv)) (omega (arith, c.touched.ensures, c.touched.type_inv)) (omega (arith, c.loads.ensures, c.loads.type_inv))

pub returns-in_err-batch-clause-few : goal.returns-in_err-batch-clause-few
returns-in_err-batch-clause-few g c =
    let t = c.args.taken.now.snapshot.taking in
    let h = c.args.held.now in
    let p : Piece = piece_of c.args.part.now in
    let low = c.rows_within-low.result.0 in
    let high = c.rows_within-low.result.1 in
    let offset : ℕ = c.first-first.result - c.first.result in
    let place = c.next_candidate-place.result in
    let off : offset ≡ h.first - p.first = ap (λ (n : ℕ). n - c.first.result) c.first-first.ensures ∙ ap (λ (n : ℕ). h.first - n) c.first.ensures in
    let rows : in_range t.past_from t.past_to h ≡ rows_between h.first low high (events_of h.packed.content) =
    subst (λ (r : ℕ × ℕ). in_range r.0 r.1 h ≡ rows_between h.first low high (events_of h.packed.content)) c.past.ensures c.rows_within-low.ensures.rows in
    let tells : Tells t.expr c.args.pair.now offset (events_of h.packed.content) = part_tells t.expr p h c.args.pair.now offset c.requires.stands off c.requires.sure c.requires.maybe in
    let one = read_touches (past_reading t.expr t.past_from t.past_to h) _ _
    (reading_read t.expr t.past_from t.past_to h c.args.pair.now offset low high place rows c.rows_within-low.ensures.order c.rows_within-low.ensures.end tells c.next_candidate-place.ensures c.if-place-high.false) in
    on_err c.from_residual.result _ (omega (arith, one, c.in_err-batch.ensures.step, decoded_few true h c.args.cache.now))

pub push_candidates-requires-clause-room : goal.push_candidates-requires-clause-room
push_candidates-requires-clause-room g c =
    let content : content_of c.deref.result.now ≡ c.args.held.now.packed.content = ap (λ (b : Batch). content_of b) c.deref.ensures ∙ c.in_ok-batch.ensures.batch in
    let rows : length c.deref.result.now.rows ≡ length c.args.held.now.packed.content.rows = ap (λ (x : Content). length x.rows) content in
    omega (arith, rows, taken_fits c.args.taken.now.snapshot c.args.held.now c.requires.taken c.requires.own, c.first-first.ensures)

pub push_candidates-requires-clause-narrow : goal.push_candidates-requires-clause-narrow
push_candidates-requires-clause-narrow g c =
    let content : content_of c.deref.result.now ≡ c.args.held.now.packed.content = ap (λ (b : Batch). content_of b) c.deref.ensures ∙ c.in_ok-batch.ensures.batch in
    let rows : length c.deref.result.now.rows ≡ length c.args.held.now.packed.content.rows = ap (λ (x : Content). length x.rows) content in
    omega (arith, rows, taken_fits c.args.taken.now.snapshot c.args.held.now c.requires.taken c.requires.own, c.first-first.ensures)

pub push_candidates-requires-clause-tells : goal.push_candidates-requires-clause-tells
push_candidates-requires-clause-tells g c =
    let t = c.args.taken.now.snapshot.taking in
    let h = c.args.held.now in
    let p : Piece = piece_of c.args.part.now in
    let offset : ℕ = c.first-first.result - c.first.result in
    let off : offset ≡ h.first - p.first = ap (λ (n : ℕ). n - c.first.result) c.first-first.ensures ∙ ap (λ (n : ℕ). h.first - n) c.first.ensures in
    let content : content_of c.deref.result.now ≡ h.packed.content = ap (λ (b : Batch). content_of b) c.deref.ensures ∙ c.in_ok-batch.ensures.batch in
    let tells : Tells t.expr c.args.pair.now offset (events_of h.packed.content) = part_tells t.expr p h c.args.pair.now offset c.requires.stands off c.requires.sure c.requires.maybe in
    subst (λ (e : Expr). Tells e c.args.pair.now offset (events_of (content_of c.deref.result.now))) (sym c.expr.ensures)
    (same_events t.expr c.args.pair.now offset h.packed.content (content_of c.deref.result.now) content tells)

pub returns-in_err-checked-clause-few : goal.returns-in_err-checked-clause-few
returns-in_err-checked-clause-few g c =
    let t = c.args.taken.now.snapshot.taking in
    let h = c.args.held.now in
    let p : Piece = piece_of c.args.part.now in
    let low = c.rows_within-low.result.0 in
    let high = c.rows_within-low.result.1 in
    let offset : ℕ = c.first-first.result - c.first.result in
    let place = c.next_candidate-place.result in
    let off : offset ≡ h.first - p.first = ap (λ (n : ℕ). n - c.first.result) c.first-first.ensures ∙ ap (λ (n : ℕ). h.first - n) c.first.ensures in
    let rows : in_range t.past_from t.past_to h ≡ rows_between h.first low high (events_of h.packed.content) =
    subst (λ (r : ℕ × ℕ). in_range r.0 r.1 h ≡ rows_between h.first low high (events_of h.packed.content)) c.past.ensures c.rows_within-low.ensures.rows in
    let tells : Tells t.expr c.args.pair.now offset (events_of h.packed.content) = part_tells t.expr p h c.args.pair.now offset c.requires.stands off c.requires.sure c.requires.maybe in
    let one = read_touches (past_reading t.expr t.past_from t.past_to h) _ _
    (reading_read t.expr t.past_from t.past_to h c.args.pair.now offset low high place rows c.rows_within-low.ensures.order c.rows_within-low.ensures.end tells c.next_candidate-place.ensures c.if-place-high.false) in
    on_err c.from_residual-in_err-checked.result _ (omega (arith, one, c.in_ok-batch.ensures.step, decoded_few true h c.args.cache.now))

pub returns-clause-page : goal.returns-clause-page
returns-clause-page g c =
    let t = c.args.taken.now.snapshot.taking in
    let h = c.args.held.now in
    let p : Piece = piece_of c.args.part.now in
    let low = c.rows_within-low.result.0 in
    let high = c.rows_within-low.result.1 in
    let offset : ℕ = c.first-first.result - c.first.result in
    let place = c.next_candidate-place.result in
    let off : offset ≡ h.first - p.first = ap (λ (n : ℕ). n - c.first.result) c.first-first.ensures ∙ ap (λ (n : ℕ). h.first - n) c.first.ensures in
    let rows : in_range t.past_from t.past_to h ≡ rows_between h.first low high (events_of h.packed.content) =
    subst (λ (r : ℕ × ℕ). in_range r.0 r.1 h ≡ rows_between h.first low high (events_of h.packed.content)) c.past.ensures c.rows_within-low.ensures.rows in
    let tells : Tells t.expr c.args.pair.now offset (events_of h.packed.content) = part_tells t.expr p h c.args.pair.now offset c.requires.stands off c.requires.sure c.requires.maybe in
    let content : content_of c.deref.result.now ≡ h.packed.content = ap (λ (b : Batch). content_of b) c.deref.ensures ∙ c.in_ok-batch.ensures.batch in
    let more : List (ℕ × Event) = filter (λ (x : ℕ × Event). matches t.expr x.1) (rows_between h.first place high (events_of h.packed.content)) in
    let looked : ℕ = length (filter (λ (x : ℕ × Event). is_unsure t.expr x.1) (rows_between h.first place high (events_of h.packed.content))) in
    let count : c.in_ok-checked.checked ≡ looked =
    c.in_ok-checked.ensures.checked
    ∙ ap (λ (xs : List (ℕ × Event)). length xs) (same_rows is_unsure t.expr c.expr.result.now h.first c.first-first.result place high h.packed.content (content_of c.deref.result.now) c.expr.ensures c.first-first.ensures content) in
    read_adds (past_reading t.expr t.past_from t.past_to h) h (gathered c.args.tally.now c.args.cache.now c.args.steps.now) (gathered c.ask.new.self c.ask.new.cache c.ask.new.steps)
    looked more c.push_candidates.new.founds c.saturating_add-tally.result
    (reading_read t.expr t.past_from t.past_to h c.args.pair.now offset low high place rows c.rows_within-low.ensures.order c.rows_within-low.ensures.end tells c.next_candidate-place.ensures c.if-place-high.false)
    c.in_ok-batch.ensures.page
    (c.in_ok-checked.ensures.found
    ∙ ap (λ (xs : List (ℕ × Event)). c.ask.new.self.found ++ xs) (same_rows matches t.expr c.expr.result.now h.first c.first-first.result place high h.packed.content (content_of c.deref.result.now) c.expr.ensures c.first-first.ensures content))
    (c.saturating_add-tally.ensures ∙ ap (λ (n : ℕ). min (c.ask.new.self.checked + n) (2 ^ 64 - 1)) count)
