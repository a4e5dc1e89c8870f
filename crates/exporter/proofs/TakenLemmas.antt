-- What holds of the snapshot of a take.
use Rattle.std.proofs.Common.{◌≡◌, ℕ, zero, suc, ◌+◌, ◌-◌, ◌^◌, ◌<◌, ◌≤◌, Bool, true, false, not, ◌&&◌, cond, List, [], ◌∷◌, ◌++◌, Option, None, Some, length, filter, flat_map, take, drop, refl, ap, sym, ◌∙◌, subst, arith, min, max, get_or}
use Rattle.std.specs.List.{All, Contains, slice_get, sum_by}
use Rattle.std.proofs.lemmas.List.{length-append, length-drop, length-take}
use Rattle.std.proofs.lemmas.List.Elements.{All-append, All-nil}
use Rattle.std.proofs.lemmas.List.Sums.{count_by-le-length, length-filter, sum_by-append, sum_by_more_le}
use Rattle.std.proofs.lemmas.Option.{get_or_from_slice_get, slice_get_within}
use Rattle.query_meaning.specs.declared.expr.Expr.{Expr, roll-Expr}
use Rattle.query_meaning.specs.declared.expr.Expr.TheOpen as level
use Rattle.query_meaning.specs.declared.expr.Expr.TheFolds.{fold-roll-Expr}
use Rattle.query_meaning.specs.Meaning.{level_holds}
use Rattle.event_batch.specs.Contents.{Spelled}
use Rattle.event_history.specs.declared.entry.Entry.{Entry}
use Rattle.event_history.specs.declared.entry.Limits.{Limits}
use Rattle.event_history.specs.Choices.{Taking, again_of, holds_up, reaches, stop_at}
use Rattle.event_history.specs.Covers.{Cover}
use Rattle.event_history.specs.Events.{Event, answer, matches, numbered, ranged}
use Rattle.event_history.specs.Histories.{accepted, batch_count, event_count, events, first_of, is_indexed, row_count}
use Rattle.event_history.specs.Legal.{Legal}
use Rattle.event_history.specs.Pieces.{Held, Piece, batch_answer, held_at, held_of, held_upto, parts_of}
use Rattle.event_history.specs.Queries.{Registration, position, registration}
use Rattle.event_history.proofs.AnswerLemmas.{lt_of}
use Rattle.event_history.proofs.CoverLemmas.{held_some, parts_cover}
use Rattle.event_history.proofs.SnapshotLemmas.{batches_answer, rows_before}
use Rattle.event_history.proofs.TellingLemmas.{events_counted, least_passes, live_end_within, standing_of}
use Rattle.history_core.specs.Snapshots.{IsSnapshot, Snapshot, WasTaken}
use Rattle.exporter.specs.Laws.{FindsTheAnswers}
use Rattle.exporter.specs.Pages.{checked_in, held_by, is_unsure, unsure_in}
use Rattle.exporter.specs.Rows.{in_range}
use Rattle.exporter.proofs.CacheLemmas.{AreNumbered}

-- A batch of a history.
record IsAccepted (before : List Entry) (h : Held) : Type 0 where
  pub is : slice_get (accepted before) h.no ≡ Some h.packed
  pub place : h.first ≡ first_of h.no before

all_accepted : (low high : ℕ) (before : List Entry) (n : ℕ) → All (IsAccepted before) (held_upto low high before n)
all_accepted low high before zero = All-nil (IsAccepted before)
all_accepted low high before (suc n) =
    All-append (IsAccepted before) (held_upto low high before n) (held_at (reaches low high before n) before n) (all_accepted low high before n)
    (held_some before (IsAccepted before) n (reaches low high before n) (λ packed e. record { is = e; place = refl }))

within : (before : List Entry) (h : Held) → IsAccepted before h → h.first + length h.packed.content.rows ≤ event_count before
within before h a =
    let all : List Spelled = accepted before in
    let there : h.no < length all = slice_get_within all h.no h.packed a.is in
    let got : get_or all h.no h.packed ≡ h.packed = get_or_from_slice_get all h.no h.packed h.packed a.is in
    let row : row_count (get_or all h.no h.packed) ≡ row_count h.packed = ap (λ (p : Spelled). row_count p) got in
    omega (arith, sum_by_more_le row_count all h.no h.packed there, row, a.place, rows_before all, events_counted before)

same_batch : (before : List Entry) (g h : Held) → IsAccepted before g → IsAccepted before h → g.no ≡ h.no → g.packed.content ≡ h.packed.content
same_batch before g h a b e =
    let both : Some g.packed ≡ Some h.packed = sym a.is ∙ ap (λ (n : ℕ). slice_get (accepted before) n) e ∙ b.is in
    let one : g.packed ≡ h.packed = cc in
    ap (λ (p : Spelled). p.content) one

of_all : (P : Held → Type 0) (held : List Held) (h : Held) → All P held → Contains held h → P h
of_all P held h all there = subst P there.2 (all there.0 h there.1)

-- What its take found.
module _ (x : Snapshot) (size : ℕ) (before : List Entry) (q : ℕ) (grouped : 0 < size) where
  covers : (o : Option Registration) → IsSnapshot size before q x o → Cover x.parts x.past_batches
  covers None is = absurd is
  covers (Some g) is =
      subst (λ (ps : List Piece). Cover ps x.past_batches) (sym is.1)
      (subst (λ (hs : List Held). Cover (parts_of size x.taking.past_from x.taking.past_to before) hs) (sym is.2)
      (parts_cover before size x.taking.past_from x.taking.past_to grouped))

  accept : (o : Option Registration) → IsSnapshot size before q x o → All (IsAccepted before) (held_by x)
  accept None is = absurd is
  accept (Some g) is =
      All-append (IsAccepted before) x.past_batches x.live_batches
      (subst (λ (hs : List Held). All (IsAccepted before) hs) (sym is.2) (all_accepted x.taking.past_from x.taking.past_to before (batch_count before)))
      (subst (λ (hs : List Held). All (IsAccepted before) hs) (sym is.3) (all_accepted x.taking.live_from x.taking.live_to before (batch_count before)))

pub taken_cover : (x : Snapshot) → WasTaken x → Cover x.parts x.past_batches
taken_cover x w = covers x w.limits.group w.before w.query w.grouped (registration w.query w.before) w.snapshot

taken_accepted : (x : Snapshot) (w : WasTaken x) → All (IsAccepted w.before) (held_by x)
taken_accepted x w = accept x w.limits.group w.before w.query w.grouped (registration w.query w.before) w.snapshot

pub taken_numbered : (x : Snapshot) → WasTaken x → AreNumbered (held_by x)
taken_numbered x w g h one two =
    same_batch w.before g h (of_all (IsAccepted w.before) (held_by x) g (taken_accepted x w) one) (of_all (IsAccepted w.before) (held_by x) h (taken_accepted x w) two)

pub taken_fits : (x : Snapshot) (h : Held) → WasTaken x → Contains (held_by x) h → h.first + length h.packed.content.rows < 2 ^ 64
taken_fits x h w there =
    omega (arith, within w.before h (of_all (IsAccepted w.before) (held_by x) h (taken_accepted x w) there), w.counted)

-- How many events are in a range.
everything : Expr
everything = roll-Expr (level.And [])

all_match : (e : Event) → matches everything e ≡ true
unfolding everything matches
all_match e = fold-roll-Expr Bool (level_holds e.heading e.row) (level.And [])

pass_all : (test : Event → Bool) (ys : List (ℕ × Event)) → ((e : Event) → test e ≡ true) → filter (λ (y : ℕ × Event). test y.1) ys ≡ ys
pass_all test [] all = refl
pass_all test (y ∷ ys) all =
    ap (λ (b : Bool). cond b (y ∷ filter (λ (z : ℕ × Event). test z.1) ys) (filter (λ (z : ℕ × Event). test z.1) ys)) (all y.1)
    ∙ ap (λ (zs : List (ℕ × Event)). y ∷ zs) (pass_all test ys all)

count_all : (from to : ℕ) (held : List Held) → sum_by (λ h. length (in_range from to h)) held ≡ length (flat_map (batch_answer (matches everything) from to) held)
count_all from to [] = refl
count_all from to (h ∷ held) =
    let here : length (batch_answer (matches everything) from to h) ≡ length (in_range from to h) =
    ap (λ (ys : List (ℕ × Event)). length ys) (pass_all (matches everything) (in_range from to h) all_match) in
    sum_by-append (λ (x : Held). length (in_range from to x)) (h ∷ []) held
    ∙ omega (arith, here, count_all from to held, length-append (batch_answer (matches everything) from to h) (flat_map (batch_answer (matches everything) from to) held))

numbered_length : (n : ℕ) (xs : List Event) → length (numbered n xs) ≡ length xs
numbered_length n [] = refl
numbered_length n (x ∷ xs) = omega (arith, numbered_length (n + 1) xs)

in_range_few : (from to : ℕ) (before : List Entry) → to ≤ event_count before → sum_by (λ h. length (in_range from to h)) (held_of from to before) ≤ to - from
in_range_few from to before h =
    let all : length (flat_map (batch_answer (matches everything) from to) (held_of from to before)) ≡ length (answer everything (events before) from to) =
    ap (λ (ys : List (ℕ × Event)). length ys) (batches_answer before everything from to h) in
    let few : length (answer everything (events before) from to) ≤ length (ranged from to (events before)) =
    omega (arith, length-filter (λ (y : ℕ × Event). matches everything y.1) (ranged from to (events before)), count_by-le-length (λ (y : ℕ × Event). matches everything y.1) (ranged from to (events before))) in
    omega (arith, count_all from to (held_of from to before), all, few, numbered_length from (drop from (take to (events before))), length-drop from (take to (events before)), length-take to (events before))

unsure_few : (expr : Expr) (from to : ℕ) (held : List Held) → sum_by (unsure_in expr from to) held ≤ sum_by (λ h. length (in_range from to h)) held
unsure_few expr from to [] = omega arith
unsure_few expr from to (h ∷ held) =
    omega (
      arith,
      unsure_few expr from to held,
      sum_by-append (unsure_in expr from to) (h ∷ []) held,
      sum_by-append (λ (x : Held). length (in_range from to x)) (h ∷ []) held,
      length-filter (λ (y : ℕ × Event). is_unsure expr y.1) (in_range from to h),
      count_by-le-length (λ (y : ℕ × Event). is_unsure expr y.1) (in_range from to h),
    )

-- Where the ranges lie.
and_right : (a b : Bool) → (a && b) ≡ true → b ≡ true
and_right true b e = e
and_right false b e = absurd cc

stops : (position from : ℕ) (before : List Entry) (again : Option ℕ) → position ≤ from → ((b : ℕ) → again ≡ Some b → holds_up position from before b ≡ true)
    → stop_at position from before again ≤ from
stops position from before None h k = omega arith
stops position from before (Some b) h k =
    let reach : reaches position from before b ≡ true = and_right (not (is_indexed b before)) (reaches position from before b) (k b refl) in
    omega (arith, lt_of (max position (first_of b before)) (min from (first_of (b + 1) before)) reach)

module _ (x : Snapshot) (limits : Limits) (before : List Entry) (q : ℕ) (legal : Legal limits before) where
  -- the past range ends where the live one begins or before, and both where the events end
  lie : (o : Option Registration) → registration q before ≡ o → IsSnapshot limits.group before q x o
      → (x.taking.past_to ≤ event_count before) × (x.taking.live_to ≤ event_count before) × (x.taking.past_to ≤ x.taking.live_from)
  lie None e is = absurd is
  lie (Some g) e is =
      let s = standing_of limits before q g legal e in
      let past_to : x.taking.past_to ≤ g.from =
      subst (λ (y : Taking). y.past_to ≤ g.from) (sym is.0)
      (stops (position q before).0 g.from before (again_of (position q before).0 g.from before) s.within
      (λ b f. least_passes (holds_up (position q before).0 g.from before) (batch_count before) b f)) in
      let live_from : g.from ≤ x.taking.live_from = subst (λ (y : Taking). g.from ≤ y.live_from) (sym is.0) s.live_from in
      let live_to : x.taking.live_to ≤ event_count before =
      subst (λ (y : Taking). y.live_to ≤ event_count before) (sym is.0) (live_end_within g.mode g.from (event_count before) s.known) in
      (omega (arith, past_to, s.known), live_to, omega (arith, past_to, live_from))

  held_over : (o : Option Registration) → IsSnapshot limits.group before q x o
      → (x.past_batches ≡ held_of x.taking.past_from x.taking.past_to before) × (x.live_batches ≡ held_of x.taking.live_from x.taking.live_to before)
  held_over None is = absurd is
  held_over (Some g) is = (is.2, is.3)

  total : IsSnapshot limits.group before q x (registration q before) → checked_in x ≤ event_count before
  total is =
      let r = lie (registration q before) refl is in
      let h = held_over (registration q before) is in
      let past : sum_by (λ h. length (in_range x.taking.past_from x.taking.past_to h)) x.past_batches ≤ x.taking.past_to - x.taking.past_from =
      subst (λ (hs : List Held). sum_by (λ h. length (in_range x.taking.past_from x.taking.past_to h)) hs ≤ x.taking.past_to - x.taking.past_from) (sym h.0)
      (in_range_few x.taking.past_from x.taking.past_to before r.0) in
      let live : sum_by (λ h. length (in_range x.taking.live_from x.taking.live_to h)) x.live_batches ≤ x.taking.live_to - x.taking.live_from =
      subst (λ (hs : List Held). sum_by (λ h. length (in_range x.taking.live_from x.taking.live_to h)) hs ≤ x.taking.live_to - x.taking.live_from) (sym h.1)
      (in_range_few x.taking.live_from x.taking.live_to before r.1) in
      omega (arith, past, live, unsure_few x.taking.expr x.taking.past_from x.taking.past_to x.past_batches, r.0, r.1, r.2)

pub taken_total : (x : Snapshot) → WasTaken x → checked_in x ≤ 2 ^ 64 - 1
taken_total x w = omega (arith, total x w.limits w.before w.query w.legal w.snapshot, w.counted)

-- The answers.
pub finds : (limits : Limits) (before : List Entry) (q : ℕ) (x : Snapshot) → FindsTheAnswers limits before q x
finds limits before q x legal is =
    let t = x.taking in
    let r = lie x limits before q legal (registration q before) refl is in
    let h = held_over x limits before q legal (registration q before) is in
    let one : flat_map (batch_answer (matches t.expr) t.past_from t.past_to) x.past_batches ≡ answer t.expr (events before) t.past_from t.past_to =
    ap (λ (hs : List Held). flat_map (batch_answer (matches t.expr) t.past_from t.past_to) hs) h.0 ∙ batches_answer before t.expr t.past_from t.past_to r.0 in
    let two : flat_map (batch_answer (matches t.expr) t.live_from t.live_to) x.live_batches ≡ answer t.expr (events before) t.live_from t.live_to =
    ap (λ (hs : List Held). flat_map (batch_answer (matches t.expr) t.live_from t.live_to) hs) h.1 ∙ batches_answer before t.expr t.live_from t.live_to r.1 in
    ap (λ (ys : List (ℕ × Event)). ys ++ flat_map (batch_answer (matches t.expr) t.live_from t.live_to) x.live_batches) one
    ∙ ap (λ (ys : List (ℕ × Event)). answer t.expr (events before) t.past_from t.past_to ++ ys) two
