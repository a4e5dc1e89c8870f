-- The rows that are found, and those that are looked at.
use Rattle.std.proofs.Common.{◌≡◌, ◌≢◌, ℕ, zero, suc, ◌+◌, ◌-◌, ◌<◌, ◌≤◌, Bool, true, false, not, ◌&&◌, cond, List, [], ◌∷◌, ◌++◌, Option, Some, length, filter, take, drop, refl, ap, sym, ◌∙◌, arith, get_or}
use mir.Val.{bool_byte}
use Rattle.std.specs.List.{slice_get}
use Rattle.std.specs.Option.{option_map}
use Rattle.std.proofs.lemmas.List.{append-nil, append_assoc, length-append, length-map, length-take}
use Rattle.std.proofs.lemmas.List.Elements.{filter-append}
use Rattle.std.proofs.lemmas.List.Sums.{count_by-le-length, length-filter}
use Rattle.std.proofs.lemmas.Option.{get_or_from_slice_get, slice_get-map, slice_get_read, slice_get_within}
use Rattle.vast_value.specs.declared.cell.Cell.{Cell}
use Rattle.vast_value.specs.Headings.{heading_of}
use Rattle.query_meaning.specs.declared.expr.Expr.{Expr}
use Rattle.query_meaning.specs.Meaning.{holds}
use Rattle.query_meaning.specs.Sure.{Bounds, maybe, sure}
use Rattle.query_meaning.proofs.SureLemmas.{bounded}
use Rattle.column_index.specs.declared.kept.Pair.{Pair}
use Rattle.event_batch.specs.declared.batch.Batch.{Batch}
use Rattle.event_batch.specs.Contents.{content_of}
use Rattle.event_history.specs.Events.{Event, event_of, events_of, matches, numbered}
use Rattle.exporter.specs.Pages.{is_unsure, may_match}
use Rattle.exporter.specs.Rows.{rows_between}
use Rattle.exporter.specs.Told.{Tells}
use Rattle.exporter.proofs.RowLemmas.{none_pass, one_row, rows_split}

-- What surely matches matches, and what matches may.
pub sure_matches : (expr : Expr) (e : Event) → sure e.heading e.row expr ≡ true → matches expr e ≡ true
unfolding matches
sure_matches expr e h =
    let bounds : Bounds (sure e.heading e.row expr) (holds e.heading e.row expr) (maybe e.heading e.row expr) = bounded e.heading e.row expr in
    bounds.sure_holds h

contrary : (a b : Bool) → (a ≡ true → b ≡ true) → b ≡ false → a ≡ false
contrary true b h e = sym (h refl) ∙ e
contrary false b h e = refl

pub no_match : (expr : Expr) (e : Event) → may_match expr e ≡ false → matches expr e ≡ false
unfolding matches
no_match expr e h =
    let bounds : Bounds (sure e.heading e.row expr) (holds e.heading e.row expr) (maybe e.heading e.row expr) = bounded e.heading e.row expr in
    contrary (holds e.heading e.row expr) (maybe e.heading e.row expr) bounds.holds_maybe h

pub no_look : (expr : Expr) (e : Event) → may_match expr e ≡ false → is_unsure expr e ≡ false
no_look expr e h = ap (λ (b : Bool). b && not (sure e.heading e.row expr)) h

is_false : (b : Bool) (o : Option Bool) → o ≡ Some b → o ≢ Some true → b ≡ false
is_false true o e ne = absurd (ne e)
is_false false o e ne = refl

pub no_candidate : (expr : Expr) (pair : Pair) (offset : ℕ) (events : List Event) (k : ℕ) (e : Event) → Tells expr pair offset events
    → slice_get events k ≡ Some e → slice_get pair.maybe (offset + k) ≢ Some true → may_match expr e ≡ false
no_candidate expr pair offset events k e tells is ne = is_false (may_match expr e) (slice_get pair.maybe (offset + k)) (tells.maybe k e is) ne

pub is_candidate : (expr : Expr) (pair : Pair) (offset : ℕ) (events : List Event) (k : ℕ) (e : Event) → Tells expr pair offset events
    → slice_get events k ≡ Some e → slice_get pair.maybe (offset + k) ≡ Some true → may_match expr e ≡ true
is_candidate expr pair offset events k e tells is one =
    let both : Some (may_match expr e) ≡ Some true = sym (tells.maybe k e is) ∙ one in cc

-- One row.
pub got_row : (b : Batch) (row : List Cell) (place : ℕ) → place < length b.rows → row ≡ get_or b.rows place row
    → slice_get (events_of (content_of b)) place ≡ Some (event_of (heading_of b.layout) row)
got_row b row place h is =
    slice_get-map (event_of (heading_of b.layout)) b.rows place
    ∙ ap (λ (o : Option (List Cell)). option_map (event_of (heading_of b.layout)) o) (slice_get_read b.rows (length b.rows) place row refl h is)

pub some_event : (xs : List Event) (k : ℕ) → k < length xs → (e : Event) × (slice_get xs k ≡ Some e)
some_event [] k h = absurd (omega arith)
some_event (x ∷ xs) zero h = (x, refl)
some_event (x ∷ xs) (suc k) h = some_event xs k (omega (arith, h))

pub row_passes : (test : Event → Bool) (first place : ℕ) (events : List Event) (e : Event) → slice_get events place ≡ Some e
    → filter (λ (x : ℕ × Event). test x.1) (rows_between first place (place + 1) events) ≡ cond (test e) ((first + place, e) ∷ []) []
row_passes test first place events e is =
    let there : place < length events = slice_get_within events place e is in
    let got : get_or events place e ≡ e = get_or_from_slice_get events place e e is in
    ap (λ (xs : List (ℕ × Event)). filter (λ (x : ℕ × Event). test x.1) xs) (one_row first place e events there got)

pub row_none : (test : Event → Bool) (first place : ℕ) (events : List Event) (e : Event) (founds : List (ℕ × Event)) → slice_get events place ≡ Some e → test e ≡ false
    → founds ≡ founds ++ filter (λ (x : ℕ × Event). test x.1) (rows_between first place (place + 1) events)
row_none test first place events e founds is out =
    sym (append-nil founds)
    ∙ ap (λ (xs : List (ℕ × Event)). founds ++ xs) (sym (row_passes test first place events e is ∙ ap (λ (b : Bool). cond b ((first + place, e) ∷ []) []) out))

pub row_some : (test : Event → Bool) (first place : ℕ) (events : List Event) (e : Event) (founds new : List (ℕ × Event)) → slice_get events place ≡ Some e → test e ≡ true
    → new ≡ founds ++ (first + place, e) ∷ [] → new ≡ founds ++ filter (λ (x : ℕ × Event). test x.1) (rows_between first place (place + 1) events)
row_some test first place events e founds new is pass more =
    more ∙ ap (λ (xs : List (ℕ × Event)). founds ++ xs) (sym (row_passes test first place events e is ∙ ap (λ (b : Bool). cond b ((first + place, e) ∷ []) []) pass))

one_or_none : (b : Bool) (x : ℕ × Event) → length (cond b (x ∷ []) []) ≡ cond b 1 0
one_or_none true x = refl
one_or_none false x = refl

pub row_counts : (test : Event → Bool) (first place : ℕ) (events : List Event) (e : Event) → slice_get events place ≡ Some e
    → length (filter (λ (x : ℕ × Event). test x.1) (rows_between first place (place + 1) events)) ≡ cond (test e) 1 0
row_counts test first place events e is = ap (λ (xs : List (ℕ × Event)). length xs) (row_passes test first place events e is) ∙ one_or_none (test e) (first + place, e)

pub byte_of : (b : Bool) → bool_byte b ≡ cond b 1 0
byte_of true = refl
byte_of false = refl

-- The next row, and the next candidate.
pub rows_step : (test : Event → Bool) (first place next high : ℕ) (events : List Event) → place < next → next ≤ high → high ≤ length events
    → ((k : ℕ) (e : Event) → place + 1 ≤ k → k < next → slice_get events k ≡ Some e → test e ≡ false)
    → filter (λ (x : ℕ × Event). test x.1) (rows_between first place high events)
    ≡ filter (λ (x : ℕ × Event). test x.1) (rows_between first place (place + 1) events) ++ filter (λ (x : ℕ × Event). test x.1) (rows_between first next high events)
rows_step test first place next high events h k l none =
    let passing : List (ℕ × Event) → List (ℕ × Event) = λ xs. filter (λ (x : ℕ × Event). test x.1) xs in
    ap passing (rows_split first place (place + 1) high events (omega arith) (omega (arith, h, k)) (omega (arith, h, k, l)))
    ∙ filter-append (λ (x : ℕ × Event). test x.1) (rows_between first place (place + 1) events) (rows_between first (place + 1) high events)
    ∙ ap (λ (xs : List (ℕ × Event)). passing (rows_between first place (place + 1) events) ++ xs)
    (ap passing (rows_split first (place + 1) next high events (omega (arith, h)) k (omega (arith, k, l)))
    ∙ filter-append (λ (x : ℕ × Event). test x.1) (rows_between first (place + 1) next events) (rows_between first next high events)
    ∙ ap (λ (xs : List (ℕ × Event)). xs ++ passing (rows_between first next high events)) (none_pass test first (place + 1) next events none))

pub found_step : (test : Event → Bool) (first place next high : ℕ) (events : List Event) (old new goal : List (ℕ × Event)) → place < next → next ≤ high → high ≤ length events
    → ((k : ℕ) (e : Event) → place + 1 ≤ k → k < next → slice_get events k ≡ Some e → test e ≡ false)
    → new ≡ old ++ filter (λ (x : ℕ × Event). test x.1) (rows_between first place (place + 1) events)
    → old ++ filter (λ (x : ℕ × Event). test x.1) (rows_between first place high events) ≡ goal
    → new ++ filter (λ (x : ℕ × Event). test x.1) (rows_between first next high events) ≡ goal
found_step test first place next high events old new goal h k l none more so_far =
    let rest : List (ℕ × Event) = filter (λ (x : ℕ × Event). test x.1) (rows_between first next high events) in
    let one : List (ℕ × Event) = filter (λ (x : ℕ × Event). test x.1) (rows_between first place (place + 1) events) in
    ap (λ (xs : List (ℕ × Event)). xs ++ rest) more
    ∙ append_assoc old one rest
    ∙ ap (λ (xs : List (ℕ × Event)). old ++ xs) (sym (rows_step test first place next high events h k l none))
    ∙ so_far

pub count_step : (test : Event → Bool) (first place next high : ℕ) (events : List Event) (old more goal : ℕ) → place < next → next ≤ high → high ≤ length events
    → ((k : ℕ) (e : Event) → place + 1 ≤ k → k < next → slice_get events k ≡ Some e → test e ≡ false)
    → more ≡ length (filter (λ (x : ℕ × Event). test x.1) (rows_between first place (place + 1) events))
    → old + length (filter (λ (x : ℕ × Event). test x.1) (rows_between first place high events)) ≡ goal
    → old + more + length (filter (λ (x : ℕ × Event). test x.1) (rows_between first next high events)) ≡ goal
count_step test first place next high events old more goal h k l none one so_far =
    let rest : List (ℕ × Event) = filter (λ (x : ℕ × Event). test x.1) (rows_between first next high events) in
    let here : List (ℕ × Event) = filter (λ (x : ℕ × Event). test x.1) (rows_between first place (place + 1) events) in
    let all : length (filter (λ (x : ℕ × Event). test x.1) (rows_between first place high events)) ≡ length here + length rest =
    ap (λ (xs : List (ℕ × Event)). length xs) (rows_step test first place next high events h k l none) ∙ length-append here rest in
    omega (arith, all, one, so_far)

numbered_length : (n : ℕ) (xs : List Event) → length (numbered n xs) ≡ length xs
numbered_length n [] = refl
numbered_length n (x ∷ xs) = omega (arith, numbered_length (n + 1) xs)

pub rows_few : (test : Event → Bool) (first low high : ℕ) (events : List Event) → length (filter (λ (x : ℕ × Event). test x.1) (rows_between first low high events)) ≤ high - low
rows_few test first low high events =
    omega (
      arith,
      length-filter (λ (x : ℕ × Event). test x.1) (rows_between first low high events),
      count_by-le-length (λ (x : ℕ × Event). test x.1) (rows_between first low high events),
      numbered_length (first + low) (take (high - low) (drop low events)),
      length-take (high - low) (drop low events),
    )

pub events_long : (b : Batch) → length (events_of (content_of b)) ≡ length b.rows
events_long b = length-map b.rows (event_of (heading_of b.layout))
