-- A batch of the past range, and what its part tells.
use Rattle.std.proofs.Common.{◌≡◌, ℕ, zero, suc, ◌+◌, ◌-◌, ◌^◌, ◌<◌, ◌≤◌, Bool, true, false, List, [], ◌∷◌, ◌++◌, Option, Some, length, map, filter, ap, sym, ◌∙◌, subst, arith, Result, Ok, Err, OnErr}
use Rattle.std.specs.List.{list_any, slice_get}
use Rattle.std.specs.Option.{option_map}
use Rattle.std.proofs.lemmas.List.{append-nil, length-map}
use Rattle.std.proofs.lemmas.List.Elements.{filter-append}
use Rattle.std.proofs.lemmas.Grind.{flat_map-append}
use Rattle.std.proofs.lemmas.Option.{slice_get-map}
use Rattle.query_meaning.specs.declared.expr.Expr.{Expr}
use Rattle.query_meaning.specs.Sure.{maybe, sure}
use Rattle.column_index.specs.declared.kept.Pair.{Pair}
use Rattle.event_batch.specs.Contents.{Content}
use Rattle.event_history.specs.Covers.{StandsIn}
use Rattle.event_history.specs.Events.{Event, event_of, events_in, events_of, matches}
use Rattle.event_history.specs.Pieces.{Held, Piece, batch_answer, piece_events}
use Rattle.archive_cache.specs.Caches.{Caching}
use Rattle.query_plan.specs.Candidates.{maybe_bits, sure_bits}
use Rattle.exporter.specs.Pages.{is_touched, is_unsure, may_match, unsure_in}
use Rattle.exporter.specs.Rows.{in_range, rows_between}
use Rattle.exporter.specs.Told.{IsNextCandidate, Tells}
use Rattle.exporter.specs.Walks.{Gathered, Reading, asked, capped, one_of, past_reading, with_batch}
use Rattle.exporter.proofs.PageLemmas.{is_candidate, no_candidate, no_look, no_match, some_event}
use Rattle.exporter.proofs.RowLemmas.{none_any, none_pass, rows_split, some_any}

-- The bits of a batch stand behind those of the batches in front of it.
slice_behind : {X : Type 0} (xs ys : List X) (k : ℕ) → slice_get (xs ++ ys) (length xs + k) ≡ slice_get ys k
slice_behind [] ys k = let same : 0 + k ≡ k = omega arith in ap (λ (i : ℕ). slice_get ys i) same
slice_behind (x ∷ xs) ys k =
    let same : length (x ∷ xs) + k ≡ suc (length xs + k) = omega arith in
    ap (λ (i : ℕ). slice_get (x ∷ (xs ++ ys)) i) same ∙ slice_behind xs ys k

slice_front : {X : Type 0} (xs ys : List X) (k : ℕ) (x : X) → slice_get xs k ≡ Some x → slice_get (xs ++ ys) k ≡ Some x
slice_front [] ys k x e = absurd cc
slice_front (y ∷ xs) ys zero x e = e
slice_front (y ∷ xs) ys (suc k) x e = slice_front xs ys k x e

told : (test : Event → Bool) (p : Piece) (h : Held) (offset : ℕ) → StandsIn p h → offset ≡ h.first - p.first → (k : ℕ) (e : Event)
    → slice_get (events_of h.packed.content) k ≡ Some e → slice_get (map test (piece_events p)) (offset + k) ≡ Some (test e)
told test p h offset s o k e is =
    let front : List Event = events_in s.front in
    let rest : List Event = events_of h.packed.content ++ events_in s.back in
    let place : offset + k ≡ length front + k = omega (arith, o, s.place) in
    let events : piece_events p ≡ front ++ rest = ap (λ (cs : List Content). events_in cs) s.contents ∙ flat_map-append events_of s.front (h.packed.content ∷ s.back) in
    slice_get-map test (piece_events p) (offset + k)
    ∙ ap (λ (i : ℕ). option_map test (slice_get (piece_events p) i)) place
    ∙ ap (λ (xs : List Event). option_map test (slice_get xs (length front + k))) events
    ∙ ap (λ (x : Option Event). option_map test x) (slice_behind front rest k ∙ slice_front (events_of h.packed.content) (events_in s.back) k e is)

pub part_tells : (expr : Expr) (p : Piece) (h : Held) (pair : Pair) (offset : ℕ) → StandsIn p h → offset ≡ h.first - p.first
    → pair.sure ≡ sure_bits expr (piece_events p) → pair.maybe ≡ maybe_bits expr (piece_events p) → Tells expr pair offset (events_of h.packed.content)
part_tells expr p h pair offset s o one two = record {
  sure = λ k e is. ap (λ (bs : List Bool). slice_get bs (offset + k)) one ∙ told (λ x. sure x.heading x.row expr) p h offset s o k e is;
  maybe = λ k e is. ap (λ (bs : List Bool). slice_get bs (offset + k)) two ∙ told (λ x. maybe x.heading x.row expr) p h offset s o k e is;
}

pub same_events : (expr : Expr) (pair : Pair) (offset : ℕ) (c d : Content) → d ≡ c → Tells expr pair offset (events_of c) → Tells expr pair offset (events_of d)
same_events expr pair offset c d e t = subst (λ (x : Content). Tells expr pair offset (events_of x)) (sym e) t

module _ (expr : Expr) (from to : ℕ) (h : Held) (pair : Pair) (offset low high place : ℕ)
    (rows : in_range from to h ≡ rows_between h.first low high (events_of h.packed.content)) (order : low ≤ high) (end : high ≤ length h.packed.content.rows)
    (tells : Tells expr pair offset (events_of h.packed.content)) (next : IsNextCandidate pair.maybe offset low high place) where
  long : length (events_of h.packed.content) ≡ length h.packed.content.rows
  long = length-map h.packed.content.rows (event_of h.packed.content.heading)

  none_before : (k : ℕ) (e : Event) → low ≤ k → k < place → slice_get (events_of h.packed.content) k ≡ Some e → may_match expr e ≡ false
  none_before k e a b is = no_candidate expr pair offset (events_of h.packed.content) k e tells is (next.first k a b)

  passing : (test : Event → Bool) → ((e : Event) → may_match expr e ≡ false → test e ≡ false)
      → filter (λ (x : ℕ × Event). test x.1) (in_range from to h) ≡ filter (λ (x : ℕ × Event). test x.1) (rows_between h.first place high (events_of h.packed.content))
  passing test out =
      let xs : List Event = events_of h.packed.content in
      ap (λ (ys : List (ℕ × Event)). filter (λ (x : ℕ × Event). test x.1) ys)
      (rows ∙ rows_split h.first low place high xs next.after next.within (omega (arith, next.within, end, long)))
      ∙ filter-append (λ (x : ℕ × Event). test x.1) (rows_between h.first low place xs) (rows_between h.first place high xs)
      ∙ ap (λ (ys : List (ℕ × Event)). ys ++ filter (λ (x : ℕ × Event). test x.1) (rows_between h.first place high xs))
      (none_pass test h.first low place xs (λ k e a b is. out e (none_before k e a b is)))

  pub reading_read : place < high → past_reading expr from to h ≡ record {
    touched = true;
    checked = length (filter (λ (x : ℕ × Event). is_unsure expr x.1) (rows_between h.first place high (events_of h.packed.content)));
    found = filter (λ (x : ℕ × Event). matches expr x.1) (rows_between h.first place high (events_of h.packed.content));
  }
  reading_read there =
      let xs : List Event = events_of h.packed.content in
      let some = some_event xs place (omega (arith, there, end, long)) in
      let may : may_match expr some.0 ≡ true = is_candidate expr pair offset xs place some.0 tells some.1 (next.one there) in
      let touched : is_touched expr from to h ≡ true =
      ap (λ (ys : List (ℕ × Event)). list_any (λ (x : ℕ × Event). may_match expr x.1) ys) rows ∙ some_any (may_match expr) h.first low place high some.0 xs next.after there some.1 may in
      let checked = passing (is_unsure expr) (no_look expr) in
      let found = passing (matches expr) (no_match expr) in
      ap (λ (b : Bool). record { touched = b; checked = unsure_in expr from to h; found = batch_answer (matches expr) from to h }) touched
      ∙ ap (λ (ys : List (ℕ × Event)). record { touched = true; checked = length ys; found = batch_answer (matches expr) from to h }) checked
      ∙ ap (λ (ys : List (ℕ × Event)). record {
        touched = true;
        checked = length (filter (λ (x : ℕ × Event). is_unsure expr x.1) (rows_between h.first place high xs));
        found = ys;
      }) found

  pub reading_passed : place ≡ high → past_reading expr from to h ≡ record { touched = false; checked = 0; found = [] }
  reading_passed at =
      let xs : List Event = events_of h.packed.content in
      let none : (k : ℕ) (e : Event) → low ≤ k → k < high → slice_get xs k ≡ Some e → may_match expr e ≡ false = λ k e a b is. none_before k e a (omega (arith, b, at)) is in
      let touched : is_touched expr from to h ≡ false =
      ap (λ (ys : List (ℕ × Event)). list_any (λ (x : ℕ × Event). may_match expr x.1) ys) rows ∙ none_any (may_match expr) h.first low high xs none in
      let looked : filter (λ (x : ℕ × Event). is_unsure expr x.1) (in_range from to h) ≡ [] =
      ap (λ (ys : List (ℕ × Event)). filter (λ (x : ℕ × Event). is_unsure expr x.1) ys) rows
      ∙ none_pass (is_unsure expr) h.first low high xs (λ k e a b is. no_look expr e (none k e a b is)) in
      let found : filter (λ (x : ℕ × Event). matches expr x.1) (in_range from to h) ≡ [] =
      ap (λ (ys : List (ℕ × Event)). filter (λ (x : ℕ × Event). matches expr x.1) ys) rows
      ∙ none_pass (matches expr) h.first low high xs (λ k e a b is. no_match expr e (none k e a b is)) in
      ap (λ (b : Bool). record { touched = b; checked = unsure_in expr from to h; found = batch_answer (matches expr) from to h }) touched
      ∙ ap (λ (ys : List (ℕ × Event)). record { touched = false; checked = length ys; found = batch_answer (matches expr) from to h }) looked
      ∙ ap (λ (ys : List (ℕ × Event)). record { touched = false; checked = 0; found = ys }) found

-- What a batch adds that was passed over, and one that was read.
capped_same : (n : ℕ) → n ≤ 2 ^ 64 - 1 → n ≡ capped (n + 0)
capped_same n h = omega (arith, h)

pub passed_adds : (r : Reading) (h : Held) (found : List (ℕ × Event)) (checked touched loads : ℕ) (cache : Caching) (steps : ℕ)
    → r ≡ record { touched = false; checked = 0; found = [] } → checked < 2 ^ 64 → touched < 2 ^ 64 → loads < 2 ^ 64
    → record { found = found; checked = checked; touched = touched; loads = loads; cache = cache; steps = steps }
    ≡ with_batch r h (record { found = found; checked = checked; touched = touched; loads = loads; cache = cache; steps = steps })
passed_adds r h found checked touched loads cache steps e a b d =
    let g : Gathered = record { found = found; checked = checked; touched = touched; loads = loads; cache = cache; steps = steps } in
    let one : found ≡ found ++ [] = sym (append-nil found) in
    let two : checked ≡ capped (checked + 0) = capped_same checked (omega (arith, a)) in
    let three : touched ≡ capped (touched + 0) = capped_same touched (omega (arith, b)) in
    let four : loads ≡ capped (loads + 0) = capped_same loads (omega (arith, d)) in
    let five : steps ≡ steps + 0 = omega arith in
    ap (λ (x : List (ℕ × Event)). record { found = x; checked = checked; touched = touched; loads = loads; cache = cache; steps = steps }) one
    ∙ ap (λ (x : ℕ). record { found = found ++ []; checked = x; touched = touched; loads = loads; cache = cache; steps = steps }) two
    ∙ ap (λ (x : ℕ). record { found = found ++ []; checked = capped (checked + 0); touched = x; loads = loads; cache = cache; steps = steps }) three
    ∙ ap (λ (x : ℕ). record { found = found ++ []; checked = capped (checked + 0); touched = capped (touched + 0); loads = x; cache = cache; steps = steps }) four
    ∙ ap (λ (x : ℕ). record { found = found ++ []; checked = capped (checked + 0); touched = capped (touched + 0); loads = capped (loads + 0); cache = cache; steps = x }) five
    ∙ ap (λ (x : Reading). with_batch x h g) (sym e)

pub read_adds : (r : Reading) (h : Held) (old mid : Gathered) (n : ℕ) (more found : List (ℕ × Event)) (checked : ℕ)
    → r ≡ record { touched = true; checked = n; found = more } → mid ≡ asked h old → found ≡ mid.found ++ more → checked ≡ capped (mid.checked + n)
    → record { found = found; checked = checked; touched = mid.touched; loads = mid.loads; cache = mid.cache; steps = mid.steps } ≡ with_batch r h old
read_adds r h old mid n more found checked e m f k =
    ap (λ (x : List (ℕ × Event)). record { found = x; checked = checked; touched = mid.touched; loads = mid.loads; cache = mid.cache; steps = mid.steps }) f
    ∙ ap (λ (x : ℕ). record { found = mid.found ++ more; checked = x; touched = mid.touched; loads = mid.loads; cache = mid.cache; steps = mid.steps }) k
    ∙ ap (λ (g : Gathered). record { found = g.found ++ more; checked = capped (g.checked + n); touched = g.touched; loads = g.loads; cache = g.cache; steps = g.steps }) m
    ∙ ap (λ (x : Reading). with_batch x h old) (sym e)

pub read_touches : (r : Reading) (n : ℕ) (more : List (ℕ × Event)) → r ≡ record { touched = true; checked = n; found = more } → one_of r.touched ≡ 1
read_touches r n more e = ap (λ (x : Reading). one_of x.touched) e

pub same_rows : (test : Expr → Event → Bool) (e f : Expr) (first start low high : ℕ) (c d : Content) → f ≡ e → start ≡ first → d ≡ c
    → filter (λ (x : ℕ × Event). test f x.1) (rows_between start low high (events_of d)) ≡ filter (λ (x : ℕ × Event). test e x.1) (rows_between first low high (events_of c))
same_rows test e f first start low high c d expr place content =
    ap (λ (y : Expr). filter (λ (x : ℕ × Event). test y x.1) (rows_between start low high (events_of d))) expr
    ∙ ap (λ (n : ℕ). filter (λ (x : ℕ × Event). test e x.1) (rows_between n low high (events_of d))) place
    ∙ ap (λ (y : Content). filter (λ (x : ℕ × Event). test e x.1) (rows_between first low high (events_of y))) content

pub on_err : {X E : Type 0} (r : Result X E) (P : Type 0) → P → OnErr r P
on_err (Ok x) P p = tt
on_err (Err e) P p = p
