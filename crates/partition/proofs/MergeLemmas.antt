-- Merging the columns and spans of adjacent batches.
use Rattle.std.proofs.Common.{◌≡◌, ◌⊎◌, ℕ, zero, suc, ◌+◌, ◌<◌, ◌≤◌, Bool, true, false, ◌&&◌, ◌||◌, List, [], ◌∷◌, ◌++◌, Option, None, Some, length, map, flat_map, take, drop, replicate, slice_get, slice_index_or, refl, ap, sym, ◌∙◌, subst, arith, append-nil, if◌then◌else◌, inl, inr}
use Rattle.std.specs.declared.snapshot.Snapshot.{Snapshot}
use Rattle.std.specs.List.{list_all, list_any}
use Rattle.std.specs.Str.{bytes_eq}
use Rattle.std.proofs.lemmas.Grind.{flat_map-append}
use Rattle.std.proofs.lemmas.List.{append_assoc, length-append, map-append}
use Rattle.std.proofs.lemmas.List.Folds.{list_all-append, list_any-append}
use Rattle.vast_value.specs.declared.cell.Cell.{Cell}
use Rattle.vast_value.specs.declared.kind.Elem.TheVariants as elem
use Rattle.vast_value.specs.Headings.{Field}
use Rattle.query_meaning.specs.Meaning.{is_of}
use Rattle.column_index.specs.Stands.{Stands}
use Rattle.event_history.specs.Events.{Event, events_in, events_of}
use Rattle.event_history.specs.Pieces.{AreAdjacent, Follow, Piece, piece_events}
use Rattle.partition.specs.declared.index.PlacedColumn.{PlacedColumn}
use Rattle.partition.specs.declared.index.Span.{Span}
use Rattle.partition.specs.Columns.{Place, cell_among, cell_in, column_cells, is_covered, place_of, same_kind, same_place, time_among, time_place}
use Rattle.partition.specs.Indexes.{AreSpans, EachColumn, InSpan, place_in, places_of, time_at}
use Rattle.partition.specs.Merged.{Added, IsWithin, Retimed, Retold, all_events, pieces_of}
use Rattle.partition.proofs.ListLemmas.{get_front, read_more}
use Rattle.partition.proofs.PickLemmas.{and_left, and_right, bytes_same, place_found, place_same, place_self}
use Rattle.partition.proofs.SpanLemmas.{all_got}

-- one more of the first ones
take_suc : {X : Type 0} (xs : List X) (i : ℕ) (x : X) → i < length xs → x ≡ slice_index_or xs i x → take (suc i) xs ≡ take i xs ++ x ∷ []
take_suc [] i x h e = absurd (omega (arith, h))
take_suc (y ∷ ys) zero x h e = ap (λ (z : _). z ∷ []) (sym e)
take_suc (y ∷ ys) (suc i) x h e = ap (λ (zs : List _). y ∷ zs) (take_suc ys i x (omega (arith, h)) e)

pub take_next : {X : Type 0} (xs : List X) (i : ℕ) (x : X) → i < length xs → x ≡ slice_index_or xs i x → take (i + 1) xs ≡ take i xs ++ x ∷ []
take_next xs i x h e =
    let next : i + 1 ≡ suc i = omega arith in
    ap (λ (n : ℕ). take n xs) next ∙ take_suc xs i x h e

-- what the first pieces have, one piece more
flat_next : {X Y : Type 0} (h : Piece → List Y) (g : X → Piece) (xs : List X) (i : ℕ) (x : X) → i < length xs → x ≡ slice_index_or xs i x
    → flat_map h (map g (take (suc i) xs)) ≡ flat_map h (map g (take i xs)) ++ h (g x)
flat_next h g [] i x k e = absurd (omega (arith, k))
flat_next h g (y ∷ ys) zero x k e = append-nil (h (g y)) ∙ ap (λ (z : _). h (g z)) (sym e)
flat_next h g (y ∷ ys) (suc i) x k e =
    ap (λ (es : List _). h (g y) ++ es) (flat_next h g ys i x (omega (arith, k)) e)
    ∙ sym (append_assoc (h (g y)) (flat_map h (map g (take i ys))) (h (g x)))

pub more_flat : {X Y : Type 0} (h : Piece → List Y) (g : X → Piece) (xs : List X) (i : ℕ) (x : X) → i < length xs → x ≡ slice_index_or xs i x
    → flat_map h (map g (take (i + 1) xs)) ≡ flat_map h (map g (take i xs)) ++ h (g x)
more_flat h g xs i x k e =
    let next : i + 1 ≡ suc i = omega arith in
    ap (λ (n : ℕ). flat_map h (map g (take n xs))) next ∙ flat_next h g xs i x k e

pub more_events : {X : Type 0} (g : X → Piece) (xs : List X) (i : ℕ) (x : X) → i < length xs → x ≡ slice_index_or xs i x
    → all_events (map g (take (i + 1) xs)) ≡ all_events (map g (take i xs)) ++ piece_events (g x)
more_events g xs i x h e = more_flat piece_events g xs i x h e

-- the events of the pieces' batches
pub joined_events : (pieces : List Piece) → events_in (flat_map (λ q. q.contents) pieces) ≡ all_events pieces
joined_events [] = refl
joined_events (p ∷ ps) =
    flat_map-append events_of p.contents (flat_map (λ q. q.contents) ps) ∙ ap (λ (es : List Event). piece_events p ++ es) (joined_events ps)

pub snaps_more : {X : Type 0} (g : X → Piece) (xs : List X) (i : ℕ) (x : X) (kept new : List (Snapshot Piece)) (s : Snapshot Piece) → i < length xs → x ≡ slice_index_or xs i x
    → pieces_of kept ≡ map g (take i xs) → s.value ≡ g x → new ≡ kept ++ s ∷ [] → pieces_of new ≡ map g (take (i + 1) xs)
snaps_more g xs i x kept new s h e before here is =
    ap (λ (ss : List (Snapshot Piece)). pieces_of ss) is
    ∙ map-append (λ (t : Snapshot Piece). t.value) kept (s ∷ [])
    ∙ ap (λ (ps : List Piece). ps ++ s.value ∷ []) before
    ∙ ap (λ (p : Piece). map g (take i xs) ++ p ∷ []) here
    ∙ sym (map-append g (take i xs) (x ∷ []))
    ∙ sym (ap (λ (zs : List _). map g zs) (take_next xs i x h e))

-- what all events meet those of one piece do
pub all_piece : {X : Type 0} (keep : Event → Bool) (g : X → Piece) (xs : List X) (i : ℕ) (x : X) → i < length xs → x ≡ slice_index_or xs i x
    → list_all keep (all_events (map g xs)) ≡ true → list_all keep (piece_events (g x)) ≡ true
all_piece keep g [] i x h e all = absurd (omega (arith, h))
all_piece keep g (y ∷ ys) zero x h e all =
    ap (λ (z : _). list_all keep (piece_events (g z))) e
    ∙ and_left (list_all keep (piece_events (g y))) (list_all keep (all_events (map g ys))) (sym (list_all-append keep (piece_events (g y)) (all_events (map g ys))) ∙ all)
all_piece keep g (y ∷ ys) (suc i) x h e all =
    all_piece keep g ys i x (omega (arith, h)) e
    (and_right (list_all keep (piece_events (g y))) (list_all keep (all_events (map g ys))) (sym (list_all-append keep (piece_events (g y)) (all_events (map g ys))) ∙ all))

-- of a column that covered events don't have they have no cell
no_field : (p : Place) (path : List ℕ) (places : List Place) (b : Bool) (f : Field) → (b ≡ true → place_of path f ≡ p) → list_any (same_place (place_of path f)) places ≡ true
    → list_any (same_place p) places ≡ false → b ≡ false
no_field p path places true f same there none =
    absurd (let no : true ≡ false = sym there ∙ ap (λ (q : Place). list_any (same_place q) places) (same refl) ∙ none in cc)
no_field p path places false f same there none = refl

no_cell : (p : Place) (path : List ℕ) (places : List Place) (fs : List Field) (xs : List Cell) → path ≡ p.path
    → list_all (λ f. list_any (same_place (place_of path f)) places) fs ≡ true → list_any (same_place p) places ≡ false → cell_among p.name p.kind fs xs ≡ None
no_cell p path places [] xs same all none = refl
no_cell p path places (f ∷ fs) [] same all none = refl
no_cell p path places (f ∷ fs) (x ∷ xs) same all none =
    let there : list_any (same_place (place_of path f)) places ≡ true =
    and_left (list_any (same_place (place_of path f)) places) (list_all (λ g. list_any (same_place (place_of path g)) places) fs) all in
    ap (λ (b : Bool). if b then Some x else cell_among p.name p.kind fs xs)
    (no_field p path places (bytes_eq f.name p.name && same_kind f.kind p.kind) f (place_found p path f same) there none)
    ∙ no_cell p path places fs xs same (and_right (list_any (same_place (place_of path f)) places) (list_all (λ g. list_any (same_place (place_of path g)) places) fs) all) none

none_by : (b : Bool) (o : Option Cell) → (b ≡ true → o ≡ None) → (if b then o else None) ≡ None
none_by true o h = h refl
none_by false o h = refl

no_cell_in : (p : Place) (places : List Place) (e : Event) → is_covered places e ≡ true → list_any (same_place p) places ≡ false → cell_in p e ≡ None
no_cell_in p places e covered none =
    none_by (bytes_eq e.heading.path p.path) (cell_among p.name p.kind e.heading.fields e.row)
    (λ same. no_cell p e.heading.path places e.heading.fields e.row (bytes_same e.heading.path p.path same) covered none)

pub no_cells : (p : Place) (places : List Place) (es : List Event) → list_all (is_covered places) es ≡ true → list_any (same_place p) places ≡ false
    → column_cells p es ≡ replicate (length es) None
no_cells p places [] covered none = refl
no_cells p places (e ∷ es) covered none =
    ap (λ (o : Option Cell). o ∷ column_cells p es) (no_cell_in p places e (and_left (is_covered places e) (list_all (is_covered places) es) covered) none)
    ∙ ap (λ (os : List (Option Cell)). None ∷ os) (no_cells p places es (and_right (is_covered places e) (list_all (is_covered places) es) covered) none)

-- places that are among others
any_within : (these those : List Place) (path : List ℕ) (fs : List Field) → IsWithin these those
    → list_all (λ f. list_any (same_place (place_of path f)) these) fs ≡ true → list_all (λ f. list_any (same_place (place_of path f)) those) fs ≡ true
any_within these those path [] within all = refl
any_within these those path (f ∷ fs) within all =
    ap (λ (b : Bool). b && list_all (λ g. list_any (same_place (place_of path g)) those) fs)
    (within (place_of path f) (and_left (list_any (same_place (place_of path f)) these) (list_all (λ g. list_any (same_place (place_of path g)) these) fs) all))
    ∙ any_within these those path fs within (and_right (list_any (same_place (place_of path f)) these) (list_all (λ g. list_any (same_place (place_of path g)) these) fs) all)

pub covered_within : (these those : List Place) (es : List Event) → IsWithin these those → list_all (is_covered these) es ≡ true → list_all (is_covered those) es ≡ true
covered_within these those [] within all = refl
covered_within these those (e ∷ es) within all =
    ap (λ (b : Bool). b && list_all (is_covered those) es)
    (any_within these those e.heading.path e.heading.fields within (and_left (is_covered these e) (list_all (is_covered these) es) all))
    ∙ covered_within these those es within (and_right (is_covered these e) (list_all (is_covered these) es) all)

both : (a b : Bool) → a ≡ true → b ≡ true → (a && b) ≡ true
both a b h k = ap (λ (x : Bool). x && b) h ∙ k

pub all_more : (keep : Event → Bool) (es more : List Event) → list_all keep es ≡ true → list_all keep more ≡ true → list_all keep (es ++ more) ≡ true
all_more keep es more here behind = list_all-append keep es more ∙ both (list_all keep es) (list_all keep more) here behind

pub any_front : (p : Place) (xs ys : List Place) → list_any (same_place p) xs ≡ true → list_any (same_place p) (xs ++ ys) ≡ true
any_front p xs ys h = list_any-append (same_place p) xs ys ∙ ap (λ (b : Bool). b || list_any (same_place p) ys) h

or_true : (b : Bool) → (b || true) ≡ true
or_true true = refl
or_true false = refl

pub any_back : (p : Place) (xs ys : List Place) → list_any (same_place p) ys ≡ true → list_any (same_place p) (xs ++ ys) ≡ true
any_back p xs ys h = list_any-append (same_place p) xs ys ∙ ap (λ (b : Bool). list_any (same_place p) xs || b) h ∙ or_true (list_any (same_place p) xs)

pub any_got : (p : Place) (places : List Place) (i : ℕ) → slice_get places i ≡ Some p → list_any (same_place p) places ≡ true
any_got p [] i e = absurd cc
any_got p (q ∷ qs) zero e =
    let same : q ≡ p = cc in
    ap (λ (x : Place). same_place p x || list_any (same_place p) qs) same ∙ ap (λ (b : Bool). b || list_any (same_place p) qs) (place_self p)
any_got p (q ∷ qs) (suc i) e = ap (λ (b : Bool). same_place p q || b) (any_got p qs i e) ∙ or_true (same_place p q)

or_either : (a b : Bool) → (a || (b || false)) ≡ true → (a ≡ true) ⊎ (b ≡ true)
or_either true b e = inl refl
or_either false true e = inr refl
or_either false false e = absurd cc

pub any_more : (p q : Place) (places : List Place) → list_any (same_place p) (places ++ q ∷ []) ≡ true → (list_any (same_place p) places ≡ true) ⊎ (p ≡ q)
any_more p q places any =
    elim (or_either (list_any (same_place p) places) (same_place p q) (sym (list_any-append (same_place p) places (q ∷ [])) ∙ any))
    as (λ _. (list_any (same_place p) places ≡ true) ⊎ (p ≡ q))
    [ inl h ↦ inl h | inr h ↦ inr (place_same p q h) ]

-- the columns of an index are within, one after the other
pub within_more : (columns : List PlacedColumn) (i : ℕ) (c : PlacedColumn) (before after : List Place) → i < length columns → c ≡ slice_index_or columns i c
    → IsWithin (places_of (take i columns)) before → IsWithin before after → list_any (same_place (place_in c)) after ≡ true → IsWithin (places_of (take (i + 1) columns)) after
within_more columns i c before after h e these keeps adds p any =
    elim (any_more p (place_in c) (places_of (take i columns))
    (sym (ap (λ (ps : List Place). list_any (same_place p) ps)
    (ap (λ (cs : List PlacedColumn). places_of cs) (take_next columns i c h e) ∙ map-append place_in (take i columns) (c ∷ []))) ∙ any))
    as (λ _. list_any (same_place p) after ≡ true)
    [ inl h ↦ keeps p (these p h) | inr same ↦ ap (λ (q : Place). list_any (same_place q) after) same ∙ adds ]

pub within_pushed : (columns : List PlacedColumn) (c : PlacedColumn) → IsWithin (places_of columns) (places_of (columns ++ c ∷ []))
within_pushed columns c p any =
    ap (λ (ps : List Place). list_any (same_place p) ps) (map-append place_in columns (c ∷ [])) ∙ any_front p (places_of columns) (place_in c ∷ []) any

pub pushed_within : (columns : List PlacedColumn) (c : PlacedColumn) (p : Place) → place_in c ≡ p → list_any (same_place p) (places_of (columns ++ c ∷ [])) ≡ true
pushed_within columns c p same =
    ap (λ (ps : List Place). list_any (same_place p) ps) (map-append place_in columns (c ∷ []))
    ∙ any_back p (places_of columns) (place_in c ∷ []) (ap (λ (q : Place). same_place p q || false) same ∙ ap (λ (b : Bool). b || false) (place_self p))

pub each_more : (columns : List PlacedColumn) (c : PlacedColumn) (p : Place) (events : List Event) → place_in c ≡ p → Stands c.column (column_cells p events)
    → EachColumn columns events → EachColumn (columns ++ c ∷ []) events
each_more columns c p events same stands each i d h e =
    elim (read_more columns c d i h e) as (λ _. Stands d.column (column_cells (place_in d) events)) [
      | inl r ↦ each i d r.0 r.1
      | inr r ↦
          subst (λ (x : PlacedColumn). Stands x.column (column_cells (place_in x) events)) (sym r.1)
          (subst (λ (q : Place). Stands c.column (column_cells q events)) (sym same) stands)
    ]

pub cells_more : (p : Place) (es more : List Event) → column_cells p (es ++ more) ≡ column_cells p es ++ column_cells p more
cells_more p es more = map-append (cell_in p) es more

-- Spans behind spans.
drop_front : {X : Type 0} (n : ℕ) (xs ys : List X) → n ≤ length xs → drop n (xs ++ ys) ≡ drop n xs ++ ys
drop_front zero xs ys h = refl
drop_front (suc n) [] ys h = absurd (omega (arith, h))
drop_front (suc n) (x ∷ xs) ys h = drop_front n xs ys (omega (arith, h))

pub spans_behind : (places : List Place) (ss ts : List Span) (es more : List Event) → AreSpans places ss es → AreSpans places ts more → AreSpans places (ss ++ ts) (es ++ more)
spans_behind places [] ts es more a b = subst (λ (xs : List Event). AreSpans places ts (xs ++ more)) (sym a) b
spans_behind places (s ∷ ss) ts es more a b = (
  omega (arith, a.0, length-append es more),
  λ i e h got. a.1 i e h (sym (get_front es more i (omega (arith, h, a.0))) ∙ got),
  subst (λ (xs : List Event). AreSpans places (ss ++ ts) xs) (sym (drop_front s.rows es more a.0)) (spans_behind places ss ts (drop s.rows es) more a.2 b),
)

-- The time's column of a covered event is there.
time_by : (p : Place) (path : List ℕ) (places : List Place) (f : Field) (o : Option Place) (b : Bool) → list_any (same_place (place_of path f)) places ≡ true
    → (o ≡ Some p → list_any (same_place p) places ≡ true) → (if b then Some (place_of path f) else o) ≡ Some p → list_any (same_place p) places ≡ true
time_by p path places f o true there later e = let same : place_of path f ≡ p = cc in sym (ap (λ (q : Place). list_any (same_place q) places) same) ∙ there
time_by p path places f o false there later e = later e

time_covered : (p : Place) (path : List ℕ) (places : List Place) (fs : List Field) → list_all (λ f. list_any (same_place (place_of path f)) places) fs ≡ true
    → time_among path fs ≡ Some p → list_any (same_place p) places ≡ true
time_covered p path places [] all e = absurd cc
time_covered p path places (f ∷ fs) all e =
    time_by p path places f (time_among path fs) (is_of elem.Time f.kind)
    (and_left (list_any (same_place (place_of path f)) places) (list_all (λ g. list_any (same_place (place_of path g)) places) fs) all)
    (time_covered p path places fs (and_right (list_any (same_place (place_of path f)) places) (list_all (λ g. list_any (same_place (place_of path g)) places) fs) all)) e

time_told : (places : List Place) (o was : Option Place) (now : Option ℕ) → o ≡ was → Retimed places was now → ((p : Place) → o ≡ Some p → list_any (same_place p) places ≡ true)
    → o ≡ time_at places now
time_told places o None now same r found = same ∙ sym (r.none refl)
time_told places o (Some p) now same r found = same ∙ sym (r.some p refl (found p same))

all_behind : (keep : Event → Bool) (n : ℕ) (es : List Event) → list_all keep es ≡ true → list_all keep (drop n es) ≡ true
all_behind keep zero es all = all
all_behind keep (suc n) [] all = refl
all_behind keep (suc n) (e ∷ es) all = all_behind keep n es (and_right (keep e) (list_all keep es) all)

pub spans_retold : (places old : List Place) (ss ts : List Span) (es : List Event) → list_all (is_covered places) es ≡ true → Retold places old ss ts → AreSpans old ss es → AreSpans places ts es
spans_retold places old [] [] es covered r a = a
spans_retold places old [] (t ∷ ts) es covered r a = absurd r
spans_retold places old (s ∷ ss) [] es covered r a = absurd r
spans_retold places old (s ∷ ss) (t ∷ ts) es covered r a = (
  subst (λ (n : ℕ). n ≤ length es) (sym r.1) a.0,
  λ i e h got.
      let here : InSpan old s e = a.1 i e (subst (λ (n : ℕ). i < n) r.1 h) got in
      record {
        path = here.path ∙ sym r.0;
        time = time_told places (time_place e.heading) (time_at old s.time) t.time here.time r.2
            (λ p is. time_covered p e.heading.path places e.heading.fields (all_got (is_covered places) es 0 i e covered got) is);
      },
  subst (λ (n : ℕ). AreSpans places ts (drop n es)) (sym r.1)
      (spans_retold places old ss ts (drop s.rows es) (all_behind (is_covered places) s.rows es covered) r.3 a.2),
)

retold_more : (places old : List Place) (ss ts : List Span) (s t : Span) → Retold places old ss ts → t.path ≡ s.path → t.rows ≡ s.rows → Retimed places (time_at old s.time) t.time
    → Retold places old (ss ++ s ∷ []) (ts ++ t ∷ [])
retold_more places old [] [] s t r path rows time = (path, rows, time, tt)
retold_more places old [] (u ∷ ts) s t r path rows time = absurd r
retold_more places old (u ∷ ss) [] s t r path rows time = absurd r
retold_more places old (u ∷ ss) (v ∷ ts) s t r path rows time = (r.0, r.1, r.2, retold_more places old ss ts s t r.3 path rows time)

pub added_more : (places old : List Place) (spans before now after : List Span) (i : ℕ) (s t : Span) → i < length spans → s ≡ slice_index_or spans i s
    → Added places old (take i spans) before now → t.path ≡ s.path → t.rows ≡ s.rows → Retimed places (time_at old s.time) t.time → after ≡ now ++ t ∷ []
    → Added places old (take (i + 1) spans) before after
added_more places old spans before now after i s t h e a path rows time is = (
  a.0 ++ t ∷ [],
  is ∙ ap (λ (ss : List Span). ss ++ t ∷ []) a.1 ∙ append_assoc before a.0 (t ∷ []),
  subst (λ (ss : List Span). Retold places old ss (a.0 ++ t ∷ [])) (sym (take_next spans i s h e)) (retold_more places old (take i spans) a.0 s t a.2 path rows time),
)

pub added_spans : (places old : List Place) (spans before after : List Span) (es more : List Event) → Added places old spans before after → list_all (is_covered places) more ≡ true
    → AreSpans old spans more → AreSpans places before es → AreSpans places after (es ++ more)
added_spans places old spans before after es more a covered are front =
    subst (λ (ss : List Span). AreSpans places ss (es ++ more)) (sym a.1)
    (spans_behind places before a.0 es more front (spans_retold places old spans a.0 more covered a.2 are))

-- one piece more that follows the others
pub follow_more : (batch first : ℕ) (ps : List Piece) (p : Piece) → Follow batch first ps → p.batch ≡ batch + length (flat_map (λ q. q.contents) ps) → p.first ≡ first + length (all_events ps)
    → Follow batch first (ps ++ p ∷ [])
follow_more batch first [] p f b e = (omega (arith, b), omega (arith, e), tt)
follow_more batch first (q ∷ qs) p f b e = (
  f.0,
  f.1,
  follow_more (batch + length q.contents) (first + length (piece_events q)) qs p f.2
      (omega (arith, b, length-append q.contents (flat_map (λ r. r.contents) qs)))
      (omega (arith, e, length-append (piece_events q) (all_events qs))),
)

pub follow_adjacent : (ps : List Piece) → Follow 0 0 ps → AreAdjacent ps
follow_adjacent [] f = tt
follow_adjacent (q ∷ qs) f =
    subst (λ (n : ℕ). Follow n (q.first + length (piece_events q)) qs) (ap (λ (n : ℕ). n + length q.contents) (sym f.0))
    (subst (λ (n : ℕ). Follow (0 + length q.contents) n qs) (ap (λ (n : ℕ). n + length (piece_events q)) (sym f.1)) f.2)

pub pushed_flat : {Y : Type 0} (h : Piece → List Y) (ps : List Piece) (p : Piece) → length (flat_map h (ps ++ p ∷ [])) ≡ length (flat_map h ps) + length (h p)
pushed_flat h ps p =
    ap (λ (ys : List _). length ys) (flat_map-append h ps (p ∷ []) ∙ ap (λ (ys : List _). flat_map h ps ++ ys) (append-nil (h p))) ∙ length-append (flat_map h ps) (h p)

pub pushed_map : {X : Type 0} (g : X → Piece) (xs : List X) (x : X) (new : List X) → new ≡ xs ++ x ∷ [] → map g new ≡ map g xs ++ g x ∷ []
pushed_map g xs x new is = ap (λ (ys : List _). map g ys) is ∙ map-append g xs (x ∷ [])
