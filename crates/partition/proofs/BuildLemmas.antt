-- Building a batch's columns.
use Rattle.std.proofs.Common.{◌≡◌, ℕ, zero, suc, ◌+◌, ◌-◌, ◌<◌, ◌≤◌, Bool, true, false, ◌&&◌, ◌||◌, List, [], ◌∷◌, ◌++◌, Option, None, Some, is_some, length, map, take, replicate, slice_get, slice_index_or, if◌then◌else◌, refl, ap, sym, ◌∙◌, subst, arith, append-nil, append_assoc, nat_eq, inl, inr}
use Rattle.std.specs.List.{list_all, list_any}
use Rattle.std.proofs.lemmas.List.{map_more, length-map, length-take, map-append, drop_all}
use Rattle.bits_law.specs.Keys.{with_key}
use Rattle.vast_value.specs.declared.cell.Cell.{Cell}
use Rattle.vast_value.specs.declared.column.Column.{Column}
use Rattle.vast_value.specs.declared.kind.Elem.TheVariants as elem
use Rattle.vast_value.specs.declared.kind.Kind.{Kind}
use Rattle.vast_value.specs.Fit.{fits_columns, is_small}
use Rattle.vast_value.specs.Headings.{Field, Heading, field_of, fits_fields, heading_of}
use Rattle.vast_value.specs.Kinds.{has_kind}
use Rattle.query_meaning.specs.Meaning.{is_of}
use Rattle.event_batch.specs.declared.batch.Batch.{Batch}
use Rattle.event_batch.specs.Contents.{Content, content_of, is_content}
use Rattle.event_batch.proofs.ContentLemmas.{is_content_of}
use Rattle.event_history.specs.Events.{Event, event_of, events_of}
use Rattle.partition.specs.Building.{cell_at, has_cell, is_cell_of}
use Rattle.partition.specs.Columns.{Place, are_distinct, cell_among, cell_in, column_cells, is_covered, place_of, same_place, time_among, time_place}
use Rattle.partition.specs.Indexes.{AreSpans, IndexStands, is_sound, place_in, places_of, time_at}
use Rattle.partition.specs.declared.index.Index.{Index}
use Rattle.partition.specs.declared.index.Span.{Span}
use Rattle.partition.specs.declared.index.PlacedColumn.{PlacedColumn}
use Rattle.column_index.specs.Stands.{Stands}
use Rattle.partition.proofs.ListLemmas.{at_index, get_within, read_get, read_more}
use Rattle.partition.proofs.PickLemmas.{Reads, and_left, and_right, bytes_self, or_right, place_self, reads_all}
use Rattle.partition.proofs.HeadingLemmas.{content_distinct, content_fits, fit_length}
use Rattle.std.proofs.lemmas.Bool.Decides.{nat_tests}

pub row_has : (kind : Kind) (at : ℕ) (rows : List (List Cell)) (i : ℕ) (r : List Cell) → list_all (has_cell kind at) rows ≡ true → i < length rows → r ≡ slice_index_or rows i r
    → has_cell kind at r ≡ true
row_has kind at [] i r all h e = absurd (omega (arith, h))
row_has kind at (x ∷ xs) zero r all h e =
    ap (λ (y : List Cell). has_cell kind at y) e ∙ and_left (has_cell kind at x) (list_all (has_cell kind at) xs) all
row_has kind at (x ∷ xs) (suc i) r all h e = row_has kind at xs i r (and_right (has_cell kind at x) (list_all (has_cell kind at) xs) all) (omega (arith, h)) e

some_cell : (kind : Kind) (o : Option Cell) → is_cell_of kind o ≡ true → is_some o ≡ true
some_cell kind None e = absurd cc
some_cell kind (Some x) e = refl

pub cell_there : (kind : Kind) (at : ℕ) (r : List Cell) → has_cell kind at r ≡ true → at < length r
cell_there kind at r h = get_within r at (some_cell kind (slice_get r at) h)

pub cell_kind : (kind : Kind) (at : ℕ) (r : List Cell) (x : Cell) → has_cell kind at r ≡ true → x ≡ slice_index_or r at x → has_kind x kind ≡ true
cell_kind kind at r x h e = ap (λ (o : Option Cell). is_cell_of kind o) (sym (read_get r x at (cell_there kind at r h) e)) ∙ h

-- one key behind the others
pub key_next : {K : Type 0} (keys : List (Option K)) (row : ℕ) (x : K) → length keys ≡ row → with_key keys row x ≡ keys ++ Some x ∷ []
key_next {K} keys row x e =
    let none : row - length keys ≡ 0 = omega arith in
    ap (λ (n : ℕ). (keys ++ replicate n None) ++ Some x ∷ []) none ∙ ap (λ (xs : List (Option K)). xs ++ Some x ∷ []) (append-nil keys)

pub next_cell : (at row : ℕ) (rows : List (List Cell)) (r : List Cell) (x : Cell) → row < length rows → r ≡ slice_index_or rows row r → at < length r → x ≡ slice_index_or r at x
    → with_key (map (cell_at at) (take row rows)) row x ≡ map (cell_at at) (take (row + 1) rows)
next_cell at row rows r x h e k f =
    let short : length (map (cell_at at) (take row rows)) ≡ row = omega (arith, length-map (take row rows) (cell_at at), length-take row rows) in
    key_next (map (cell_at at) (take row rows)) row x short
    ∙ ap (λ (o : Option Cell). map (cell_at at) (take row rows) ++ o ∷ []) (sym (read_get r x at k f))
    ∙ ap (λ (y : List Cell). map (cell_at at) (take row rows) ++ cell_at at y ∷ []) e
    ∙ sym (map_more (cell_at at) rows row r h)

-- The first column of kind time.
pub time_first : (path : List ℕ) (columns : List Column) (at : ℕ) (c : Column) → ((j : ℕ) (d : Column) → j < at → d ≡ slice_index_or columns j d → is_of elem.Time d.kind ≡ false)
    → at < length columns → c ≡ slice_index_or columns at c → is_of elem.Time c.kind ≡ true
    → time_among path (map field_of columns) ≡ slice_get (map (place_of path) (map field_of columns)) at
time_first path [] at c before h e is = absurd (omega (arith, h))
time_first path (d ∷ ds) zero c before h e is =
    ap (λ (b : Bool). if b then Some (place_of path (field_of d)) else time_among path (map field_of ds)) (ap (λ (x : Column). is_of elem.Time x.kind) (sym e) ∙ is)
time_first path (d ∷ ds) (suc at) c before h e is =
    ap (λ (b : Bool). if b then Some (place_of path (field_of d)) else time_among path (map field_of ds)) (before 0 d (omega arith) refl)
    ∙ time_first path ds at c (λ j x k f. before (suc j) x (omega arith) f) (omega (arith, h)) e is

pub time_nowhere : (path : List ℕ) (columns : List Column) → ((j : ℕ) (d : Column) → j < length columns → d ≡ slice_index_or columns j d → is_of elem.Time d.kind ≡ false)
    → time_among path (map field_of columns) ≡ None
time_nowhere path [] none = refl
time_nowhere path (d ∷ ds) none =
    ap (λ (b : Bool). if b then Some (place_of path (field_of d)) else time_among path (map field_of ds)) (none 0 d (omega arith) refl)
    ∙ time_nowhere path ds (λ j x k f. none (suc j) x (omega arith) f)

eq_true : (a b : ℕ) → a ≡ b → nat_eq a b ≡ true
eq_true a b h = grind (arith, nat_tests)

fits_has : (columns : List Column) (r : List Cell) (at : ℕ) (c : Column) → fits_columns columns r ≡ true → at < length columns → c ≡ slice_index_or columns at c → has_cell c.kind at r ≡ true
fits_has [] r at c f h e = absurd (omega (arith, h))
fits_has (d ∷ ds) [] at c f h e = absurd cc
fits_has (d ∷ ds) (x ∷ xs) zero c f h e =
    ap (λ (y : Column). has_kind x y.kind) e ∙ and_left (has_kind x d.kind) (is_small x) (and_left (has_kind x d.kind && is_small x) (fits_columns ds xs) f)
fits_has (d ∷ ds) (x ∷ xs) (suc at) c f h e = fits_has ds xs at c (and_right (has_kind x d.kind && is_small x) (fits_columns ds xs) f) (omega (arith, h)) e

-- A batch's rows, column by column.
pub column_has : (columns : List Column) (rows : List (List Cell)) (at : ℕ) (c : Column) → list_all (fits_columns columns) rows ≡ true → at < length columns → c ≡ slice_index_or columns at c
    → list_all (has_cell c.kind at) rows ≡ true
column_has columns [] at c all h e = refl
column_has columns (r ∷ rs) at c all h e =
    let here : has_cell c.kind at r ≡ true = fits_has columns r at c (and_left (fits_columns columns r) (list_all (fits_columns columns) rs) all) h e in
    ap (λ (b : Bool). b && list_all (has_cell c.kind at) rs) here ∙ column_has columns rs at c (and_right (fits_columns columns r) (list_all (fits_columns columns) rs) all) h e

-- what a row has at a place is what the event has in that place's column
reads_at : (fs : List Field) (xs : List Cell) (gs : List Field) (ys : List Cell) (at : ℕ) (g : Field) → length gs ≡ length ys → Reads fs xs gs ys → at < length gs → g ≡ slice_index_or gs at g
    → slice_get ys at ≡ cell_among g.name g.kind fs xs
reads_at fs xs [] ys at g same reads h e = absurd (omega (arith, h))
reads_at fs xs (f ∷ gs) [] at g same reads h e = absurd (omega (arith, same))
reads_at fs xs (f ∷ gs) (y ∷ ys) zero g same reads h e = sym (ap (λ (x : Field). cell_among x.name x.kind fs xs) e ∙ reads.0)
reads_at fs xs (f ∷ gs) (y ∷ ys) (suc at) g same reads h e = reads_at fs xs gs ys at g (omega (arith, same)) reads.1 (omega (arith, h)) e

pub row_cell : (h : Heading) (row : List Cell) (at : ℕ) (f : Field) → are_distinct h.fields ≡ true → length h.fields ≡ length row → at < length h.fields → f ≡ slice_index_or h.fields at f
    → cell_at at row ≡ cell_in (place_of h.path f) (event_of h row)
row_cell h row at f distinct same there found =
    reads_at h.fields row h.fields row at f same (reads_all h.fields row distinct) there found
    ∙ sym (ap (λ (b : Bool). if b then cell_among f.name f.kind h.fields row else None) (bytes_self h.path))

pub batch_cells : (h : Heading) (rows : List (List Cell)) (at : ℕ) (f : Field) → are_distinct h.fields ≡ true → list_all (fits_fields h.fields) rows ≡ true
    → at < length h.fields → f ≡ slice_index_or h.fields at f
    → map (cell_at at) rows ≡ column_cells (place_of h.path f) (map (event_of h) rows)
batch_cells h [] at f distinct all there found = refl
batch_cells h (r ∷ rs) at f distinct all there found =
    let same : length h.fields ≡ length r = fit_length h.fields r (and_left (fits_fields h.fields r) (list_all (fits_fields h.fields) rs) all) in
    ap (λ (o : Option Cell). o ∷ map (cell_at at) rs) (row_cell h r at f distinct same there found)
    ∙ ap (λ (xs : List (Option Cell)). cell_in (place_of h.path f) (event_of h r) ∷ xs)
    (batch_cells h rs at f distinct (and_right (fits_fields h.fields r) (list_all (fits_fields h.fields) rs) all) there found)

-- The columns of a layout cover its events.
any_here : (p : Place) (front : List Place) (back : List Place) → list_any (same_place p) (front ++ p ∷ back) ≡ true
any_here p [] back = ap (λ (b : Bool). b || list_any (same_place p) back) (place_self p)
any_here p (q ∷ front) back = or_right (same_place p q) (list_any (same_place p) (front ++ p ∷ back)) (any_here p front back)

all_here : (path : List ℕ) (before fs : List Field) → list_all (λ f. list_any (same_place (place_of path f)) (map (place_of path) (before ++ fs))) fs ≡ true
all_here path before [] = refl
all_here path before (f ∷ fs) =
    let here : list_any (same_place (place_of path f)) (map (place_of path) (before ++ f ∷ fs)) ≡ true =
    ap (λ (ps : List Place). list_any (same_place (place_of path f)) ps) (map-append (place_of path) before (f ∷ fs))
    ∙ any_here (place_of path f) (map (place_of path) before) (map (place_of path) fs) in
    ap (λ (b : Bool). b && list_all (λ g. list_any (same_place (place_of path g)) (map (place_of path) (before ++ f ∷ fs))) fs) here
    ∙ ap (λ (ps : List Field). list_all (λ g. list_any (same_place (place_of path g)) (map (place_of path) ps)) fs) (sym (append_assoc before (f ∷ []) fs))
    ∙ all_here path (before ++ f ∷ []) fs

pub batch_covered : (h : Heading) (rows : List (List Cell)) → list_all (is_covered (map (place_of h.path) h.fields)) (map (event_of h) rows) ≡ true
batch_covered h [] = refl
batch_covered h (r ∷ rs) =
    ap (λ (b : Bool). b && list_all (is_covered (map (place_of h.path) h.fields)) (map (event_of h) rs)) (all_here h.path [] h.fields) ∙ batch_covered h rs

pub batch_sound : (h : Heading) (rows : List (List Cell)) → are_distinct h.fields ≡ true → list_all (fits_fields h.fields) rows ≡ true → list_all is_sound (map (event_of h) rows) ≡ true
batch_sound h [] distinct all = refl
batch_sound h (r ∷ rs) distinct all =
    let same : length h.fields ≡ length r = fit_length h.fields r (and_left (fits_fields h.fields r) (list_all (fits_fields h.fields) rs) all) in
    ap (λ (b : Bool). (b && nat_eq (length h.fields) (length r)) && list_all is_sound (map (event_of h) rs)) distinct
    ∙ ap (λ (b : Bool). b && list_all is_sound (map (event_of h) rs)) (eq_true (length h.fields) (length r) same)
    ∙ batch_sound h rs distinct (and_right (fits_fields h.fields r) (list_all (fits_fields h.fields) rs) all)

pub event_got : (h : Heading) (rows : List (List Cell)) (i : ℕ) (e : Event) → slice_get (map (event_of h) rows) i ≡ Some e → e.heading ≡ h
event_got h [] i e is = absurd cc
event_got h (r ∷ rs) zero e is = sym (ap (λ (x : Event). x.heading) (let same : event_of h r ≡ e = cc in same))
event_got h (r ∷ rs) (suc i) e is = event_got h rs i e is

-- one column more
pub more_places : (path : List ℕ) (columns : List Column) (placed : List PlacedColumn) (p : PlacedColumn) (at : ℕ) (c : Column) → at < length columns → c ≡ slice_index_or columns at c
    → places_of placed ≡ map (place_of path) (map field_of (take at columns)) → place_in p ≡ place_of path (field_of c)
    → places_of (placed ++ p ∷ []) ≡ map (place_of path) (map field_of (take (at + 1) columns))
more_places path columns placed p at c there found before here =
    map-append place_in placed (p ∷ [])
    ∙ ap (λ (xs : List Place). xs ++ place_in p ∷ []) before
    ∙ ap (λ (x : Place). map (place_of path) (map field_of (take at columns)) ++ x ∷ []) (here ∙ ap (λ (d : Column). place_of path (field_of d)) found)
    ∙ sym (map-append (place_of path) (map field_of (take at columns)) (field_of (slice_index_or columns at c) ∷ []))
    ∙ ap (λ (fs : List Field). map (place_of path) fs) (sym (map_more field_of columns at c there))

pub places_length : (path : List ℕ) (columns : List Column) (placed : List PlacedColumn) (at : ℕ) → at ≤ length columns
    → places_of placed ≡ map (place_of path) (map field_of (take at columns)) → length placed ≡ at
places_length path columns placed at h e =
    sym (length-map placed place_in) ∙ ap (λ (xs : List Place). length xs) e ∙ length-map (map field_of (take at columns)) (place_of path)
    ∙ length-map (take at columns) field_of ∙ (let short : length (take at columns) ≡ at = omega (arith, length-take at columns) in short)

pub more_cells : (rows : List (List Cell)) (placed : List PlacedColumn) (p : PlacedColumn) (at : ℕ) → length placed ≡ at
    → ((i : ℕ) (c : PlacedColumn) → i < length placed → c ≡ slice_index_or placed i c → Stands c.column (map (cell_at i) rows))
    → Stands p.column (map (cell_at at) rows)
    → (i : ℕ) (c : PlacedColumn) → i < length (placed ++ p ∷ []) → c ≡ slice_index_or (placed ++ p ∷ []) i c → Stands c.column (map (cell_at i) rows)
more_cells rows placed p at count before here i c h found =
    elim (read_more placed p c i h found) as (λ _. Stands c.column (map (cell_at i) rows)) [
      | inl r ↦ before i c r.0 r.1
      | inr r ↦
          subst (λ (n : ℕ). Stands c.column (map (cell_at n) rows)) (sym (r.0 ∙ count))
          (subst (λ (x : PlacedColumn). Stands x.column (map (cell_at at) rows)) (sym r.1) here)
    ]

pub got_map : {X Y : Type 0} (f : X → Y) (xs : List X) (i : ℕ) (x : X) → i < length xs → x ≡ slice_index_or xs i x → slice_get (map f xs) i ≡ Some (f x)
got_map f [] i x h e = absurd (omega (arith, h))
got_map f (y ∷ ys) zero x h e = ap (λ (z : _). Some (f z)) (sym e)
got_map f (y ∷ ys) (suc i) x h e = got_map f ys i x (omega (arith, h)) e

pub placed_same : (p q : Place) (o : Option Place) → o ≡ Some p → o ≡ Some q → p ≡ q
placed_same p q o e f = let same : Some p ≡ Some q = sym e ∙ f in cc

column_stands : (batch : Batch) (columns : List PlacedColumn) → places_of columns ≡ map (place_of batch.layout.path) (map field_of batch.layout.columns)
    → (i : ℕ) (c : PlacedColumn) → i < length columns → c ≡ slice_index_or columns i c → are_distinct (heading_of batch.layout).fields ≡ true
    → list_all (fits_fields (heading_of batch.layout).fields) batch.rows ≡ true → Stands c.column (map (cell_at i) batch.rows)
    → Stands c.column (column_cells (place_in c) (events_of (content_of batch)))
column_stands batch columns places i c there found distinct fit stands =
    let h : Heading = heading_of batch.layout in
    let count : length columns ≡ length h.fields =
    sym (length-map columns place_in) ∙ ap (λ (xs : List Place). length xs) places ∙ length-map h.fields (place_of h.path) in
    let within : i < length h.fields = omega arith in
    let field = at_index h.fields i within in
    let f : Field = field.0 in
    let place : place_in c ≡ place_of h.path f =
    placed_same (place_in c) (place_of h.path f) (slice_get (map (place_of h.path) h.fields) i)
    (ap (λ (ps : List Place). slice_get ps i) (sym places) ∙ got_map place_in columns i c there found)
    (got_map (place_of h.path) h.fields i f within field.1) in
    subst (λ (cells : List (Option Cell)). Stands c.column cells)
    (batch_cells h batch.rows i f distinct fit within field.1 ∙ ap (λ (p : Place). column_cells p (map (event_of h) batch.rows)) (sym place))
    stands

-- The index of a batch.
pub batch_stands : (batch : Batch) (index : Index) (time : Option ℕ) → index.rows ≡ length batch.rows
    → places_of index.columns.items ≡ map (place_of batch.layout.path) (map field_of batch.layout.columns)
    → ((i : ℕ) (c : PlacedColumn) → i < length index.columns.items → c ≡ slice_index_or index.columns.items i c → Stands c.column (map (cell_at i) batch.rows))
    → ((path : List ℕ) → time_among path (map field_of batch.layout.columns) ≡ time_at (map (place_of path) (map field_of batch.layout.columns)) time)
    → index.spans.items ≡ record { path = batch.layout.path; time = time; rows = length batch.rows } ∷ []
    → IndexStands index (events_of (content_of batch))
batch_stands batch index time rows places cells found spans =
    let h : Heading = heading_of batch.layout in
    let c : Content = content_of batch in
    let is : is_content c ≡ true = is_content_of batch in
    let distinct : are_distinct h.fields ≡ true = content_distinct c is in
    let fit : list_all (fits_fields h.fields) batch.rows ≡ true = content_fits c is in
    let count : length (map (event_of h) batch.rows) ≡ length batch.rows = length-map batch.rows (event_of h) in
    record {
      rows = rows ∙ sym count;
      columns = λ i col there at. column_stands batch index.columns.items places i col there at distinct fit (cells i col there at);
      covers = ap (λ (ps : List Place). list_all (is_covered ps) (map (event_of h) batch.rows)) places ∙ batch_covered h batch.rows;
      sound = batch_sound h batch.rows distinct fit;
      spans = subst (λ (ss : List Span). AreSpans (places_of index.columns.items) ss (map (event_of h) batch.rows)) (sym spans) (
        omega (arith, count),
        λ i e there got. record {
          path = ap (λ (x : Heading). x.path) (event_got h batch.rows i e got);
          time = ap (λ (x : Heading). time_place x) (event_got h batch.rows i e got) ∙ found h.path ∙ sym (ap (λ (ps : List Place). time_at ps time) places);
        },
        drop_all (length batch.rows) (map (event_of h) batch.rows) (omega (arith, count)),
      );
    }
