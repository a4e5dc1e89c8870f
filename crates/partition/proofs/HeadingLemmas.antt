-- What is known of a batch's rows: its fields have different names, each row has a cell for each, and the event's time
-- is the cell of the first time column.
use Rattle.std.proofs.Common.{◌≡◌, ℕ, suc, ◌+◌, Bool, true, false, not, ◌&&◌, ◌||◌, if◌then◌else◌, List, [], ◌∷◌, ◌++◌, Option, None, Some, refl, ap, sym, ◌∙◌, arith, is_none, length, nat_lt, nat_le, ◌^◌}
use Rattle.std.specs.List.{list_all, list_any}
use Rattle.std.specs.Option.{option_or}
use Rattle.std.specs.Str.{bytes_eq}
use Rattle.vast_value.specs.declared.cell.Cell.{Cell}
use Rattle.vast_value.specs.declared.kind.Elem.TheVariants as elem
use Rattle.vast_value.specs.declared.layout.BadLayout.{BadLayout}
use Rattle.vast_value.specs.declared.layout.BadLayout.TheVariants.{EmptyPath, NoColumns, TooManyColumns, EmptyName, SameName}
use Rattle.vast_value.specs.Headings.{Field, Heading, heading_fault, field_fault, fields_fault, fits_field, fits_fields}
use Rattle.vast_value.specs.Layouts.{is_empty, most_columns, name_fault}
use Rattle.event_batch.specs.Contents.{Content, is_content, is_heading, is_short_field}
use Rattle.event_batch.specs.Sizes.{is_batch_size}
use Rattle.event_history.specs.Events.{Event}
use Rattle.query_meaning.specs.Meaning.{cells_if, cells_of_kind, event_time, first_or_unset, is_of}
use Rattle.partition.specs.Columns.{Place, are_distinct, cell_among, cell_in, or_unset, place_of, time_among, time_in, time_place}
use Rattle.partition.proofs.PickLemmas.{Reads, and_left, and_right, bytes_self, reads_all}

-- Names.
or_none : (a b : Option BadLayout) → option_or a b ≡ None → (a ≡ None) × (b ≡ None)
or_none None b e = (refl, e)
or_none (Some x) b e = absurd cc

if_none : (b : Bool) (x : BadLayout) (rest : Option BadLayout) → (if b then Some x else rest) ≡ None → (b ≡ false) × (rest ≡ None)
if_none true x rest e = absurd cc
if_none false x rest e = (refl, e)

not_taken : (n : ℕ) (name : List ℕ) (taken : Bool) → name_fault n name taken ≡ None → taken ≡ false
not_taken n name taken e =
    let few = if_none (nat_lt most_columns n) TooManyColumns (if is_empty name then Some (EmptyName n) else (if taken then Some (SameName n) else None)) e in
    let named = if_none (is_empty name) (EmptyName n) (if taken then Some (SameName n) else None) few.1 in
    (if_none taken (SameName n) None named.1).0

or_parts : (a b : Bool) → (a || b) ≡ false → (a ≡ false) × (b ≡ false)
or_parts true b e = absurd cc
or_parts false b e = (refl, e)

all_and : (a b : Bool) → a ≡ true → b ≡ true → (a && b) ≡ true
all_and true b e h = h
all_and false b e h = absurd cc

last_differs : (f g : Field) (before : List Field) → list_any (λ h. bytes_eq h.name g.name) (before ++ f ∷ []) ≡ false → bytes_eq f.name g.name ≡ false
last_differs f g [] e = (or_parts (bytes_eq f.name g.name) false e).0
last_differs f g (h ∷ before) e =
    last_differs f g before (or_parts (bytes_eq h.name g.name) (list_any (λ k. bytes_eq k.name g.name) (before ++ f ∷ [])) e).1

front_differs : (before : List Field) (f g : Field) → list_any (λ h. bytes_eq h.name g.name) (before ++ f ∷ []) ≡ false
    → list_any (λ h. bytes_eq h.name g.name) before ≡ false
front_differs [] f g e = refl
front_differs (h ∷ before) f g e =
    let parts = or_parts (bytes_eq h.name g.name) (list_any (λ k. bytes_eq k.name g.name) (before ++ f ∷ [])) e in
    ap (λ (b : Bool). b || list_any (λ k. bytes_eq k.name g.name) before) parts.0 ∙ front_differs before f g parts.1

-- `f` stands among the fields before these
differs_behind : (f : Field) (n : ℕ) (before gs : List Field) → ((g : Field) → list_any (λ h. bytes_eq h.name g.name) before ≡ false → bytes_eq f.name g.name ≡ false)
    → fields_fault n before gs ≡ None → list_all (λ g. not (bytes_eq f.name g.name)) gs ≡ true
differs_behind f n before [] among e = refl
differs_behind f n before (g ∷ gs) among e =
    let parts = or_none (field_fault n before g) (fields_fault (n + 1) (before ++ g ∷ []) gs) e in
    let fresh : list_any (λ h. bytes_eq h.name g.name) before ≡ false = not_taken n g.name (list_any (λ h. bytes_eq h.name g.name) before) parts.0 in
    all_and (not (bytes_eq f.name g.name)) (list_all (λ h. not (bytes_eq f.name h.name)) gs) (ap not (among g fresh))
    (differs_behind f (n + 1) (before ++ g ∷ []) gs (λ h e. among h (front_differs before g h e)) parts.1)

distinct_from : (n : ℕ) (before fs : List Field) → fields_fault n before fs ≡ None → are_distinct fs ≡ true
distinct_from n before [] e = refl
distinct_from n before (f ∷ fs) e =
    let parts = or_none (field_fault n before f) (fields_fault (n + 1) (before ++ f ∷ []) fs) e in
    all_and (list_all (λ g. not (bytes_eq f.name g.name)) fs) (are_distinct fs)
    (differs_behind f (n + 1) (before ++ f ∷ []) fs (λ g h. last_differs f g before h) parts.1)
    (distinct_from (n + 1) (before ++ f ∷ []) fs parts.1)

none_of : (o : Option BadLayout) → is_none o ≡ true → o ≡ None
none_of None e = refl
none_of (Some x) e = absurd cc

heading_distinct : (h : Heading) → is_heading h ≡ true → are_distinct h.fields ≡ true
heading_distinct h e =
    let none : heading_fault h ≡ None = none_of (heading_fault h) (and_left (is_none (heading_fault h)) (nat_le (length h.path) (2 ^ 24) && list_all is_short_field h.fields) e) in
    let named = if_none (is_empty h.path) EmptyPath (if is_empty h.fields then Some NoColumns else fields_fault 1 [] h.fields) none in
    let some = if_none (is_empty h.fields) NoColumns (fields_fault 1 [] h.fields) named.1 in
    distinct_from 1 [] h.fields some.1

pub content_distinct : (c : Content) → is_content c ≡ true → are_distinct c.heading.fields ≡ true
content_distinct c e =
    heading_distinct c.heading
    (and_left (is_heading c.heading) (is_batch_size (length c.rows) && list_all (fits_fields c.heading.fields) c.rows)
    (and_right (nat_lt c.source (2 ^ 32)) (is_heading c.heading && (is_batch_size (length c.rows) && list_all (fits_fields c.heading.fields) c.rows)) e))

pub content_fits : (c : Content) → is_content c ≡ true → list_all (fits_fields c.heading.fields) c.rows ≡ true
content_fits c e =
    and_right (is_batch_size (length c.rows)) (list_all (fits_fields c.heading.fields) c.rows)
    (and_right (is_heading c.heading) (is_batch_size (length c.rows) && list_all (fits_fields c.heading.fields) c.rows)
    (and_right (nat_lt c.source (2 ^ 32)) (is_heading c.heading && (is_batch_size (length c.rows) && list_all (fits_fields c.heading.fields) c.rows)) e))

-- Cells.
pub fit_length : (fs : List Field) (xs : List Cell) → fits_fields fs xs ≡ true → length fs ≡ length xs
fit_length [] [] e = refl
fit_length [] (x ∷ xs) e = absurd cc
fit_length (f ∷ fs) [] e = absurd cc
fit_length (f ∷ fs) (x ∷ xs) e = ap (λ (n : ℕ). suc n) (fit_length fs xs (and_right (fits_field f x) (fits_fields fs xs) e))

-- Times.
time_here : (b : Bool) (x : Cell) (rest : List Cell) (p : Place) (other : Option Place) (e : Event) → cell_in p e ≡ Some x → (first_or_unset rest ≡ time_in other e)
    → first_or_unset (cells_if b x rest) ≡ time_in (if b then Some p else other) e
time_here true x rest p other e is later = sym (ap or_unset is)
time_here false x rest p other e is later = later

time_from : (e : Event) (fs : List Field) (xs : List Cell) → length fs ≡ length xs → Reads e.heading.fields e.row fs xs
    → first_or_unset (cells_of_kind elem.Time fs xs) ≡ time_in (time_among e.heading.path fs) e
time_from e [] xs same reads = refl
time_from e (f ∷ fs) [] same reads = absurd (omega (arith, same))
time_from e (f ∷ fs) (x ∷ xs) same reads =
    time_here (is_of elem.Time f.kind) x (cells_of_kind elem.Time fs xs) (place_of e.heading.path f) (time_among e.heading.path fs) e
    (ap (λ (b : Bool). if b then cell_among f.name f.kind e.heading.fields e.row else None) (bytes_self e.heading.path) ∙ reads.0)
    (time_from e fs xs (omega (arith, same)) reads.1)

pub time_is : (e : Event) → are_distinct e.heading.fields ≡ true → length e.heading.fields ≡ length e.row
    → event_time e.heading.fields e.row ≡ time_in (time_place e.heading) e
time_is e distinct same = time_from e e.heading.fields e.row same (reads_all e.heading.fields e.row distinct)
