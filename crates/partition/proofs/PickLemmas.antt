-- A test on an event is the same asked of the columns: some column that is picked has a cell of the event that passes
-- just where some cell that the pick chooses does.
use Rattle.std.proofs.Common.{◌≡◌, ℕ, Bool, true, false, not, ◌&&◌, ◌||◌, if◌then◌else◌, List, [], ◌∷◌, Option, None, Some, refl, ap, sym, ◌∙◌}
use Rattle.std.specs.List.{list_all, list_any}
use Rattle.std.specs.Str.{bytes_eq}
use Rattle.std.specs.Cmp.Lexicographic.{bytes_decides}
use Rattle.vast_value.specs.declared.cell.Cell.{Cell}
use Rattle.vast_value.specs.declared.kind.Elem.{Elem}
use Rattle.vast_value.specs.declared.kind.Elem.TheVariants as elem
use Rattle.vast_value.specs.declared.kind.Kind.{Kind}
use Rattle.vast_value.specs.declared.kind.Kind.TheVariants.{One, SetOf, VecOf}
use Rattle.vast_value.specs.Headings.{Field}
use Rattle.vast_value.specs.Kinds.{elem_eq}
use Rattle.event_history.specs.Events.{Event}
use Rattle.query_meaning.specs.declared.expr.Pick.{Pick}
use Rattle.query_meaning.specs.declared.expr.Pick.TheVariants.{OfKind, Named}
use Rattle.query_meaning.specs.Meaning.{is_of, cells_of_kind, named_cells, chosen, cells_if}
use Rattle.query_meaning.specs.Picks.{is_named}
use Rattle.bits_law.specs.Keys.{meets}
use Rattle.partition.specs.Columns.{Place, are_distinct, cell_among, cell_in, is_covered, picks, place_of, same_kind, same_place, some_column}

pub same_by : (a b : Bool) → (a ≡ true → b ≡ true) → (b ≡ true → a ≡ true) → a ≡ b
same_by true b h k = sym (h refl)
same_by false true h k = k refl
same_by false false h k = refl

pub and_left : (a b : Bool) → (a && b) ≡ true → a ≡ true
and_left true b e = refl
and_left false b e = absurd cc

pub and_right : (a b : Bool) → (a && b) ≡ true → b ≡ true
and_right true b e = e
and_right false b e = absurd cc

pub not_true : (a : Bool) → not a ≡ true → a ≡ false
not_true true e = absurd cc
not_true false e = refl

pub or_right : (a b : Bool) → b ≡ true → (a || b) ≡ true
or_right true b e = refl
or_right false b e = e

pub bytes_same : (xs ys : List ℕ) → bytes_eq xs ys ≡ true → xs ≡ ys
bytes_same xs ys e = (bytes_decides xs ys).0 e

pub bytes_self : (xs : List ℕ) → bytes_eq xs xs ≡ true
bytes_self xs = (bytes_decides xs xs).1 refl

elem_self : (e : Elem) → elem_eq e e ≡ true
elem_self elem.Bool = refl
elem_self elem.Count = refl
elem_self elem.Int = refl
elem_self elem.Time = refl
elem_self elem.Span = refl
elem_self elem.Text = refl
elem_self elem.Name = refl
elem_self elem.Addr = refl
elem_self elem.Subnet = refl
elem_self elem.Port = refl

from_bool : (f : Elem) → elem_eq elem.Bool f ≡ true → elem.Bool ≡ f
from_bool elem.Bool h = refl
from_bool elem.Count h = absurd cc
from_bool elem.Int h = absurd cc
from_bool elem.Time h = absurd cc
from_bool elem.Span h = absurd cc
from_bool elem.Text h = absurd cc
from_bool elem.Name h = absurd cc
from_bool elem.Addr h = absurd cc
from_bool elem.Subnet h = absurd cc
from_bool elem.Port h = absurd cc

from_count : (f : Elem) → elem_eq elem.Count f ≡ true → elem.Count ≡ f
from_count elem.Bool h = absurd cc
from_count elem.Count h = refl
from_count elem.Int h = absurd cc
from_count elem.Time h = absurd cc
from_count elem.Span h = absurd cc
from_count elem.Text h = absurd cc
from_count elem.Name h = absurd cc
from_count elem.Addr h = absurd cc
from_count elem.Subnet h = absurd cc
from_count elem.Port h = absurd cc

from_int : (f : Elem) → elem_eq elem.Int f ≡ true → elem.Int ≡ f
from_int elem.Bool h = absurd cc
from_int elem.Count h = absurd cc
from_int elem.Int h = refl
from_int elem.Time h = absurd cc
from_int elem.Span h = absurd cc
from_int elem.Text h = absurd cc
from_int elem.Name h = absurd cc
from_int elem.Addr h = absurd cc
from_int elem.Subnet h = absurd cc
from_int elem.Port h = absurd cc

from_time : (f : Elem) → elem_eq elem.Time f ≡ true → elem.Time ≡ f
from_time elem.Bool h = absurd cc
from_time elem.Count h = absurd cc
from_time elem.Int h = absurd cc
from_time elem.Time h = refl
from_time elem.Span h = absurd cc
from_time elem.Text h = absurd cc
from_time elem.Name h = absurd cc
from_time elem.Addr h = absurd cc
from_time elem.Subnet h = absurd cc
from_time elem.Port h = absurd cc

from_span : (f : Elem) → elem_eq elem.Span f ≡ true → elem.Span ≡ f
from_span elem.Bool h = absurd cc
from_span elem.Count h = absurd cc
from_span elem.Int h = absurd cc
from_span elem.Time h = absurd cc
from_span elem.Span h = refl
from_span elem.Text h = absurd cc
from_span elem.Name h = absurd cc
from_span elem.Addr h = absurd cc
from_span elem.Subnet h = absurd cc
from_span elem.Port h = absurd cc

from_text : (f : Elem) → elem_eq elem.Text f ≡ true → elem.Text ≡ f
from_text elem.Bool h = absurd cc
from_text elem.Count h = absurd cc
from_text elem.Int h = absurd cc
from_text elem.Time h = absurd cc
from_text elem.Span h = absurd cc
from_text elem.Text h = refl
from_text elem.Name h = absurd cc
from_text elem.Addr h = absurd cc
from_text elem.Subnet h = absurd cc
from_text elem.Port h = absurd cc

from_name : (f : Elem) → elem_eq elem.Name f ≡ true → elem.Name ≡ f
from_name elem.Bool h = absurd cc
from_name elem.Count h = absurd cc
from_name elem.Int h = absurd cc
from_name elem.Time h = absurd cc
from_name elem.Span h = absurd cc
from_name elem.Text h = absurd cc
from_name elem.Name h = refl
from_name elem.Addr h = absurd cc
from_name elem.Subnet h = absurd cc
from_name elem.Port h = absurd cc

from_addr : (f : Elem) → elem_eq elem.Addr f ≡ true → elem.Addr ≡ f
from_addr elem.Bool h = absurd cc
from_addr elem.Count h = absurd cc
from_addr elem.Int h = absurd cc
from_addr elem.Time h = absurd cc
from_addr elem.Span h = absurd cc
from_addr elem.Text h = absurd cc
from_addr elem.Name h = absurd cc
from_addr elem.Addr h = refl
from_addr elem.Subnet h = absurd cc
from_addr elem.Port h = absurd cc

from_subnet : (f : Elem) → elem_eq elem.Subnet f ≡ true → elem.Subnet ≡ f
from_subnet elem.Bool h = absurd cc
from_subnet elem.Count h = absurd cc
from_subnet elem.Int h = absurd cc
from_subnet elem.Time h = absurd cc
from_subnet elem.Span h = absurd cc
from_subnet elem.Text h = absurd cc
from_subnet elem.Name h = absurd cc
from_subnet elem.Addr h = absurd cc
from_subnet elem.Subnet h = refl
from_subnet elem.Port h = absurd cc

from_port : (f : Elem) → elem_eq elem.Port f ≡ true → elem.Port ≡ f
from_port elem.Bool h = absurd cc
from_port elem.Count h = absurd cc
from_port elem.Int h = absurd cc
from_port elem.Time h = absurd cc
from_port elem.Span h = absurd cc
from_port elem.Text h = absurd cc
from_port elem.Name h = absurd cc
from_port elem.Addr h = absurd cc
from_port elem.Subnet h = absurd cc
from_port elem.Port h = refl

elem_same : (e f : Elem) → elem_eq e f ≡ true → e ≡ f
elem_same elem.Bool f h = from_bool f h
elem_same elem.Count f h = from_count f h
elem_same elem.Int f h = from_int f h
elem_same elem.Time f h = from_time f h
elem_same elem.Span f h = from_span f h
elem_same elem.Text f h = from_text f h
elem_same elem.Name f h = from_name f h
elem_same elem.Addr f h = from_addr f h
elem_same elem.Subnet f h = from_subnet f h
elem_same elem.Port f h = from_port f h

kind_self : (k : Kind) → same_kind k k ≡ true
kind_self (One e) = elem_self e
kind_self (SetOf e) = elem_self e
kind_self (VecOf e) = elem_self e

kind_same : (k l : Kind) → same_kind k l ≡ true → k ≡ l
kind_same (One e) (One f) h = ap (λ (x : Elem). One x) (elem_same e f h)
kind_same (SetOf e) (SetOf f) h = ap (λ (x : Elem). SetOf x) (elem_same e f h)
kind_same (VecOf e) (VecOf f) h = ap (λ (x : Elem). VecOf x) (elem_same e f h)
kind_same (One e) (SetOf f) h = absurd cc
kind_same (One e) (VecOf f) h = absurd cc
kind_same (SetOf e) (One f) h = absurd cc
kind_same (SetOf e) (VecOf f) h = absurd cc
kind_same (VecOf e) (One f) h = absurd cc
kind_same (VecOf e) (SetOf f) h = absurd cc

places_are : (p q : Place) → p.path ≡ q.path → p.name ≡ q.name → p.kind ≡ q.kind → p ≡ q
places_are p q path name kind =
    ap (λ (x : List ℕ). record { path = x; name = p.name; kind = p.kind }) path
    ∙ ap (λ (x : List ℕ). record { path = q.path; name = x; kind = p.kind }) name
    ∙ ap (λ (x : Kind). record { path = q.path; name = q.name; kind = x }) kind

pub place_self : (p : Place) → same_place p p ≡ true
place_self p =
    ap (λ (b : Bool). b && (bytes_eq p.name p.name && same_kind p.kind p.kind)) (bytes_self p.path)
    ∙ ap (λ (b : Bool). b && same_kind p.kind p.kind) (bytes_self p.name)
    ∙ kind_self p.kind

pub place_same : (p q : Place) → same_place p q ≡ true → p ≡ q
place_same p q e =
    let path : p.path ≡ q.path = bytes_same p.path q.path (and_left (bytes_eq p.path q.path) (bytes_eq p.name q.name && same_kind p.kind q.kind) e) in
    let rest : (bytes_eq p.name q.name && same_kind p.kind q.kind) ≡ true = and_right (bytes_eq p.path q.path) (bytes_eq p.name q.name && same_kind p.kind q.kind) e in
    let name : p.name ≡ q.name = bytes_same p.name q.name (and_left (bytes_eq p.name q.name) (same_kind p.kind q.kind) rest) in
    let kind : p.kind ≡ q.kind = kind_same p.kind q.kind (and_right (bytes_eq p.name q.name) (same_kind p.kind q.kind) rest) in
    places_are p q path name kind

-- some chosen field has a cell that passes
abbrev any_where : (Cell → Bool) → (Field → Bool) → List Field → List Cell → Bool
any_where test chooses [] xs = false
any_where test chooses (f ∷ fs) [] = false
any_where test chooses (f ∷ fs) (x ∷ xs) = (chooses f && test x) || any_where test chooses fs xs

head_any : (test : Cell → Bool) (b : Bool) (x : Cell) (xs : List Cell) → list_any test (cells_if b x xs) ≡ ((b && test x) || list_any test xs)
head_any test true x xs = refl
head_any test false x xs = refl

kind_where : (test : Cell → Bool) (e : Elem) (path : List ℕ) (fs : List Field) (xs : List Cell)
    → list_any test (cells_of_kind e fs xs) ≡ any_where test (λ f. picks (OfKind e) (place_of path f)) fs xs
kind_where test e path [] xs = refl
kind_where test e path (f ∷ fs) [] = refl
kind_where test e path (f ∷ fs) (x ∷ xs) =
    head_any test (is_of e f.kind) x (cells_of_kind e fs xs) ∙ ap (λ (b : Bool). (is_of e f.kind && test x) || b) (kind_where test e path fs xs)

named_where : (test : Cell → Bool) (name path : List ℕ) (fs : List Field) (xs : List Cell)
    → list_any test (named_cells path fs xs name) ≡ any_where test (λ f. picks (Named name) (place_of path f)) fs xs
named_where test name path [] xs = refl
named_where test name path (f ∷ fs) [] = refl
named_where test name path (f ∷ fs) (x ∷ xs) =
    head_any test (is_named path f.name name) x (named_cells path fs xs name)
    ∙ ap (λ (b : Bool). (is_named path f.name name && test x) || b) (named_where test name path fs xs)

-- From a column: the cell that it has of the event is one that the pick chooses.
from_among : (pick : Pick) (test : Cell → Bool) (p : Place) (path : List ℕ) (b : Bool) (f : Field) (x : Cell) (rest : Option Cell) (more : Bool)
    → (b ≡ true → place_of path f ≡ p) → picks pick p ≡ true
    → (meets test rest ≡ true → more ≡ true)
    → meets test (if b then Some x else rest) ≡ true → ((picks pick (place_of path f) && test x) || more) ≡ true
from_among pick test p path true f x rest more same picked later e =
    ap (λ (q : Place). (picks pick q && test x) || more) (same refl)
    ∙ ap (λ (c : Bool). (c && test x) || more) picked
    ∙ ap (λ (c : Bool). c || more) e
from_among pick test p path false f x rest more same picked later e = or_right (picks pick (place_of path f) && test x) more (later e)

pub place_found : (p : Place) (path : List ℕ) (f : Field) → path ≡ p.path → (bytes_eq f.name p.name && same_kind f.kind p.kind) ≡ true → place_of path f ≡ p
place_found p path f e h =
    let name : f.name ≡ p.name = bytes_same f.name p.name (and_left (bytes_eq f.name p.name) (same_kind f.kind p.kind) h) in
    let kind : f.kind ≡ p.kind = kind_same f.kind p.kind (and_right (bytes_eq f.name p.name) (same_kind f.kind p.kind) h) in
    places_are (place_of path f) p e name kind

among_chosen : (pick : Pick) (test : Cell → Bool) (p : Place) (path : List ℕ) (fs : List Field) (xs : List Cell) → path ≡ p.path → picks pick p ≡ true
    → meets test (cell_among p.name p.kind fs xs) ≡ true → any_where test (λ f. picks pick (place_of path f)) fs xs ≡ true
among_chosen pick test p path [] xs same picked e = absurd cc
among_chosen pick test p path (f ∷ fs) [] same picked e = absurd cc
among_chosen pick test p path (f ∷ fs) (x ∷ xs) same picked e =
    from_among pick test p path (bytes_eq f.name p.name && same_kind f.kind p.kind) f x (cell_among p.name p.kind fs xs)
    (any_where test (λ g. picks pick (place_of path g)) fs xs) (place_found p path f same) picked (among_chosen pick test p path fs xs same picked) e

column_chosen : (pick : Pick) (test : Cell → Bool) (p : Place) (e : Event) (b : Bool) → (b ≡ true → e.heading.path ≡ p.path)
    → (picks pick p && meets test (if b then cell_among p.name p.kind e.heading.fields e.row else None)) ≡ true
    → any_where test (λ f. picks pick (place_of e.heading.path f)) e.heading.fields e.row ≡ true
column_chosen pick test p e true same h =
    among_chosen pick test p e.heading.path e.heading.fields e.row (same refl)
    (and_left (picks pick p) (meets test (cell_among p.name p.kind e.heading.fields e.row)) h)
    (and_right (picks pick p) (meets test (cell_among p.name p.kind e.heading.fields e.row)) h)
column_chosen pick test p e false same h = absurd (let no : false ≡ true = and_right (picks pick p) false h in cc)

pub or_cases : (a b c : Bool) → (a ≡ true → c ≡ true) → (b ≡ true → c ≡ true) → (a || b) ≡ true → c ≡ true
or_cases true b c h k e = h refl
or_cases false b c h k e = k e

columns_chosen : (pick : Pick) (test : Cell → Bool) (places : List Place) (e : Event) → some_column pick test places e ≡ true
    → any_where test (λ f. picks pick (place_of e.heading.path f)) e.heading.fields e.row ≡ true
columns_chosen pick test [] e h = absurd cc
columns_chosen pick test (p ∷ places) e h =
    or_cases (picks pick p && meets test (cell_in p e)) (some_column pick test places e)
    (any_where test (λ f. picks pick (place_of e.heading.path f)) e.heading.fields e.row)
    (column_chosen pick test p e (bytes_eq e.heading.path p.path) (bytes_same e.heading.path p.path))
    (columns_chosen pick test places e) h

-- From a chosen cell: its column is there, and has it.
abbrev pub Reads : List Field → List Cell → List Field → List Cell → Type 0
Reads fs xs [] ys = Unit {0}
Reads fs xs (g ∷ gs) [] = Unit {0}
Reads fs xs (g ∷ gs) (y ∷ ys) = (cell_among g.name g.kind fs xs ≡ Some y) × Reads fs xs gs ys

reads_behind : (f : Field) (x : Cell) (fs : List Field) (xs : List Cell) (gs : List Field) (ys : List Cell) → list_all (λ g. not (bytes_eq f.name g.name)) gs ≡ true
    → Reads fs xs gs ys → Reads (f ∷ fs) (x ∷ xs) gs ys
reads_behind f x fs xs [] ys h r = tt
reads_behind f x fs xs (g ∷ gs) [] h r = tt
reads_behind f x fs xs (g ∷ gs) (y ∷ ys) h r =
    let other : bytes_eq f.name g.name ≡ false = not_true (bytes_eq f.name g.name) (and_left (not (bytes_eq f.name g.name)) (list_all (λ g. not (bytes_eq f.name g.name)) gs) h) in (
      ap (λ (b : Bool). if b && same_kind f.kind g.kind then Some x else cell_among g.name g.kind fs xs) other ∙ r.0,
      reads_behind f x fs xs gs ys (and_right (not (bytes_eq f.name g.name)) (list_all (λ g. not (bytes_eq f.name g.name)) gs) h) r.1,
    )

pub reads_all : (fs : List Field) (xs : List Cell) → are_distinct fs ≡ true → Reads fs xs fs xs
reads_all [] xs h = tt
reads_all (f ∷ fs) [] h = tt
reads_all (f ∷ fs) (x ∷ xs) h = (
  ap (λ (b : Bool). if b && same_kind f.kind f.kind then Some x else cell_among f.name f.kind fs xs) (bytes_self f.name)
      ∙ ap (λ (b : Bool). if b then Some x else cell_among f.name f.kind fs xs) (kind_self f.kind),
  reads_behind f x fs xs fs xs (and_left (list_all (λ g. not (bytes_eq f.name g.name)) fs) (are_distinct fs) h)
      (reads_all fs xs (and_right (list_all (λ g. not (bytes_eq f.name g.name)) fs) (are_distinct fs) h)),
)

found_column : (pick : Pick) (test : Cell → Bool) (places : List Place) (q : Place) (e : Event) → list_any (same_place q) places ≡ true
    → (picks pick q && meets test (cell_in q e)) ≡ true → some_column pick test places e ≡ true
found_column pick test [] q e found h = absurd cc
found_column pick test (p ∷ places) q e found h =
    or_cases (same_place q p) (list_any (same_place q) places) (some_column pick test (p ∷ places) e)
    (λ same. ap (λ (b : Bool). b || some_column pick test places e)
    (ap (λ (r : Place). picks pick r && meets test (cell_in r e)) (sym (place_same q p same)) ∙ h))
    (λ later. or_right (picks pick p && meets test (cell_in p e)) (some_column pick test places e) (found_column pick test places q e later h)) found

chosen_column : (pick : Pick) (test : Cell → Bool) (places : List Place) (e : Event) (f : Field) (x : Cell)
    → list_any (same_place (place_of e.heading.path f)) places ≡ true → cell_among f.name f.kind e.heading.fields e.row ≡ Some x
    → (picks pick (place_of e.heading.path f) && test x) ≡ true → some_column pick test places e ≡ true
chosen_column pick test places e f x found is h =
    found_column pick test places (place_of e.heading.path f) e found
    (ap (λ (b : Bool). picks pick (place_of e.heading.path f) && meets test (if b then cell_among f.name f.kind e.heading.fields e.row else None)) (bytes_self e.heading.path)
    ∙ ap (λ (o : Option Cell). picks pick (place_of e.heading.path f) && meets test o) is ∙ h)

chosen_found : (pick : Pick) (test : Cell → Bool) (places : List Place) (e : Event) (fs : List Field) (xs : List Cell)
    → list_all (λ f. list_any (same_place (place_of e.heading.path f)) places) fs ≡ true → Reads e.heading.fields e.row fs xs
    → any_where test (λ f. picks pick (place_of e.heading.path f)) fs xs ≡ true → some_column pick test places e ≡ true
chosen_found pick test places e [] xs covered reads h = absurd cc
chosen_found pick test places e (f ∷ fs) [] covered reads h = absurd cc
chosen_found pick test places e (f ∷ fs) (x ∷ xs) covered reads h =
    let here : list_any (same_place (place_of e.heading.path f)) places ≡ true =
    and_left (list_any (same_place (place_of e.heading.path f)) places) (list_all (λ g. list_any (same_place (place_of e.heading.path g)) places) fs) covered in
    let behind : list_all (λ g. list_any (same_place (place_of e.heading.path g)) places) fs ≡ true =
    and_right (list_any (same_place (place_of e.heading.path f)) places) (list_all (λ g. list_any (same_place (place_of e.heading.path g)) places) fs) covered in
    or_cases (picks pick (place_of e.heading.path f) && test x) (any_where test (λ g. picks pick (place_of e.heading.path g)) fs xs) (some_column pick test places e)
    (chosen_column pick test places e f x here reads.0) (chosen_found pick test places e fs xs behind reads.1) h

-- both ways
columns_are : (pick : Pick) (test : Cell → Bool) (places : List Place) (e : Event) → are_distinct e.heading.fields ≡ true → is_covered places e ≡ true
    → some_column pick test places e ≡ any_where test (λ f. picks pick (place_of e.heading.path f)) e.heading.fields e.row
columns_are pick test places e distinct covered =
    same_by (some_column pick test places e) (any_where test (λ f. picks pick (place_of e.heading.path f)) e.heading.fields e.row)
    (columns_chosen pick test places e)
    (chosen_found pick test places e e.heading.fields e.row covered (reads_all e.heading.fields e.row distinct))

pub kind_columns : (k : Elem) (test : Cell → Bool) (places : List Place) (e : Event) → are_distinct e.heading.fields ≡ true → is_covered places e ≡ true
    → some_column (OfKind k) test places e ≡ list_any test (chosen (OfKind k) e.heading e.row)
kind_columns k test places e distinct covered =
    columns_are (OfKind k) test places e distinct covered ∙ sym (kind_where test k e.heading.path e.heading.fields e.row)

pub named_columns : (name : List ℕ) (test : Cell → Bool) (places : List Place) (e : Event) → are_distinct e.heading.fields ≡ true → is_covered places e ≡ true
    → some_column (Named name) test places e ≡ list_any test (chosen (Named name) e.heading e.row)
named_columns name test places e distinct covered =
    columns_are (Named name) test places e distinct covered ∙ sym (named_where test name e.heading.path e.heading.fields e.row)
