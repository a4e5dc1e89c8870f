-- What a batch keeps, as facts on its content.
use Rattle.std.proofs.Common.{◌≡◌, ℕ, ◌+◌, ◌-◌, ◌≤◌, ◌<◌, ◌^◌, Bool, true, false, cond, ◌&&◌, ltb, List, [], ◌∷◌, ◌++◌, length, map, Option, None, Some, refl, ◌∙◌, arith}
use Rattle.std.specs.Prelude.{is_none}
use Rattle.std.specs.List.{list_all, list_any}
use Rattle.std.specs.Option.{option_or}
use Rattle.std.specs.Str.{bytes_eq}
use Rattle.std.proofs.lemmas.Bool.{le-leb, lt-ltb, ltb-false, ltb-true}
use Rattle.std.proofs.lemmas.List.{length-map}
use Rattle.vast_value.specs.declared.value.Value.{Value}
use Rattle.vast_value.specs.declared.cell.Cell.{Cell}
use Rattle.vast_value.specs.declared.cell.Cell.TheVariants.{Unset, One, Many}
use Rattle.vast_value.specs.declared.column.Column.{Column}
use Rattle.vast_value.specs.declared.layout.Layout.{Layout}
use Rattle.vast_value.specs.declared.layout.BadLayout.TheVariants.{EmptyPath, NoColumns, TooManyColumns, EmptyName, SameName}
use Rattle.vast_value.specs.Fit.{is_small, fits_columns}
use Rattle.vast_value.specs.Layouts.{is_empty, layout_fault}
use Rattle.vast_value.specs.Headings.{Field, Heading, field_of, heading_of, field_fault, fields_fault, heading_fault, fits_fields}
use Rattle.vast_value.proofs.HeadingLemmas.{fits_fields-map, heading_fault-map}
use Rattle.event_batch.specs.declared.batch.Batch.{Batch}
use Rattle.event_batch.specs.declared.format.Format.TheVariants.{Second}
use Rattle.event_batch.specs.Contents.{Spelled, content_of, is_heading, is_short_field, is_content, element_has_place, cell_has_place, is_spellable}
use Rattle.event_batch.specs.Sizes.{is_batch_size}

pub both : (a b : Bool) → (a && b) ≡ true → (a ≡ true) × (b ≡ true)
both true b h = (refl, h)
both false b h = absurd cc

pub none_is : {A : Type 0} (o : Option A) → is_none o ≡ true → o ≡ None
none_is None h = refl
none_is (Some x) h = absurd cc

or_none : {A : Type 0} (a b : Option A) → option_or a b ≡ None → (a ≡ None) × (b ≡ None)
or_none None b h = (refl, h)
or_none (Some x) b h = absurd cc

within : {A : Type 0} (b : Bool) (x : A) (other : Option A) → cond b (Some x) other ≡ None → (b ≡ false) × (other ≡ None)
within true x other h = absurd cc
within false x other h = (refl, h)

few_fields : (n : ℕ) (before fs : List Field) → fields_fault n before fs ≡ None → length fs ≤ 257 - n
few_fields n before [] h = omega arith
few_fields n before (f ∷ fs) h =
    let parts = or_none (field_fault n before f) (fields_fault (n + 1) (before ++ f ∷ []) fs) h in
    let named = cond (is_empty f.name) (Some (EmptyName n)) (cond (list_any (λ (g : Field). bytes_eq g.name f.name) before) (Some (SameName n)) None) in
    let here : n ≤ 256 = ltb-false 256 n (within (ltb 256 n) TooManyColumns named parts.0).0 in
    let behind = few_fields (n + 1) (before ++ f ∷ []) fs parts.1 in
    omega arith

-- a heading has at most 256 fields
pub few : (h : Heading) → heading_fault h ≡ None → length h.fields ≤ 256
few h e =
    let a = within (is_empty h.path) EmptyPath (cond (is_empty h.fields) (Some NoColumns) (fields_fault 1 [] h.fields)) e in
    let b = within (is_empty h.fields) NoColumns (fields_fault 1 [] h.fields) a.1 in
    let some = few_fields 1 [] h.fields b.1 in
    omega arith

pub few_columns : (l : Layout) → length l.columns ≤ 256
few_columns l =
    let fault : heading_fault (heading_of l) ≡ None = heading_fault-map l.path l.columns ∙ none_is (layout_fault l.path l.columns) l.valid in
    let some = few (heading_of l) fault in
    omega (arith, length-map l.columns field_of)

-- each cell of a row that fits is small
pub cells_small : (fs : List Field) (xs : List Cell) → fits_fields fs xs ≡ true → list_all is_small xs ≡ true
cells_small [] [] h = refl
cells_small [] (x ∷ xs) h = absurd cc
cells_small (f ∷ fs) [] h = absurd cc
cells_small (f ∷ fs) (x ∷ xs) h = grind (arith, cells_small fs xs, h)

rows_small : (cs : List Column) (rows : List (List Cell)) → list_all (fits_columns cs) rows ≡ true → list_all (list_all is_small) rows ≡ true
rows_small cs [] h = refl
rows_small cs (x ∷ xs) h =
    let parts = both (fits_columns cs x) (list_all (fits_columns cs) xs) h in
    let one = cells_small (map field_of cs) x (fits_fields-map cs x ∙ parts.0) in
    rw (one, rows_small cs xs parts.1) refl

pub batch_small : (b : Batch) → list_all (list_all is_small) b.rows ≡ true
batch_small b = rows_small b.layout.columns b.rows b.fitting

names_short : (cs : List Column) → list_all is_short_field (map field_of cs) ≡ true
names_short [] = refl
names_short (c ∷ cs) = rw (le-leb (length c.name) (2 ^ 24) c.short, names_short cs) refl

pub is_heading_of : (l : Layout) → is_heading (heading_of l) ≡ true
is_heading_of l =
    let fault : heading_fault (heading_of l) ≡ None = heading_fault-map l.path l.columns ∙ none_is (layout_fault l.path l.columns) l.valid in
    let path = le-leb (length l.path) (2 ^ 24) l.short in
    let names = names_short l.columns in
    rw (fault, path, names) refl

pub rows_fit_fields : (cs : List Column) (rows : List (List Cell)) → list_all (fits_fields (map field_of cs)) rows ≡ list_all (fits_columns cs) rows
rows_fit_fields cs [] = refl
rows_fit_fields cs (x ∷ xs) = rw (fits_fields-map cs x, rows_fit_fields cs xs) refl

-- what a batch says is a batch's content
pub is_content_of : (b : Batch) → is_content (content_of b) ≡ true
is_content_of b =
    let source = lt-ltb b.source (2 ^ 32) b.narrow in
    let heading = is_heading_of b.layout in
    let fitting : list_all (fits_fields (map field_of b.layout.columns)) b.rows ≡ true = rows_fit_fields b.layout.columns b.rows ∙ b.fitting in
    let sized : is_batch_size (length b.rows) ≡ true = b.sized in
    rw (source, heading, sized, fitting) refl

-- the facts that a spellable content has
pub record Parts (s : Spelled) : Type 0 where
  pub narrow : s.content.source < 2 ^ 32
  pub heading : is_heading s.content.heading ≡ true
  pub sized : is_batch_size (length s.content.rows) ≡ true
  pub fitting : list_all (fits_fields s.content.heading.fields) s.content.rows ≡ true
  pub places : list_all (list_all (cell_has_place s.format)) s.content.rows ≡ true

pub parts_of : (s : Spelled) → is_spellable s ≡ true → Parts s
parts_of s h =
    let c = s.content in
    let fit = is_batch_size (length c.rows) && list_all (fits_fields c.heading.fields) c.rows in
    let whole = both (is_content c) (list_all (list_all (cell_has_place s.format)) c.rows) h in
    let a = both (ltb c.source (2 ^ 32)) (is_heading c.heading && fit) whole.0 in
    let b = both (is_heading c.heading) fit a.1 in
    let d = both (is_batch_size (length c.rows)) (list_all (fits_fields c.heading.fields) c.rows) b.1 in
    record { narrow = ltb-true c.source (2 ^ 32) a.0; heading = b.0; sized = d.0; fitting = d.1; places = whole.1 }

-- format 2 has a place for every port
element_placed : (x : Option Value) → element_has_place Second x ≡ true
element_placed None = refl
element_placed (Some v) = refl

elements_placed : (items : List (Option Value)) → list_all (element_has_place Second) items ≡ true
elements_placed [] = refl
elements_placed (x ∷ xs) = rw (element_placed x, elements_placed xs) refl

cell_placed : (x : Cell) → cell_has_place Second x ≡ true
cell_placed Unset = refl
cell_placed (One v) = refl
cell_placed (Many items) = elements_placed items

cells_placed : (xs : List Cell) → list_all (cell_has_place Second) xs ≡ true
cells_placed [] = refl
cells_placed (x ∷ xs) = rw (cell_placed x, cells_placed xs) refl

rows_placed : (rows : List (List Cell)) → list_all (list_all (cell_has_place Second)) rows ≡ true
rows_placed [] = refl
rows_placed (xs ∷ rows) = rw (cells_placed xs, rows_placed rows) refl

-- format 2 spells every batch
pub is_spellable_of : (b : Batch) → is_spellable (record { format = Second; content = content_of b }) ≡ true
is_spellable_of b = rw (is_content_of b, rows_placed b.rows) refl
