-- Cells, rows, headings and batches that were spelled are read again.
use Rattle.std.proofs.Common.{◌≡◌, ℕ, ◌^◌, Bool, true, false, ◌&&◌, ltb, leb, not, List, [], ◌∷◌, ◌++◌, length, Option, Some, refl, ap, sym, ◌∙◌, append_assoc, arith}
use Rattle.std.specs.List.{list_all, flat_map}
use Rattle.std.proofs.lemmas.Bool.{leb-true, le-ltb}
use Rattle.std.proofs.lemmas.List.{append-nil}
use Rattle.std.specs.Prelude.{is_none}
use Rattle.vast_value.specs.declared.kind.Elem.{Elem}
use Rattle.vast_value.specs.declared.kind.Elem.TheVariants as elem
use Rattle.vast_value.specs.declared.kind.Kind.{Kind}
use Rattle.vast_value.specs.declared.kind.Kind.TheVariants as kind
use Rattle.vast_value.specs.declared.value.Value.{Value}
use Rattle.vast_value.specs.declared.cell.Cell.{Cell}
use Rattle.vast_value.specs.declared.cell.Cell.TheVariants as cell
use Rattle.vast_value.specs.Fit.{is_small, is_bounded_element}
use Rattle.vast_value.specs.Headings.{Field, Heading, fits_field, fits_fields, heading_fault}
use Rattle.vast_value.specs.Kinds.{has_kind, is_element, are_elements, is_lone_unset}
use Rattle.vast_value.specs.ValueBytes.{number, text}
use Rattle.event_batch.specs.declared.format.Format.{Format}
use Rattle.event_batch.specs.declared.format.Format.TheVariants.{First, Second}
use Rattle.event_batch.specs.Contents.{Spelled, is_heading, is_short_field, is_spellable, element_has_place, cell_has_place}
use Rattle.event_batch.specs.Sizes.{is_batch_size}
use Rattle.event_batch.specs.Spelling.{format_code, kind_code, element_bytes, cell_bytes, row_bytes, field_bytes, heading_bytes, spelling}
use Rattle.event_batch.specs.Reading.{byte_at, element_at, many_at, container_at, set_cell_at, cell_at, row_at, elem_of_code, kind_of_code, field_at, heading_at, rows_at, format_coded, content_at}
use Rattle.event_batch.proofs.ContentLemmas.{both, few, none_is, parts_of}
use Rattle.event_batch.proofs.FieldLemmas.{number_again, text_again, value_again, fits_element, element_again, many_again}

-- what two tests pass one by one, both do
all_both : {A : Type 0} (p q : A → Bool) (xs : List A) → list_all p xs ≡ true → list_all q xs ≡ true → list_all (λ x. p x && q x) xs ≡ true
all_both p q [] h k = refl
all_both p q (x ∷ xs) h k =
    let a = both (p x) (list_all p xs) h in
    let b = both (q x) (list_all q xs) k in
    rw (a.0, b.0, all_both p q xs a.1 b.1) refl

elements_fit : (f : Format) (e : Elem) (items : List (Option Value)) → list_all (is_element e) items ≡ true → list_all is_bounded_element items ≡ true → list_all (element_has_place f) items ≡ true → list_all (fits_element f e) items ≡ true
elements_fit f e items h k p = all_both (is_element e) (λ (x : Option Value). is_bounded_element x && element_has_place f x) items h (all_both is_bounded_element (element_has_place f) items k p)

not_true : (b : Bool) → not b ≡ true → b ≡ false
not_true true h = absurd cc
not_true false h = refl

container_again : (f : Format) (e : Elem) (items : List (Option Value)) (rest : List ℕ) → are_elements e items ≡ true → is_small (cell.Many items) ≡ true → list_all (element_has_place f) items ≡ true
    → container_at f e ((number 4 (length items) ++ flat_map (element_bytes f) items) ++ rest) ≡ Some (cell.Many items, rest)
unfolding container_at
container_again f e items rest h k p =
    let a = both (not (is_lone_unset items)) (list_all (is_element e) items) h in
    let b = both (leb (length items) (2 ^ 24)) (list_all is_bounded_element items) k in
    let le = leb-true (length items) (2 ^ 24) b.0 in
    let few_items : ltb (2 ^ 24) (length items) ≡ false = le-ltb _ _ le in
    let n = number_again 4 (length items) (flat_map (element_bytes f) items ++ rest) (omega arith) in
    let read = many_again (element_at f e) (element_bytes f) (fits_element f e) (element_again f e) items rest (elements_fit f e items a.1 b.1 p) in
    rw (append_assoc, n, few_items, read, not_true (is_lone_unset items) a.0) refl

pub cell_again : (f : Format) (k : Kind) (x : Cell) (rest : List ℕ) → has_kind x k ≡ true → is_small x ≡ true → cell_has_place f x ≡ true → cell_at f k (cell_bytes f x ++ rest) ≡ Some (x, rest)
unfolding cell_at set_cell_at
cell_again f k cell.Unset rest h s p = refl
cell_again f (kind.One e) (cell.One v) rest h s p = rw (value_again f e v rest h s p) refl
cell_again f (kind.SetOf e) (cell.One v) rest h s p = absurd cc
cell_again f (kind.VecOf e) (cell.One v) rest h s p = absurd cc
cell_again f (kind.One e) (cell.Many items) rest h s p = absurd cc
cell_again f (kind.SetOf e) (cell.Many items) rest h s p = container_again f e items rest h s p
cell_again f (kind.VecOf e) (cell.Many items) rest h s p = container_again f e items rest h s p

-- a row of these fields that the format can spell
abbrev fits_row : Format → List Field → List Cell → Bool
fits_row f fs xs = fits_fields fs xs && list_all (cell_has_place f) xs

row_again : (f : Format) (fs : List Field) (xs : List Cell) (rest : List ℕ) → fits_fields fs xs ≡ true → list_all (cell_has_place f) xs ≡ true → row_at f fs (row_bytes f xs ++ rest) ≡ Some (xs, rest)
unfolding row_at
row_again f [] [] rest h p = refl
row_again f [] (x ∷ xs) rest h p = absurd cc
row_again f (g ∷ gs) [] rest h p = absurd cc
row_again f (g ∷ gs) (x ∷ xs) rest h p =
    let parts = both (fits_field g x) (fits_fields gs xs) h in
    let places = both (cell_has_place f x) (list_all (cell_has_place f) xs) p in
    let one = both (has_kind x g.kind) (is_small x) parts.0 in
    let regrouped : row_bytes f (x ∷ xs) ++ rest ≡ cell_bytes f x ++ (row_bytes f xs ++ rest) = append_assoc (cell_bytes f x) (row_bytes f xs) rest in
    ap (row_at f (g ∷ gs)) regrouped ∙ rw (cell_again f g.kind x (row_bytes f xs ++ rest) one.0 one.1 places.0, row_again f gs xs rest parts.1 places.1) refl

fitting_row_again : (f : Format) (fs : List Field) (xs : List Cell) (rest : List ℕ) → fits_row f fs xs ≡ true → row_at f fs (row_bytes f xs ++ rest) ≡ Some (xs, rest)
fitting_row_again f fs xs rest h =
    let parts = both (fits_fields fs xs) (list_all (cell_has_place f) xs) h in
    row_again f fs xs rest parts.0 parts.1

kind_again : (k : Kind) → kind_of_code (kind_code k) ≡ Some k
unfolding kind_of_code elem_of_code
kind_again (kind.One elem.Bool) = refl
kind_again (kind.One elem.Count) = refl
kind_again (kind.One elem.Int) = refl
kind_again (kind.One elem.Time) = refl
kind_again (kind.One elem.Span) = refl
kind_again (kind.One elem.Text) = refl
kind_again (kind.One elem.Name) = refl
kind_again (kind.One elem.Addr) = refl
kind_again (kind.One elem.Subnet) = refl
kind_again (kind.One elem.Port) = refl
kind_again (kind.SetOf elem.Bool) = refl
kind_again (kind.SetOf elem.Count) = refl
kind_again (kind.SetOf elem.Int) = refl
kind_again (kind.SetOf elem.Time) = refl
kind_again (kind.SetOf elem.Span) = refl
kind_again (kind.SetOf elem.Text) = refl
kind_again (kind.SetOf elem.Name) = refl
kind_again (kind.SetOf elem.Addr) = refl
kind_again (kind.SetOf elem.Subnet) = refl
kind_again (kind.SetOf elem.Port) = refl
kind_again (kind.VecOf elem.Bool) = refl
kind_again (kind.VecOf elem.Count) = refl
kind_again (kind.VecOf elem.Int) = refl
kind_again (kind.VecOf elem.Time) = refl
kind_again (kind.VecOf elem.Span) = refl
kind_again (kind.VecOf elem.Text) = refl
kind_again (kind.VecOf elem.Name) = refl
kind_again (kind.VecOf elem.Addr) = refl
kind_again (kind.VecOf elem.Subnet) = refl
kind_again (kind.VecOf elem.Port) = refl

field_again : (f : Field) (rest : List ℕ) → is_short_field f ≡ true → field_at (field_bytes f ++ rest) ≡ Some (f, rest)
unfolding field_at byte_at
field_again f rest h = rw (kind_again f.kind, text_again f.name rest (leb-true (length f.name) (2 ^ 24) h)) refl

pub heading_again : (h : Heading) (rest : List ℕ) → is_heading h ≡ true → heading_at (heading_bytes h ++ rest) ≡ Some (h, rest)
unfolding heading_at
heading_again h rest k =
    let a = both (is_none (heading_fault h)) (leb (length h.path) (2 ^ 24) && list_all is_short_field h.fields) k in
    let b = both (leb (length h.path) (2 ^ 24)) (list_all is_short_field h.fields) a.1 in
    let fault = none_is (heading_fault h) a.0 in
    let count = few h fault in
    let columns = flat_map field_bytes h.fields in
    let path = text_again h.path (number 2 (length h.fields) ++ (columns ++ rest)) (leb-true (length h.path) (2 ^ 24) b.0) in
    let n = number_again 2 (length h.fields) (columns ++ rest) (omega arith) in
    let read = many_again field_at field_bytes is_short_field field_again h.fields rest b.1 in
    let regrouped : heading_bytes h ++ rest ≡ text h.path ++ (number 2 (length h.fields) ++ (columns ++ rest)) =
    append_assoc (text h.path) (number 2 (length h.fields) ++ columns) rest ∙ ap (λ (x : List ℕ). text h.path ++ x) (append_assoc (number 2 (length h.fields)) columns rest) in
    ap heading_at regrouped ∙ rw (path, n, read, fault) refl

rows_again : (f : Format) (fs : List Field) (rows : List (List Cell)) → is_batch_size (length rows) ≡ true → list_all (fits_fields fs) rows ≡ true → list_all (list_all (cell_has_place f)) rows ≡ true
    → rows_at f fs (number 4 (length rows) ++ flat_map (row_bytes f) rows) ≡ Some rows
unfolding rows_at
rows_again f fs rows sized fit places =
    let le = leb-true (length rows) 4096 (both (leb 1 (length rows)) (leb (length rows) 4096) sized).1 in
    let n = number_again 4 (length rows) (flat_map (row_bytes f) rows) (omega arith) in
    let good = all_both (fits_fields fs) (list_all (cell_has_place f)) rows fit places in
    let read = many_again (row_at f fs) (row_bytes f) (fits_row f fs) (fitting_row_again f fs) rows [] good in
    let whole : many_at (row_at f fs) (length rows) (flat_map (row_bytes f) rows) ≡ Some (rows, []) = ap (many_at (row_at f fs) (length rows)) (sym (append-nil (flat_map (row_bytes f) rows))) ∙ read in
    rw (n, sized, whole) refl

format_again : (f : Format) → format_coded (format_code f) ≡ Some f
unfolding format_coded
format_again First = refl
format_again Second = refl

-- what is spelled is read again
pub content_again : (s : Spelled) → is_spellable s ≡ true → content_at (spelling s) ≡ Some s
unfolding content_at byte_at
content_again s h =
    let f = s.format in
    let c = s.content in
    let p = parts_of s h in
    let rows = number 4 (length c.rows) ++ flat_map (row_bytes f) c.rows in
    let lt = p.narrow in
    let source = number_again 4 c.source (heading_bytes c.heading ++ rows) (omega arith) in
    rw (format_again f, source, heading_again c.heading rows p.heading, rows_again f c.heading.fields c.rows p.sized p.fitting p.places) refl

abbrev pub maybe : {A : Type 0} → A → Option A
maybe x = Some x

pub some_is : {A : Type 0} (x y : A) → maybe x ≡ maybe y → x ≡ y
some_is x y e = cc

-- two spellings are one only where what they say is
pub one_spelling : (s t : Spelled) → is_spellable s ≡ true → is_spellable t ≡ true → spelling s ≡ spelling t → s ≡ t
one_spelling s t hs ht e = some_is s t (sym (content_again s hs) ∙ ap content_at e ∙ content_again t ht)
