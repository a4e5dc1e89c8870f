-- Cells that were written are read again.
use Rattle.std.proofs.Common.{◌≡◌, ℕ, ℤ, pos, negsuc, zero, suc, ◌+◌, ◌-◌, ◌/◌, ◌%◌, ◌^◌, ◌<◌, ◌≤◌, Bool, true, false, not, ◌&&◌, cond, eqb, List, [], ◌∷◌, map, Option, None, Some, refl, ap, sym, ◌∙◌, arith, inl, inr}
use Rattle.std.specs.Prelude.{codes}
use Rattle.std.specs.Fmt.{decimal, signed_decimal}
use Rattle.std.specs.List.{list_all, join_by, slice_split}
use Rattle.std.specs.Option.{option_map}
use Rattle.std.specs.Str.{bytes_eq}
use Rattle.std.proofs.lemmas.Bool.{cases_Bool, le-leb, lt-ltb, ltb-true, ne_eqb, false_from_ne_true}
use Rattle.std.proofs.lemmas.List.{append-nil}
use Rattle.std.proofs.lemmas.Slice.Eq.{bytes_eq-Decides}
use Rattle.vast_value.specs.declared.kind.Elem.{Elem}
use Rattle.vast_value.specs.declared.kind.Elem.TheVariants as elem
use Rattle.vast_value.specs.declared.kind.Kind.{Kind}
use Rattle.vast_value.specs.declared.kind.Kind.TheVariants as kind
use Rattle.vast_value.specs.declared.value.Value.{Value}
use Rattle.vast_value.specs.declared.value.Value.TheVariants as value
use Rattle.vast_value.specs.declared.cell.Cell.{Cell}
use Rattle.vast_value.specs.declared.cell.Cell.TheVariants as cell
use Rattle.vast_value.specs.Fit.{is_byte, is_i64, is_ranged, is_ranged_element, is_ranged_cell}
use Rattle.vast_value.specs.Kinds.{elem_of, elem_eq, is_element, is_lone_unset, are_elements, has_kind}
use Rattle.vast_value.proofs.KindLemmas.{elem_is}
use Rattle.value_reading.specs.declared.marks.Marks.{Marks}
use Rattle.value_writing.specs.declared.place.Place.{Place}
use Rattle.value_writing.specs.declared.place.Place.TheVariants as place
use Rattle.value_reading.specs.Escapes.{unescaped}
use Rattle.value_reading.proofs.EscapeLemmas.{other_stays}
use Rattle.value_reading.specs.Reading.{value_read, empty_value, is_text, set_read, element_read, elements_read, container_read, kind_read, cell_read}
use Rattle.value_writing.specs.Writing.{AreUsual, span_text, seconds_text, fraction_text, last_digits, text_text, value_text, is_empty_value, element_text, cell_text, is_printable}
use Rattle.value_writing.proofs.WritingNumbers.{both, not_true, all_append, all_weaker, decimal_all, up_to_again, int_again, span_again}
use Rattle.value_writing.proofs.WritingTexts.{text_again, text_no_dash, text_no_empty, no_comma, text_no_comma, text_printable}
use Rattle.value_writing.proofs.WritingDotted.{split_joined, joined_all}
use Rattle.value_writing.proofs.WritingAddresses.{address_again, address_passes}
use Rattle.value_writing.proofs.WritingSubnets.{subnet_again, subnet_passes}
use Rattle.value_writing.proofs.WritingPorts.{port_again, port_passes}

-- Values that are no texts: their bytes are no commas and no backslashes

abbrev is_clean : ℕ → Bool
is_clean b = no_comma b && (not (eqb b 92) && is_printable b)

clean : (b : ℕ) → 48 ≤ b → b < 127 → (eqb b 92 ≡ false) → is_clean b ≡ true
clean b low high other = rw (ne_eqb b 44 (λ e. omega arith), other, le-leb 32 b (omega arith), lt-ltb b 127 high) refl

clean_low : (b : ℕ) → 48 ≤ b → b ≤ 57 → is_clean b ≡ true
clean_low b low high = clean b low (omega arith) (ne_eqb b 92 (λ e. omega arith))

clean_high : (b : ℕ) → 97 ≤ b → b ≤ 102 → is_clean b ≡ true
clean_high b low high = clean b (omega arith) (omega arith) (ne_eqb b 92 (λ e. omega arith))

-- the three facts of a clean byte
clean_parts : (b : ℕ) → is_clean b ≡ true → (no_comma b ≡ true) × ((eqb b 92 ≡ false) × (is_printable b ≡ true))
clean_parts b h =
    let a = both (no_comma b) (not (eqb b 92) && is_printable b) h in
    let c = both (not (eqb b 92)) (is_printable b) a.1 in
    (a.0, (not_true (eqb b 92) c.0, c.1))

last_passes : (p : ℕ → Bool) → ((b : ℕ) → 48 ≤ b → b ≤ 57 → p b ≡ true) → (k n : ℕ) → list_all p (last_digits k n) ≡ true
last_passes p f zero n = refl
last_passes p f (suc k) n = rw (f (48 + n / 10 ^ k % 10) (omega arith) (omega arith), last_passes p f k n) refl

fraction_passes : (p : ℕ → Bool) → ((b : ℕ) → 48 ≤ b → b ≤ 57 → p b ≡ true) → (n : ℕ) → list_all p (fraction_text n) ≡ true
fraction_passes p f n = elim (eqb (n % 1000) 0) as (λ t. list_all p (cond t (last_digits 6 (n / 1000)) (last_digits 9 n)) ≡ true) [
  | true ↦ last_passes p f 6 (n / 1000)
  | false ↦ last_passes p f 9 n
]

seconds_passes : (n : ℕ) → n < 2 ^ 64 → list_all is_clean (seconds_text n) ≡ true
seconds_passes n h = all_append is_clean (decimal (n / 10 ^ 9)) (46 ∷ fraction_text (n % 10 ^ 9)) (decimal_all is_clean clean_low (n / 10 ^ 9) (omega arith)) (fraction_passes is_clean clean_low (n % 10 ^ 9))

span_passes : (z : ℤ) → is_i64 z ≡ true → list_all is_clean (span_text z) ≡ true
unfolding span_text
span_passes (pos n) h = let lt = ltb-true n (2 ^ 63) h in seconds_passes n (omega arith)
span_passes (negsuc n) h = let lt = ltb-true n (2 ^ 63) h in seconds_passes (suc n) (omega arith)

int_passes : (z : ℤ) → is_i64 z ≡ true → list_all is_clean (signed_decimal z) ≡ true
int_passes (pos n) h = let lt = ltb-true n (2 ^ 63) h in decimal_all is_clean clean_low n (omega arith)
int_passes (negsuc n) h = let lt = ltb-true n (2 ^ 63) h in decimal_all is_clean clean_low (suc n) (omega arith)

clean_value : (place : Place) (v : Value) → is_ranged v ≡ true → is_text (elem_of v) ≡ false → list_all is_clean (value_text place v) ≡ true
unfolding value_text
clean_value place (value.Bool true) h k = refl
clean_value place (value.Bool false) h k = refl
clean_value place (value.Count n) h k = decimal_all is_clean clean_low n (ltb-true n (2 ^ 64) h)
clean_value place (value.Int z) h k = int_passes z h
clean_value place (value.Time z) h k = span_passes z h
clean_value place (value.Span z) h k = span_passes z h
clean_value place (value.Text t) h k = absurd cc
clean_value place (value.Name t) h k = absurd cc
clean_value place (value.Addr a) h k = address_passes is_clean clean_low clean_high refl refl a
clean_value place (value.Subnet n) h k = subnet_passes is_clean clean_low clean_high refl refl refl n
clean_value place (value.Port p over) h k =
    let lt = ltb-true p (2 ^ 16) h in port_passes is_clean clean_low refl refl refl refl p over (omega arith)

clean_unescaped : (t : List ℕ) → list_all is_clean t ≡ true → unescaped t ≡ t
clean_unescaped [] h = refl
clean_unescaped (b ∷ bs) h =
    let a = both (is_clean b) (list_all is_clean bs) h in
    let c = clean_parts b a.0 in
    other_stays b bs c.1.0 ∙ ap (λ (x : List ℕ). b ∷ x) (clean_unescaped bs a.1)

plain_again : (place : Place) (v : Value) → is_ranged v ≡ true → is_text (elem_of v) ≡ false → value_read (elem_of v) (value_text place v) ≡ Some v
unfolding value_text value_read
plain_again place (value.Bool true) h k = refl
plain_again place (value.Bool false) h k = refl
plain_again place (value.Count n) h k = let lt = ltb-true n (2 ^ 64) h in rw (up_to_again (2 ^ 64 - 1) n (omega arith) lt) refl
plain_again place (value.Int z) h k = rw (int_again z h) refl
plain_again place (value.Time z) h k = rw (span_again z h) refl
plain_again place (value.Span z) h k = rw (span_again z h) refl
plain_again place (value.Text t) h k = absurd cc
plain_again place (value.Name t) h k = absurd cc
plain_again place (value.Addr a) h k = rw (address_again a (ltb-true a (2 ^ 128) h)) refl
plain_again place (value.Subnet n) h k = rw (subnet_again n (ltb-true n.base (2 ^ 128) h)) refl
plain_again place (value.Port p over) h k = rw (port_again p over (ltb-true p (2 ^ 16) h)) refl

-- a mark is no value but a text
marks_unread : (e : Elem) → is_text e ≡ false → (value_read e (codes "-") ≡ None) × (value_read e (codes "(empty)") ≡ None)
unfolding value_read
marks_unread elem.Text k = absurd cc
marks_unread elem.Name k = absurd cc
marks_unread _ k = (refl, refl)

-- what reads as a value is no text that reads as none
apart : (e : Elem) (v : Value) (raw text : List ℕ) → value_read e raw ≡ Some v → value_read e text ≡ None → bytes_eq raw text ≡ false
apart e v raw text h k = false_from_ne_true (bytes_eq raw text) (λ is.
    let same = (bytes_eq-Decides raw text).0 is in
    let back : Some v ≡ None = sym h ∙ (ap (value_read e) same ∙ k) in
    cc)

-- Values in their places

-- what holds of each text as it is written holds of a value that is one
text_case : (P : List ℕ → Type 0) (place : Place) (v : Value) → ((t : List ℕ) → list_all is_byte t ≡ true → P (text_text place t)) → is_ranged v ≡ true → is_text (elem_of v) ≡ true → P (value_text place v)
unfolding value_text
text_case P place (value.Text t) of_text h k = of_text t h
text_case P place (value.Name t) of_text h k = of_text t h
text_case P place _ of_text h k = absurd cc

value_no_dash : (place : Place) (v : Value) → is_ranged v ≡ true → bytes_eq (value_text place v) (codes "-") ≡ false
value_no_dash place v h = elim (cases_Bool (is_text (elem_of v))) [
  | inl text ↦ text_case (λ t. bytes_eq t (codes "-") ≡ false) place v (text_no_dash place) h text
  | inr plain ↦ apart (elem_of v) v (value_text place v) (codes "-") (plain_again place v h plain) (marks_unread (elem_of v) plain).0
]

value_no_empty : (place : Place) (v : Value) → is_ranged v ≡ true → bytes_eq (value_text place v) (codes "(empty)") ≡ false
value_no_empty place v h = elim (cases_Bool (is_text (elem_of v))) [
  | inl text ↦ text_case (λ t. bytes_eq t (codes "(empty)") ≡ false) place v (text_no_empty place) h text
  | inr plain ↦ apart (elem_of v) v (value_text place v) (codes "(empty)") (plain_again place v h plain) (marks_unread (elem_of v) plain).1
]

value_no_comma : (v : Value) → is_ranged v ≡ true → list_all no_comma (value_text place.Element v) ≡ true
value_no_comma v h = elim (cases_Bool (is_text (elem_of v))) [
  | inl text ↦ text_case (λ t. list_all no_comma t ≡ true) place.Element v (λ t ranged. text_no_comma t) h text
  | inr plain ↦ all_weaker is_clean no_comma (λ b c. (clean_parts b c).0) (value_text place.Element v) (clean_value place.Element v h plain)
]

set_plain : (marks : Marks) (e : Elem) (raw : List ℕ) → is_text e ≡ false → set_read marks e raw ≡ value_read e (unescaped raw)
set_plain marks e raw k = rw k refl

set_text : (marks : Marks) (e : Elem) (raw : List ℕ) → AreUsual marks → is_text e ≡ true → bytes_eq raw (codes "(empty)") ≡ false → set_read marks e raw ≡ value_read e (unescaped raw)
set_text marks e raw u k differ = rw (k, u.empty, differ) refl

text_value_again : (place : Place) (v : Value) → is_ranged v ≡ true → is_text (elem_of v) ≡ true → value_read (elem_of v) (unescaped (value_text place v)) ≡ Some v
unfolding value_text value_read
text_value_again place (value.Text t) h k = ap (λ (x : List ℕ). Some (value.Text x)) (text_again place t h)
text_value_again place (value.Name t) h k = ap (λ (x : List ℕ). Some (value.Name x)) (text_again place t h)
text_value_again place _ h k = absurd cc

set_again : (marks : Marks) (place : Place) (v : Value) → AreUsual marks → is_ranged v ≡ true → set_read marks (elem_of v) (value_text place v) ≡ Some v
set_again marks place v u h = elim (cases_Bool (is_text (elem_of v))) [
  | inl text ↦ set_text marks (elem_of v) (value_text place v) u text (value_no_empty place v h) ∙ text_value_again place v h text
  | inr plain ↦
      set_plain marks (elem_of v) (value_text place v) plain
      ∙ (ap (value_read (elem_of v)) (clean_unescaped (value_text place v) (clean_value place v h plain)) ∙ plain_again place v h plain)
]

-- Elements

set_of_kind : (marks : Marks) (place : Place) (e : Elem) (v : Value) → AreUsual marks → elem_eq (elem_of v) e ≡ true → is_ranged v ≡ true → set_read marks e (value_text place v) ≡ Some v
set_of_kind marks place e v u k h = ap (λ (x : Elem). set_read marks x (value_text place v)) (sym (elem_is (elem_of v) e k)) ∙ set_again marks place v u h

element_again : (marks : Marks) (e : Elem) (x : Option Value) → AreUsual marks → is_element e x ≡ true → is_ranged_element x ≡ true → element_read marks e (element_text x) ≡ Some x
element_again marks e None u k h = rw u.unset refl
element_again marks e (Some v) u k h = rw (u.unset, value_no_dash place.Element v h, set_of_kind marks place.Element e v u k h) refl

elements_again : (marks : Marks) (e : Elem) (items : List (Option Value)) → AreUsual marks → list_all (is_element e) items ≡ true → list_all is_ranged_element items ≡ true
    → elements_read marks e (map element_text items) ≡ Some items
elements_again marks e [] u k h = refl
elements_again marks e (x ∷ xs) u k h =
    let a = both (is_element e x) (list_all (is_element e) xs) k in
    let b = both (is_ranged_element x) (list_all is_ranged_element xs) h in
    rw (element_again marks e x u a.0 b.0, elements_again marks e xs u a.1 b.1) refl

element_no_comma : (x : Option Value) → is_ranged_element x ≡ true → list_all no_comma (element_text x) ≡ true
element_no_comma None h = refl
element_no_comma (Some v) h = value_no_comma v h

elements_no_comma : (items : List (Option Value)) → list_all is_ranged_element items ≡ true → list_all (λ x. list_all no_comma (element_text x)) items ≡ true
elements_no_comma items h = all_weaker is_ranged_element (λ x. list_all no_comma (element_text x)) element_no_comma items h

-- Containers

abbrev is_comma : ℕ → Bool
is_comma b = eqb b 44

abbrev joined : List (Option Value) → List ℕ
joined items = join_by element_text (44 ∷ []) items

pieces_again : (x : Option Value) (xs : List (Option Value)) → list_all is_ranged_element (x ∷ xs) ≡ true → slice_split is_comma (joined (x ∷ xs)) ≡ map element_text (x ∷ xs)
pieces_again x xs h = split_joined is_comma 44 element_text refl x xs (elements_no_comma (x ∷ xs) h)

-- two elements are no text without a comma
two_apart : (x y : Option Value) (ys : List (Option Value)) (text : List ℕ) → list_all is_ranged_element (x ∷ (y ∷ ys)) ≡ true → slice_split is_comma text ≡ text ∷ []
    → bytes_eq (joined (x ∷ (y ∷ ys))) text ≡ false
two_apart x y ys text h k = false_from_ne_true (bytes_eq (joined (x ∷ (y ∷ ys))) text) (λ is.
    let same = (bytes_eq-Decides (joined (x ∷ (y ∷ ys))) text).0 is in
    let pieces : element_text x ∷ (element_text y ∷ map element_text ys) ≡ text ∷ [] = sym (pieces_again x (y ∷ ys) h) ∙ (ap (slice_split is_comma) same ∙ k) in
    cc)

one_apart : (x : Option Value) (text : List ℕ) → bytes_eq (element_text x) text ≡ false → bytes_eq (joined (x ∷ [])) text ≡ false
one_apart x text h = ap (λ (raw : List ℕ). bytes_eq raw text) (append-nil (element_text x)) ∙ h

joined_no_dash : (items : List (Option Value)) → is_lone_unset items ≡ false → list_all is_ranged_element items ≡ true → bytes_eq (joined items) (codes "-") ≡ false
joined_no_dash [] k h = refl
joined_no_dash (None ∷ []) k h = absurd cc
joined_no_dash (Some v ∷ []) k h = one_apart (Some v) (codes "-") (value_no_dash place.Element v (both (is_ranged v) true h).0)
joined_no_dash (None ∷ (y ∷ ys)) k h = two_apart None y ys (codes "-") h refl
joined_no_dash (Some v ∷ (y ∷ ys)) k h = two_apart (Some v) y ys (codes "-") h refl

joined_no_empty : (items : List (Option Value)) → list_all is_ranged_element items ≡ true → bytes_eq (joined items) (codes "(empty)") ≡ false
joined_no_empty [] h = refl
joined_no_empty (None ∷ []) h = refl
joined_no_empty (Some v ∷ []) h = one_apart (Some v) (codes "(empty)") (value_no_empty place.Element v (both (is_ranged v) true h).0)
joined_no_empty (None ∷ (y ∷ ys)) h = two_apart None y ys (codes "(empty)") h refl
joined_no_empty (Some v ∷ (y ∷ ys)) h = two_apart (Some v) y ys (codes "(empty)") h refl

cut_again : (marks : Marks) (x : Option Value) (xs : List (Option Value)) → AreUsual marks → list_all is_ranged_element (x ∷ xs) ≡ true
    → slice_split (λ b. eqb b marks.set_separator) (joined (x ∷ xs)) ≡ map element_text (x ∷ xs)
cut_again marks x xs u h = ap (λ (c : ℕ). slice_split (λ b. eqb b c) (joined (x ∷ xs))) u.separator ∙ pieces_again x xs h

container_full : (marks : Marks) (e : Elem) (raw : List ℕ) → AreUsual marks → bytes_eq raw (codes "(empty)") ≡ false
    → container_read marks e raw ≡ option_map cell.Many (elements_read marks e (slice_split (λ b. eqb b marks.set_separator) raw))
container_full marks e raw u h = rw (u.empty, h) refl

container_again : (marks : Marks) (e : Elem) (items : List (Option Value)) → AreUsual marks → are_elements e items ≡ true → list_all is_ranged_element items ≡ true
    → container_read marks e (cell_text (cell.Many items)) ≡ Some (cell.Many items)
unfolding cell_text
container_again marks e [] u k h = rw u.empty refl
container_again marks e (x ∷ xs) u k h =
    let a = both (not (is_lone_unset (x ∷ xs))) (list_all (is_element e) (x ∷ xs)) k in
    container_full marks e (joined (x ∷ xs)) u (joined_no_empty (x ∷ xs) h)
    ∙ (ap (λ (raws : List (List ℕ)). option_map cell.Many (elements_read marks e raws)) (cut_again marks x xs u h)
    ∙ ap (option_map cell.Many) (elements_again marks e (x ∷ xs) u a.1 h))

many_no_dash : (items : List (Option Value)) → is_lone_unset items ≡ false → list_all is_ranged_element items ≡ true → bytes_eq (cell_text (cell.Many items)) (codes "-") ≡ false
unfolding cell_text
many_no_dash [] k h = refl
many_no_dash (x ∷ xs) k h = joined_no_dash (x ∷ xs) k h

-- Cells

not_unset : (marks : Marks) (k : Kind) (raw : List ℕ) → AreUsual marks → bytes_eq raw (codes "-") ≡ false → cell_read marks k raw ≡ kind_read marks k raw
unfolding cell_read
not_unset marks k raw u differ = rw (u.unset, differ) refl

unset_again : (marks : Marks) (k : Kind) → AreUsual marks → cell_read marks k (cell_text cell.Unset) ≡ Some cell.Unset
unfolding cell_read cell_text
unset_again marks k u = rw u.unset refl

empty_whole : (v : Value) → is_empty_value v ≡ true → cell_text (cell.One v) ≡ codes "(empty)"
unfolding cell_text
empty_whole v h = rw h refl

other_whole : (v : Value) → is_empty_value v ≡ false → cell_text (cell.One v) ≡ value_text place.Whole v
unfolding cell_text
other_whole v h = rw h refl

empty_value_again : (v : Value) → is_empty_value v ≡ true → (is_text (elem_of v) ≡ true) × (empty_value (elem_of v) ≡ Some v)
empty_value_again (value.Text []) h = (refl, refl)
empty_value_again (value.Name []) h = (refl, refl)
empty_value_again _ h = absurd cc

set_empty : (marks : Marks) (v : Value) → AreUsual marks → is_empty_value v ≡ true → set_read marks (elem_of v) (codes "(empty)") ≡ Some v
set_empty marks v u h = let a = empty_value_again v h in rw (u.empty, a.0, a.1) refl

one_again : (marks : Marks) (v : Value) → AreUsual marks → is_ranged v ≡ true → cell_read marks (kind.One (elem_of v)) (cell_text (cell.One v)) ≡ Some (cell.One v)
one_again marks v u h = elim (cases_Bool (is_empty_value v)) [
  | inl empty ↦
      ap (cell_read marks (kind.One (elem_of v))) (empty_whole v empty)
      ∙ (not_unset marks (kind.One (elem_of v)) (codes "(empty)") u refl ∙ ap (option_map cell.One) (set_empty marks v u empty))
  | inr other ↦
      ap (cell_read marks (kind.One (elem_of v))) (other_whole v other)
      ∙ (not_unset marks (kind.One (elem_of v)) (value_text place.Whole v) u (value_no_dash place.Whole v h) ∙ ap (option_map cell.One) (set_again marks place.Whole v u h))
]

set_cell_again : (marks : Marks) (e : Elem) (items : List (Option Value)) → AreUsual marks → are_elements e items ≡ true → list_all is_ranged_element items ≡ true
    → (bytes_eq (cell_text (cell.Many items)) (codes "-") ≡ false) × (container_read marks e (cell_text (cell.Many items)) ≡ Some (cell.Many items))
set_cell_again marks e items u k h =
    let a = both (not (is_lone_unset items)) (list_all (is_element e) items) k in
    (many_no_dash items (not_true (is_lone_unset items) a.0) h, container_again marks e items u k h)

pub cell_again : (marks : Marks) (k : Kind) (x : Cell) → AreUsual marks → has_kind x k ≡ true → is_ranged_cell x ≡ true → cell_read marks k (cell_text x) ≡ Some x
cell_again marks k cell.Unset u h r = unset_again marks k u
cell_again marks (kind.One e) (cell.One v) u h r = ap (λ (x : Elem). cell_read marks (kind.One x) (cell_text (cell.One v))) (sym (elem_is (elem_of v) e h)) ∙ one_again marks v u r
cell_again marks (kind.SetOf e) (cell.One v) u h r = absurd cc
cell_again marks (kind.VecOf e) (cell.One v) u h r = absurd cc
cell_again marks (kind.One e) (cell.Many items) u h r = absurd cc
cell_again marks (kind.SetOf e) (cell.Many items) u h r =
    let a = set_cell_again marks e items u h r in not_unset marks (kind.SetOf e) (cell_text (cell.Many items)) u a.0 ∙ a.1
cell_again marks (kind.VecOf e) (cell.Many items) u h r =
    let a = set_cell_again marks e items u h r in not_unset marks (kind.VecOf e) (cell_text (cell.Many items)) u a.0 ∙ a.1

-- Printable ASCII

value_printable : (place : Place) (v : Value) → is_ranged v ≡ true → list_all is_printable (value_text place v) ≡ true
value_printable place v h = elim (cases_Bool (is_text (elem_of v))) [
  | inl text ↦ text_case (λ t. list_all is_printable t ≡ true) place v (text_printable place) h text
  | inr plain ↦ all_weaker is_clean is_printable (λ b c. (clean_parts b c).1.1) (value_text place v) (clean_value place v h plain)
]

element_printable : (x : Option Value) → is_ranged_element x ≡ true → list_all is_printable (element_text x) ≡ true
element_printable None h = refl
element_printable (Some v) h = value_printable place.Element v h

pub cell_printable : (x : Cell) → is_ranged_cell x ≡ true → list_all is_printable (cell_text x) ≡ true
unfolding cell_text
cell_printable cell.Unset h = refl
cell_printable (cell.One v) h =
    elim (is_empty_value v) as (λ t. list_all is_printable (cond t (codes "(empty)") (value_text place.Whole v)) ≡ true) [
      | true ↦ refl
      | false ↦ value_printable place.Whole v h
    ]
cell_printable (cell.Many []) h = refl
cell_printable (cell.Many (x ∷ xs)) h =
    joined_all is_printable 44 element_text refl x xs (all_weaker is_ranged_element (λ y. list_all is_printable (element_text y)) element_printable (x ∷ xs) h)
