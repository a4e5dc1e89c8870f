-- The buckets that a container takes.
use Rattle.std.proofs.Common.{◌≡◌, ℕ, ◌^◌, Bool, true, false, not, eqb, ◌&&◌, ◌||◌, List, [], ◌∷◌, fold, Option, Some, None, refl, ap, sym, ◌∙◌, inl, inr}
use Rattle.std.specs.Prelude.{bit_or}
use Rattle.std.specs.List.{list_any, list_all}
use Rattle.std.proofs.lemmas.Bool.{and_parts, cases_eq, eq-eqb, ne_eqb, or_from}
use Rattle.std.proofs.lemmas.Nat.Bits.{bit_at-zero, bit_at-pow_same, bit_at-pow_other}
use Rattle.vast_value.specs.declared.kind.Elem.{Elem}
use Rattle.vast_value.specs.declared.kind.Kind.TheVariants as kind
use Rattle.vast_value.specs.declared.cell.Cell.{Cell}
use Rattle.vast_value.specs.declared.cell.Cell.TheVariants as cell
use Rattle.vast_value.specs.declared.value.Value.{Value}
use Rattle.vast_value.specs.Kinds.{elem_of, elem_eq, is_element, is_lone_unset, has_kind}
use Rattle.vast_value.specs.Fit.{is_ranged_cell}
use Rattle.vast_value.proofs.KindLemmas.{elem_is}
use Rattle.bits_law.specs.Keys.{meets}
use Rattle.bits_law.specs.Numbers.{has_bit}
use Rattle.bits_law.proofs.WordBits.{bit-or}
use Rattle.set_index.specs.Buckets.{takes}
use Rattle.query_meaning.specs.declared.expr.Rel.{Rel}
use Rattle.query_meaning.specs.declared.expr.Rel.TheVariants.{Contains}
use Rattle.query_meaning.specs.declared.expr.Literal.TheVariants.{Of}
use Rattle.query_meaning.specs.Relations.{goes_with}
use Rattle.query_meaning.specs.SureCells.{bucket, sure_cell, maybe_cell, maybe_element, maybe_elements}
use Rattle.column_index.specs.Asked.{is_contains}
use Rattle.column_index.specs.Columns.{fits_kind, with_bucket, buckets_of, bucket_key}
use Rattle.column_index.proofs.KindLemmas.{IsUnmet}

abbrev in_bucket : ℕ → Option Value → Bool
in_bucket b None = false
in_bucket b (Some v) = eqb (bucket v) b

one_bit : (k b : ℕ) → has_bit (2 ^ k) b ≡ eqb k b
one_bit k b = elim (cases_eq b k) [
  | inl same ↦ ap (λ (i : ℕ). has_bit (2 ^ k) i) same ∙ eq-eqb _ 1 (bit_at-pow_same k) ∙ sym (eq-eqb k b (sym same))
  | inr other ↦ ap (λ (n : ℕ). eqb n 1) (bit_at-pow_other k b other) ∙ sym (ne_eqb k b (λ e. other (sym e)))
]

or_assoc : (x y z : Bool) → ((x || y) || z) ≡ (x || (y || z))
or_assoc true y z = refl
or_assoc false y z = refl

taken_from : (b n : ℕ) (items : List (Option Value)) → has_bit (fold with_bucket n items) b ≡ (has_bit n b || list_any (in_bucket b) items)
taken_from b n [] = or_none (has_bit n b)
  where
    or_none : (x : Bool) → x ≡ (x || false)
    or_none true = refl
    or_none false = refl
taken_from b n (None ∷ items) = taken_from b n items
taken_from b n (Some v ∷ items) =
    taken_from b (bit_or n (2 ^ bucket v)) items
    ∙ ap (λ (x : Bool). x || list_any (in_bucket b) items) (bit-or n (2 ^ bucket v) b)
    ∙ ap (λ (x : Bool). (has_bit n b || x) || list_any (in_bucket b) items) (one_bit (bucket v) b)
    ∙ or_assoc (has_bit n b) (eqb (bucket v) b) (list_any (in_bucket b) items)

taken : (b : ℕ) (items : List (Option Value)) → takes b (buckets_of items) ≡ list_any (in_bucket b) items
taken b items = taken_from b 0 items ∙ ap (λ (x : Bool). x || list_any (in_bucket b) items) (ap (λ (n : ℕ). eqb n 1) (bit_at-zero b))

-- elements of a kind that the literal goes with are told by their buckets
same_elements : (literal : Value) (e : Elem) (items : List (Option Value)) → goes_with (elem_of literal) e ≡ true → list_all (is_element e) items ≡ true → list_any (in_bucket (bucket literal)) items ≡ list_any (maybe_element literal) items
same_elements literal e [] g h = refl
same_elements literal e (None ∷ items) g h = same_elements literal e items g h
same_elements literal e (Some v ∷ items) g h =
    let parts = and_parts (elem_eq (elem_of v) e) (list_all (is_element e) items) h in
    let goes : goes_with (elem_of literal) (elem_of v) ≡ true = ap (goes_with (elem_of literal)) (elem_is (elem_of v) e parts.0) ∙ g in
    ap (λ (x : Bool). eqb (bucket v) (bucket literal) || x) (same_elements literal e items g parts.1)
    ∙ ap (λ (x : Bool). (x && eqb (bucket v) (bucket literal)) || list_any (maybe_element literal) items) (sym goes)

other_elements : (literal : Value) (e : Elem) (items : List (Option Value)) → goes_with (elem_of literal) e ≡ false → list_all (is_element e) items ≡ true → list_any (maybe_element literal) items ≡ false
other_elements literal e [] g h = refl
other_elements literal e (None ∷ items) g h = other_elements literal e items g h
other_elements literal e (Some v ∷ items) g h =
    let parts = and_parts (elem_eq (elem_of v) e) (list_all (is_element e) items) h in
    let apart : goes_with (elem_of literal) (elem_of v) ≡ false = ap (goes_with (elem_of literal)) (elem_is (elem_of v) e parts.0) ∙ g in
    or_from _ _ (ap (λ (x : Bool). x && eqb (bucket v) (bucket literal)) apart) (other_elements literal e items g parts.1)

-- a container's elements are of the kind
elements : (e : Elem) (items : List (Option Value)) → fits_kind (kind.SetOf e) (cell.Many items) ≡ true → list_all (is_element e) items ≡ true
elements e items h =
    let parts = and_parts (has_kind (cell.Many items) (kind.SetOf e)) (is_ranged_cell (cell.Many items)) h in
    (and_parts (not (is_lone_unset items)) (list_all (is_element e) items) parts.0).1

pub never_sure : (rel : Rel) (literal : Value) (e : Elem) (x : Cell) → fits_kind (kind.SetOf e) x ≡ true → sure_cell rel (Of literal) x ≡ false
never_sure rel literal e cell.Unset h = refl
never_sure rel literal e (cell.One v) h = absurd cc
never_sure rel literal e (cell.Many items) h = refl

pub bucket_maybe : (rel : Rel) (literal : Value) (e : Elem) → Contains ≡ rel → goes_with (elem_of literal) e ≡ true → (x : Cell) → fits_kind (kind.SetOf e) x ≡ true → meets (takes (bucket literal)) (bucket_key x) ≡ maybe_cell rel (Of literal) x
bucket_maybe rel literal e r g cell.Unset h = refl
bucket_maybe rel literal e r g (cell.One v) h = absurd cc
bucket_maybe rel literal e r g (cell.Many items) h =
    taken (bucket literal) items ∙ same_elements literal e items g (elements e items h) ∙ ap (λ (r : Rel). maybe_elements r literal items) r

other_maybe : (rel : Rel) (literal : Value) (e : Elem) (items : List (Option Value)) → goes_with (elem_of literal) e ≡ false → list_all (is_element e) items ≡ true → maybe_elements rel literal items ≡ false
other_maybe Contains literal e items g h = other_elements literal e items g h
other_maybe _ literal e items g h = refl

pub elements_unmet : (rel : Rel) (literal : Value) (e : Elem) → goes_with (elem_of literal) e ≡ false → (x : Cell) → fits_kind (kind.SetOf e) x ≡ true → IsUnmet rel literal x
elements_unmet rel literal e g cell.Unset h = record { sure = refl; maybe = refl }
elements_unmet rel literal e g (cell.One v) h = absurd cc
elements_unmet rel literal e g (cell.Many items) h = record { sure = refl; maybe = other_maybe rel literal e items g (elements e items h) }

no_elements : (rel : Rel) (literal : Value) (items : List (Option Value)) → is_contains rel ≡ false → maybe_elements rel literal items ≡ false
no_elements Contains literal items n = absurd cc
no_elements _ literal items n = refl

pub relation_unmet : (rel : Rel) (literal : Value) (e : Elem) → is_contains rel ≡ false → (x : Cell) → fits_kind (kind.SetOf e) x ≡ true → IsUnmet rel literal x
relation_unmet rel literal e n cell.Unset h = record { sure = refl; maybe = refl }
relation_unmet rel literal e n (cell.One v) h = absurd cc
relation_unmet rel literal e n (cell.Many items) h = record { sure = refl; maybe = no_elements rel literal items n }

pub contains_is : (rel : Rel) → is_contains rel ≡ true → Contains ≡ rel
contains_is Contains h = refl
contains_is _ h = absurd cc
