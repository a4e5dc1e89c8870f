-- What a string index answers is what is sure, and what may be, of texts.
use Rattle.std.proofs.Common.{◌≡◌, ℕ, zero, suc, ◌<◌, min, Bool, true, false, not, eqb, leb, ◌&&◌, List, [], ◌∷◌, length, get_or, take, refl, ap, sym, ◌∙◌, inl, inr, arith}
use Rattle.std.specs.Str.{bytes_eq}
use Rattle.std.proofs.lemmas.Bool.{and_parts, and_from, eqb-true, eq-eqb, false_from_ne_true, cases_lt, lt-leb}
use Rattle.std.proofs.lemmas.List.{ext_get_or, get_or-take, length-take}
use Rattle.std.proofs.lemmas.Slice.Eq.{bytes_eq-Decides}
use Rattle.vast_value.specs.declared.kind.Elem.{Elem}
use Rattle.vast_value.specs.declared.kind.Elem.TheVariants as elem
use Rattle.vast_value.specs.declared.kind.Kind.TheVariants as kind
use Rattle.vast_value.specs.declared.cell.Cell.{Cell}
use Rattle.vast_value.specs.declared.cell.Cell.TheVariants as cell
use Rattle.vast_value.specs.declared.value.Value.{Value}
use Rattle.vast_value.specs.declared.value.Value.TheVariants as value
use Rattle.vast_value.specs.Kinds.{elem_of}
use Rattle.vast_value.specs.Layouts.{is_empty}
use Rattle.bits_law.specs.Keys.{meets}
use Rattle.string_index.specs.Texts.{agree, same_start, short_length}
use Rattle.query_meaning.specs.declared.expr.Rel.{Rel}
use Rattle.query_meaning.specs.declared.expr.Rel.TheVariants.{Eq, Ne, Contains}
use Rattle.query_meaning.specs.declared.expr.Literal.{Literal}
use Rattle.query_meaning.specs.declared.expr.Literal.TheVariants.{Of}
use Rattle.query_meaning.specs.Relations.{goes_with}
use Rattle.query_meaning.specs.SureCells.{known_length, same_front, same_whole, sure_cell, maybe_cell, sure_value, maybe_value, sure_text, maybe_text}
use Rattle.column_index.specs.declared.asked.TextAsked.TheVariants as asked
use Rattle.column_index.specs.Asked.{text_asked}
use Rattle.column_index.specs.Columns.{fits_kind, text_of, text_key}
use Rattle.column_index.specs.Kept.{is_text}
use Rattle.column_index.proofs.KindLemmas.{IsUnmet, each_cell, is_network}

bool_same : (p q : Bool) → (p ≡ true → q ≡ true) → (q ≡ true → p ≡ true) → p ≡ q
bool_same true q f g = sym (f refl)
bool_same false q f g = sym (false_from_ne_true q (λ e. not_both (g e)))
  where
    not_both : false ≡ true → ⊥
    not_both e = absurd cc

agree_at : (n : ℕ) (a b : List ℕ) → agree n a b ≡ true → (k : ℕ) → k < n → get_or a k 0 ≡ get_or b k 0
agree_at zero a b h k l = absurd (omega (arith, l))
agree_at (suc n) a b h k l =
    let parts = and_parts (agree n a b) (eqb (get_or a n 0) (get_or b n 0)) h in
    elim (cases_lt k n) [
      | inl less ↦ agree_at n a b parts.0 k less
      | inr more ↦
          let is : n ≡ k = omega (arith, l, more) in
          ap (λ (i : ℕ). get_or a i 0) (sym is) ∙ eqb-true (get_or a n 0) (get_or b n 0) parts.1 ∙ ap (λ (i : ℕ). get_or b i 0) is
    ]

agree_from : (n : ℕ) (a b : List ℕ) → ((k : ℕ) → k < n → get_or a k 0 ≡ get_or b k 0) → agree n a b ≡ true
agree_from zero a b f = refl
agree_from (suc n) a b f =
    and_from (agree n a b) (eqb (get_or a n 0) (get_or b n 0)) (agree_from n a b (λ k l. f k (omega (arith, l)))) (eq-eqb (get_or a n 0) (get_or b n 0) (f n (omega arith)))

-- the first eight bytes, whether bytes past an end are 0 or not there, as the lengths agree
start_front : (key literal : List ℕ) → same_start key literal ≡ true → same_front literal key ≡ true
unfolding same_start
start_front key literal h =
    let parts = and_parts (eqb (short_length key) (short_length literal)) (agree 8 key literal) h in
    let lengths : min (length key) 255 ≡ min (length literal) 255 = eqb-true (short_length key) (short_length literal) parts.0 in
    let fronts : take 8 literal ≡ take 8 key = ext_get_or 0 (take 8 literal) (take 8 key)
    (omega (arith, lengths, length-take 8 literal, length-take 8 key))
    (λ k l.
    let near : k < 8 = omega (arith, l, length-take 8 literal) in
    get_or-take 8 literal k 0 near ∙ sym (agree_at 8 key literal parts.1 k near) ∙ sym (get_or-take 8 key k 0 near)) in
    and_from (eqb (known_length literal) (known_length key)) (bytes_eq (take 8 literal) (take 8 key)) (eq-eqb (known_length literal) (known_length key) (sym lengths)) ((bytes_eq-Decides (take 8 literal) (take 8 key)).1 fronts)

front_start : (key literal : List ℕ) → same_front literal key ≡ true → same_start key literal ≡ true
unfolding same_start
front_start key literal h =
    let parts = and_parts (eqb (known_length literal) (known_length key)) (bytes_eq (take 8 literal) (take 8 key)) h in
    let lengths : known_length literal ≡ known_length key = eqb-true (known_length literal) (known_length key) parts.0 in
    let fronts : take 8 literal ≡ take 8 key = (bytes_eq-Decides (take 8 literal) (take 8 key)).0 parts.1 in
    and_from (eqb (short_length key) (short_length literal)) (agree 8 key literal) (eq-eqb (short_length key) (short_length literal) (sym lengths))
    (agree_from 8 key literal (λ k l. sym (get_or-take 8 key k 0 l) ∙ ap (λ (xs : List ℕ). get_or xs k 0) (sym fronts) ∙ get_or-take 8 literal k 0 l))

front_is : (key literal : List ℕ) → same_start key literal ≡ same_front literal key
front_is key literal = bool_same (same_start key literal) (same_front literal key) (start_front key literal) (front_start key literal)

whole_is : (key literal : List ℕ) → (same_start key literal && leb (length literal) 8) ≡ same_whole literal key
whole_is key literal = ap (λ (b : Bool). b && leb (length literal) 8) (front_is key literal)

empty_is : (text : List ℕ) → leb (length text) 0 ≡ is_empty text
empty_is [] = refl
empty_is (x ∷ xs) = lt-leb (length (x ∷ xs)) 0 (omega arith)

-- what is kept of texts is compared by their bytes, whether they are strings or enums
text_sure : (rel : Rel) (literal v : Value) → is_text (elem_of v) ≡ true → goes_with (elem_of literal) (elem_of v) ≡ true → sure_text rel (text_of literal) (text_of v) ≡ sure_value rel literal v
text_sure rel (value.Text s) (value.Text t) h g = refl
text_sure rel (value.Text s) (value.Name t) h g = refl
text_sure rel (value.Name s) (value.Text t) h g = refl
text_sure rel (value.Name s) (value.Name t) h g = refl
text_sure rel literal (value.Text t) h g = absurd cc
text_sure rel literal (value.Name t) h g = absurd cc
text_sure rel literal _ h g = absurd cc

text_maybe : (rel : Rel) (literal v : Value) → is_text (elem_of v) ≡ true → goes_with (elem_of literal) (elem_of v) ≡ true → maybe_text rel (text_of literal) (text_of v) ≡ maybe_value rel literal v
text_maybe rel (value.Text s) (value.Text t) h g = refl
text_maybe rel (value.Text s) (value.Name t) h g = refl
text_maybe rel (value.Name s) (value.Text t) h g = refl
text_maybe rel (value.Name s) (value.Name t) h g = refl
text_maybe rel literal (value.Text t) h g = absurd cc
text_maybe rel literal (value.Name t) h g = absurd cc
text_maybe rel literal _ h g = absurd cc

pub no_host : (e : Elem) → is_text e ≡ true → is_network e ≡ false
no_host elem.Text h = refl
no_host elem.Name h = refl
no_host _ h = absurd cc

module _ (rel : Rel) (literal : Value) (e : Elem) (text : is_text e ≡ true) (goes : goes_with (elem_of literal) e ≡ true) where
  abbrev Tells : (List ℕ → Bool) → (Rel → Literal → Cell → Bool) → Cell → Type 0
  Tells t q x = meets t (text_key x) ≡ q rel (Of literal) x

  pub texts_sure : (t : List ℕ → Bool) → ((key : List ℕ) → t key ≡ sure_text rel (text_of literal) key) → (x : Cell) → fits_kind (kind.One e) x ≡ true → Tells t sure_cell x
  texts_sure t f = each_cell (Tells t sure_cell) e refl (λ v same ranged.
      f (text_of v) ∙ text_sure rel literal v (ap is_text same ∙ text) (ap (goes_with (elem_of literal)) same ∙ goes))

  pub texts_maybe : (t : List ℕ → Bool) → ((key : List ℕ) → t key ≡ maybe_text rel (text_of literal) key) → (x : Cell) → fits_kind (kind.One e) x ≡ true → Tells t maybe_cell x
  texts_maybe t f = each_cell (Tells t maybe_cell) e refl (λ v same ranged.
      f (text_of v) ∙ text_maybe rel literal v (ap is_text same ∙ text) (ap (goes_with (elem_of literal)) same ∙ goes))

  unmet_value : ((s t : List ℕ) → sure_text rel s t ≡ false) → ((s t : List ℕ) → maybe_text rel s t ≡ false) → (v : Value) → elem_of v ≡ e → IsUnmet rel literal (cell.One v)
  unmet_value f g v same = record {
    sure = sym (text_sure rel literal v (ap is_text same ∙ text) (ap (goes_with (elem_of literal)) same ∙ goes)) ∙ f (text_of literal) (text_of v);
    maybe = sym (text_maybe rel literal v (ap is_text same ∙ text) (ap (goes_with (elem_of literal)) same ∙ goes)) ∙ g (text_of literal) (text_of v);
  }

  pub texts_unmet : ((s t : List ℕ) → sure_text rel s t ≡ false) → ((s t : List ℕ) → maybe_text rel s t ≡ false) → (x : Cell) → fits_kind (kind.One e) x ≡ true → IsUnmet rel literal x
  texts_unmet f g = each_cell (IsUnmet rel literal) e (record { sure = refl; maybe = refl }) (λ v same ranged. unmet_value f g v same)

-- the tests of the index
pub equal_sure : (literal key : List ℕ) → (same_start key literal && leb (length literal) 8) ≡ sure_text Eq literal key
equal_sure literal key = whole_is key literal

pub equal_maybe : (literal key : List ℕ) → same_start key literal ≡ maybe_text Eq literal key
equal_maybe literal key = front_is key literal

pub differs_sure : (literal key : List ℕ) → not (same_start key literal) ≡ sure_text Ne literal key
differs_sure literal key = ap not (front_is key literal)

pub differs_maybe : (literal key : List ℕ) → not (same_start key literal && leb (length literal) 8) ≡ maybe_text Ne literal key
differs_maybe literal key = ap not (whole_is key literal)

pub contains_sure : (literal key : List ℕ) → leb (length literal) 0 ≡ sure_text Contains literal key
contains_sure literal key = empty_is literal

pub contains_maybe : (literal key : List ℕ) → leb (min (length literal) 255) (short_length key) ≡ maybe_text Contains literal key
contains_maybe literal key = refl

pub is_equal : (rel : Rel) → text_asked rel ≡ asked.Equal → Eq ≡ rel
is_equal Eq h = refl
is_equal _ h = absurd cc

pub is_unequal : (rel : Rel) → text_asked rel ≡ asked.Differs → Ne ≡ rel
is_unequal Ne h = refl
is_unequal _ h = absurd cc

pub is_contains : (rel : Rel) → text_asked rel ≡ asked.Contains → Contains ≡ rel
is_contains Contains h = refl
is_contains _ h = absurd cc

pub never_sure : (rel : Rel) → text_asked rel ≡ asked.Never → (s t : List ℕ) → sure_text rel s t ≡ false
never_sure Eq h s t = absurd cc
never_sure Ne h s t = absurd cc
never_sure Contains h s t = absurd cc
never_sure _ h s t = refl

pub never_maybe : (rel : Rel) → text_asked rel ≡ asked.Never → (s t : List ℕ) → maybe_text rel s t ≡ false
never_maybe Eq h s t = absurd cc
never_maybe Ne h s t = absurd cc
never_maybe Contains h s t = absurd cc
never_maybe _ h s t = refl
