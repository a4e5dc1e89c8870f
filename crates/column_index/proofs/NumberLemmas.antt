-- The answers of numbers are the relations of the values that they stand for.
use Rattle.std.proofs.Common.{◌≡◌, ℕ, ℤ, pos, negsuc, ◌/◌, ◌^◌, Bool, true, false, not, eqb, ltb, leb, ◌==◌, ◌&&◌, ◌||◌, Some, refl, ap, sym, ◌∙◌, arith}
use Rattle.std.specs.Prelude.{int_lt, int_le}
use Rattle.std.specs.Ordering.{int_eq, int_cmp, nat_cmp}
use Rattle.std.proofs.lemmas.Bool.{ltb-true, lt-ltb}
use Rattle.std.proofs.lemmas.Bool.Decides.{nat_tests}
use Rattle.vast_value.specs.declared.kind.Elem.{Elem}
use Rattle.vast_value.specs.declared.kind.Elem.TheVariants as elem
use Rattle.vast_value.specs.declared.kind.Kind.TheVariants as kind
use Rattle.vast_value.specs.declared.cell.Cell.{Cell}
use Rattle.vast_value.specs.declared.value.Value.{Value}
use Rattle.vast_value.specs.declared.value.Value.TheVariants as value
use Rattle.vast_value.specs.Kinds.{elem_of, elem_eq}
use Rattle.vast_value.specs.Fit.{is_ranged, is_i64}
use Rattle.query_meaning.specs.declared.expr.Rel.{Rel}
use Rattle.query_meaning.specs.declared.expr.Rel.TheVariants.{Eq, Ne, Lt, Le, Gt, Ge, Within, Contains}
use Rattle.query_meaning.specs.declared.expr.Literal.TheVariants.{Of}
use Rattle.query_meaning.specs.Relations.{goes_with, is_less, is_greater, is_equal, value_meets}
use Rattle.query_meaning.specs.SureCells.{sure_cell, maybe_cell, sure_value, maybe_value, sure_time, maybe_time, seconds}
use Rattle.query_meaning.proofs.SureLemmas.{less_is, greater_is, by_equal}
use Rattle.bits_law.specs.Keys.{meets}
use Rattle.column_index.specs.Asked.{asked_test, exactly, surely, maybe_so}
use Rattle.column_index.specs.Columns.{fits_kind, biased, has_i64, number_of, number_key}
use Rattle.column_index.specs.Kept.{is_number}
use Rattle.column_index.specs.declared.asked.Asked.{Asked}
use Rattle.query_meaning.specs.declared.expr.Literal.{Literal}
use Rattle.column_index.proofs.KindLemmas.{each_cell, is_network, is_partial, whole_sure, whole_maybe}

-- what is sure, and what may be, of times by the order of their seconds
abbrev surely_so : Rel → ℤ → ℤ → Bool
surely_so Ne t c = not (int_eq t c)
surely_so Lt t c = int_lt t c
surely_so Le t c = int_lt t c
surely_so Gt t c = int_lt c t
surely_so Ge t c = int_lt c t
surely_so _ t c = false

abbrev may_be_so : Rel → ℤ → ℤ → Bool
may_be_so Eq t c = int_eq t c
may_be_so Ne t c = true
may_be_so Lt t c = int_le t c
may_be_so Le t c = int_le t c
may_be_so Gt t c = int_le c t
may_be_so Ge t c = int_le c t
may_be_so _ t c = false

not_partial : (e : Elem) → is_number e ≡ true → elem_eq e elem.Time ≡ false → is_partial e ≡ false
not_partial elem.Count s t = refl
not_partial elem.Int s t = refl
not_partial elem.Span s t = refl
not_partial _ s t = absurd cc

-- a relation by the parts of an order
abbrev related : Rel → Bool → Bool → Bool → Bool
related Eq less same greater = same
related Ne less same greater = not same
related Lt less same greater = less
related Le less same greater = less || same
related Gt less same greater = greater
related Ge less same greater = greater || same
related _ less same greater = false

at_most : (m n : ℕ) → leb m n ≡ (ltb m n || eqb m n)
at_most m n = grind (arith, nat_tests)

at_least : (m n : ℕ) → leb n m ≡ (ltb n m || eqb m n)
at_least m n = grind (arith, nat_tests)

pub by_parts : (rel : Rel) (m n : ℕ) → asked_test (exactly rel n) m ≡ related rel (ltb m n) (eqb m n) (ltb n m)
by_parts Eq m n = refl
by_parts Ne m n = refl
by_parts Lt m n = refl
by_parts Le m n = at_most m n
by_parts Gt m n = refl
by_parts Ge m n = at_least m n
by_parts Within m n = refl
by_parts Contains m n = refl

less_number : (m n : ℕ) → is_less (Some (nat_cmp m n)) ≡ ltb m n
less_number m n = grind (arith, nat_tests)

greater_number : (m n : ℕ) → is_greater (Some (nat_cmp m n)) ≡ ltb n m
greater_number m n = grind (arith, nat_tests)

equal_number : (m n : ℕ) → is_equal (Some (nat_cmp m n)) ≡ eqb m n
equal_number m n = grind (arith, nat_tests)

turned : (m n : ℕ) → (n == m) ≡ eqb m n
turned m n = grind (arith, nat_tests)

-- the same tests of integers and of the numbers that stand for them
less_biased : (z c : ℤ) → is_i64 z ≡ true → is_i64 c ≡ true → ltb (biased z) (biased c) ≡ int_lt z c
less_biased (pos a) (pos b) h k = grind (arith, nat_tests)
less_biased (pos a) (negsuc b) h k = grind (arith, nat_tests)
less_biased (negsuc a) (pos b) h k = grind (arith, nat_tests)
less_biased (negsuc a) (negsuc b) h k = let m = ltb-true a (2 ^ 63) h in let n = ltb-true b (2 ^ 63) k in grind (arith, nat_tests, m, n)

at_most_biased : (z c : ℤ) → is_i64 z ≡ true → is_i64 c ≡ true → leb (biased z) (biased c) ≡ int_le z c
at_most_biased (pos a) (pos b) h k = grind (arith, nat_tests)
at_most_biased (pos a) (negsuc b) h k = grind (arith, nat_tests)
at_most_biased (negsuc a) (pos b) h k = grind (arith, nat_tests)
at_most_biased (negsuc a) (negsuc b) h k = let m = ltb-true a (2 ^ 63) h in let n = ltb-true b (2 ^ 63) k in grind (arith, nat_tests, m, n)

equal_by : (z c : ℤ) (less more : Bool) → int_lt z c ≡ less → int_lt c z ≡ more → int_eq z c ≡ (not less && not more)
equal_by z c true more h k = rw h refl
equal_by z c false true h k = rw (h, k) refl
equal_by z c false false h k = rw (h, k) refl

equal_biased : (z c : ℤ) → is_i64 z ≡ true → is_i64 c ≡ true → eqb (biased z) (biased c) ≡ int_eq z c
equal_biased z c h k =
    by_order (biased z) (biased c)
    ∙ ap (λ (b : Bool). not b && not (ltb (biased c) (biased z))) (less_biased z c h k)
    ∙ ap (λ (b : Bool). not (int_lt z c) && not b) (less_biased c z k h)
    ∙ sym (equal_by z c (int_lt z c) (int_lt c z) refl refl)
  where
    by_order : (m n : ℕ) → eqb m n ≡ (not (ltb m n) && not (ltb n m))
    by_order m n = grind (arith, nat_tests)

equal_back : (z c : ℤ) → int_eq c z ≡ int_eq z c
equal_back z c = equal_by c z (int_lt c z) (int_lt z c) refl refl ∙ swapped (int_lt c z) (int_lt z c) ∙ sym (equal_by z c (int_lt z c) (int_lt c z) refl refl)
  where
    swapped : (a b : Bool) → (not a && not b) ≡ (not b && not a)
    swapped true true = refl
    swapped true false = refl
    swapped false true = refl
    swapped false false = refl

small_seconds : (t : ℤ) → is_i64 t ≡ true → is_i64 (seconds t) ≡ true
small_seconds (pos a) h = let l = ltb-true a (2 ^ 63) h in lt-ltb (a / 1000000000) (2 ^ 63) (omega (arith, l))
small_seconds (negsuc a) h = let l = ltb-true a (2 ^ 63) h in lt-ltb (a / 1000000000) (2 ^ 63) (omega (arith, l))

-- a relation by parts that are the same
alike : (rel : Rel) (a b c x y z : Bool) → a ≡ x → b ≡ y → c ≡ z → related rel a b c ≡ related rel x y z
alike rel a b c x y z e f g = ap (λ (t : Bool). related rel t b c) e ∙ ap (λ (t : Bool). related rel x t c) f ∙ ap (related rel x y) g

count_parts : (rel : Rel) (n m : ℕ) → value_meets rel (value.Count n) (value.Count m) ≡ related rel (ltb m n) (eqb m n) (ltb n m)
count_parts Eq n m = turned m n
count_parts Ne n m = ap not (turned m n)
count_parts Lt n m = less_number m n
count_parts Le n m = ap (λ (b : Bool). b || is_equal (Some (nat_cmp m n))) (less_number m n) ∙ ap (λ (b : Bool). ltb m n || b) (equal_number m n)
count_parts Gt n m = greater_number m n
count_parts Ge n m = ap (λ (b : Bool). b || is_equal (Some (nat_cmp m n))) (greater_number m n) ∙ ap (λ (b : Bool). ltb n m || b) (equal_number m n)
count_parts Within n m = refl
count_parts Contains n m = refl

same_int : (z c : ℤ) → is_equal (Some (int_cmp z c)) ≡ int_eq z c
same_int z c = by_equal (int_cmp z c)

int_parts : (rel : Rel) (c z : ℤ) → value_meets rel (value.Int c) (value.Int z) ≡ related rel (int_lt z c) (int_eq z c) (int_lt c z)
int_parts Eq c z = equal_back z c
int_parts Ne c z = ap not (equal_back z c)
int_parts Lt c z = less_is z c
int_parts Le c z = ap (λ (b : Bool). b || is_equal (Some (int_cmp z c))) (less_is z c) ∙ ap (λ (b : Bool). int_lt z c || b) (same_int z c)
int_parts Gt c z = greater_is z c
int_parts Ge c z = ap (λ (b : Bool). b || is_equal (Some (int_cmp z c))) (greater_is z c) ∙ ap (λ (b : Bool). int_lt c z || b) (same_int z c)
int_parts Within c z = refl
int_parts Contains c z = refl

span_parts : (rel : Rel) (c z : ℤ) → value_meets rel (value.Span c) (value.Span z) ≡ related rel (int_lt z c) (int_eq z c) (int_lt c z)
span_parts Eq c z = equal_back z c
span_parts Ne c z = ap not (equal_back z c)
span_parts Lt c z = less_is z c
span_parts Le c z = ap (λ (b : Bool). b || is_equal (Some (int_cmp z c))) (less_is z c) ∙ ap (λ (b : Bool). int_lt z c || b) (same_int z c)
span_parts Gt c z = greater_is z c
span_parts Ge c z = ap (λ (b : Bool). b || is_equal (Some (int_cmp z c))) (greater_is z c) ∙ ap (λ (b : Bool). int_lt c z || b) (same_int z c)
span_parts Within c z = refl
span_parts Contains c z = refl

biased_parts : (rel : Rel) (c z : ℤ) → is_i64 c ≡ true → is_i64 z ≡ true → asked_test (exactly rel (biased c)) (biased z) ≡ related rel (int_lt z c) (int_eq z c) (int_lt c z)
biased_parts rel c z h k =
    by_parts rel (biased z) (biased c)
    ∙ alike rel _ _ _ _ _ _ (less_biased z c k h) (equal_biased z c k h) (less_biased c z h k)

-- of values that are known whole
exact_count : (rel : Rel) (literal : Value) (m : ℕ) → goes_with (elem_of literal) elem.Count ≡ true → asked_test (exactly rel (number_of literal)) m ≡ value_meets rel literal (value.Count m)
exact_count rel (value.Count n) m g = by_parts rel m n ∙ sym (count_parts rel n m)
exact_count rel _ m g = absurd cc

exact_int : (rel : Rel) (literal : Value) (z : ℤ) → goes_with (elem_of literal) elem.Int ≡ true → has_i64 literal ≡ true → is_i64 z ≡ true → asked_test (exactly rel (number_of literal)) (biased z) ≡ value_meets rel literal (value.Int z)
exact_int rel (value.Int c) z g h k = biased_parts rel c z h k ∙ sym (int_parts rel c z)
exact_int rel _ z g h k = absurd cc

exact_span : (rel : Rel) (literal : Value) (z : ℤ) → goes_with (elem_of literal) elem.Span ≡ true → has_i64 literal ≡ true → is_i64 z ≡ true → asked_test (exactly rel (number_of literal)) (biased z) ≡ value_meets rel literal (value.Span z)
exact_span rel (value.Span c) z g h k = biased_parts rel c z h k ∙ sym (span_parts rel c z)
exact_span rel _ z g h k = absurd cc

exact_value : (rel : Rel) (literal v : Value) → is_number (elem_of v) ≡ true → elem_eq (elem_of v) elem.Time ≡ false → goes_with (elem_of literal) (elem_of v) ≡ true → has_i64 literal ≡ true → is_ranged v ≡ true → asked_test (exactly rel (number_of literal)) (number_of v) ≡ value_meets rel literal v
exact_value rel literal (value.Count m) s t g h k = exact_count rel literal m g
exact_value rel literal (value.Int z) s t g h k = exact_int rel literal z g h k
exact_value rel literal (value.Span z) s t g h k = exact_span rel literal z g h k
exact_value rel literal _ s t g h k = absurd cc

-- what a test of the number says of a cell
abbrev Tells : Asked → Rel → Value → (Rel → Literal → Cell → Bool) → Cell → Type 0
Tells asked rel literal q x = meets (asked_test asked) (number_key x) ≡ q rel (Of literal) x

pub numbers_sure : (rel : Rel) (literal : Value) (e : Elem) → is_number e ≡ true → elem_eq e elem.Time ≡ false → goes_with (elem_of literal) e ≡ true → has_i64 literal ≡ true → (x : Cell) → fits_kind (kind.One e) x ≡ true → Tells (exactly rel (number_of literal)) rel literal sure_cell x
numbers_sure rel literal e s t g h = each_cell (Tells (exactly rel (number_of literal)) rel literal sure_cell) e refl (λ v same ranged.
    exact_value rel literal v (ap is_number same ∙ s) (ap (λ (k : Elem). elem_eq k elem.Time) same ∙ t) (ap (goes_with (elem_of literal)) same ∙ g) h ranged
    ∙ sym (whole_sure rel literal v (ap is_partial same ∙ not_partial e s t)))

pub numbers_maybe : (rel : Rel) (literal : Value) (e : Elem) → is_number e ≡ true → elem_eq e elem.Time ≡ false → goes_with (elem_of literal) e ≡ true → has_i64 literal ≡ true → (x : Cell) → fits_kind (kind.One e) x ≡ true → Tells (exactly rel (number_of literal)) rel literal maybe_cell x
numbers_maybe rel literal e s t g h = each_cell (Tells (exactly rel (number_of literal)) rel literal maybe_cell) e refl (λ v same ranged.
    exact_value rel literal v (ap is_number same ∙ s) (ap (λ (k : Elem). elem_eq k elem.Time) same ∙ t) (ap (goes_with (elem_of literal)) same ∙ g) h ranged
    ∙ sym (whole_maybe rel literal v (ap is_partial same ∙ not_partial e s t)))

-- of times
sure_parts : (rel : Rel) (c t : ℤ) → is_i64 c ≡ true → is_i64 t ≡ true → asked_test (surely rel (biased c)) (biased t) ≡ surely_so rel t c
sure_parts Ne c t h k = ap not (equal_biased t c k h)
sure_parts Lt c t h k = less_biased t c k h
sure_parts Le c t h k = less_biased t c k h
sure_parts Gt c t h k = less_biased c t h k
sure_parts Ge c t h k = less_biased c t h k
sure_parts _ c t h k = refl

maybe_parts : (rel : Rel) (c t : ℤ) → is_i64 c ≡ true → is_i64 t ≡ true → asked_test (maybe_so rel (biased c)) (biased t) ≡ may_be_so rel t c
maybe_parts Eq c t h k = equal_biased t c k h
maybe_parts Ne c t h k = refl
maybe_parts Lt c t h k = at_most_biased t c k h
maybe_parts Le c t h k = at_most_biased t c k h
maybe_parts Gt c t h k = at_most_biased c t h k
maybe_parts Ge c t h k = at_most_biased c t h k
maybe_parts _ c t h k = refl

sure_at : (rel : Rel) (c t : ℤ) → surely_so rel (seconds t) (seconds c) ≡ sure_time rel c t
sure_at Ne c t = refl
sure_at Lt c t = refl
sure_at Le c t = refl
sure_at Gt c t = refl
sure_at Ge c t = refl
sure_at _ c t = refl

maybe_at : (rel : Rel) (c t : ℤ) → may_be_so rel (seconds t) (seconds c) ≡ maybe_time rel c t
maybe_at Eq c t = refl
maybe_at Ne c t = refl
maybe_at Lt c t = refl
maybe_at Le c t = refl
maybe_at Gt c t = refl
maybe_at Ge c t = refl
maybe_at _ c t = refl

sure_value_time : (rel : Rel) (literal v : Value) → elem_of v ≡ elem.Time → goes_with (elem_of literal) elem.Time ≡ true → has_i64 literal ≡ true → is_ranged v ≡ true → asked_test (surely rel (number_of literal)) (number_of v) ≡ sure_value rel literal v
sure_value_time rel (value.Time c) (value.Time t) e g h k = sure_parts rel (seconds c) (seconds t) (small_seconds c h) (small_seconds t k) ∙ sure_at rel c t
sure_value_time rel _ (value.Time t) e g h k = absurd cc
sure_value_time rel literal _ e g h k = absurd cc

maybe_value_time : (rel : Rel) (literal v : Value) → elem_of v ≡ elem.Time → goes_with (elem_of literal) elem.Time ≡ true → has_i64 literal ≡ true → is_ranged v ≡ true → asked_test (maybe_so rel (number_of literal)) (number_of v) ≡ maybe_value rel literal v
maybe_value_time rel (value.Time c) (value.Time t) e g h k = maybe_parts rel (seconds c) (seconds t) (small_seconds c h) (small_seconds t k) ∙ maybe_at rel c t
maybe_value_time rel _ (value.Time t) e g h k = absurd cc
maybe_value_time rel literal _ e g h k = absurd cc

pub times_sure : (rel : Rel) (literal : Value) (e : Elem) → e ≡ elem.Time → goes_with (elem_of literal) e ≡ true → has_i64 literal ≡ true → (x : Cell) → fits_kind (kind.One e) x ≡ true → Tells (surely rel (number_of literal)) rel literal sure_cell x
times_sure rel literal e is g h = each_cell (Tells (surely rel (number_of literal)) rel literal sure_cell) e refl (λ v same ranged.
    sure_value_time rel literal v (same ∙ is) (ap (goes_with (elem_of literal)) (sym is) ∙ g) h ranged)

pub times_maybe : (rel : Rel) (literal : Value) (e : Elem) → e ≡ elem.Time → goes_with (elem_of literal) e ≡ true → has_i64 literal ≡ true → (x : Cell) → fits_kind (kind.One e) x ≡ true → Tells (maybe_so rel (number_of literal)) rel literal maybe_cell x
times_maybe rel literal e is g h = each_cell (Tells (maybe_so rel (number_of literal)) rel literal maybe_cell) e refl (λ v same ranged.
    maybe_value_time rel literal v (same ∙ is) (ap (goes_with (elem_of literal)) (sym is) ∙ g) h ranged)

pub no_network : (e : Elem) → is_number e ≡ true → is_network e ≡ false
no_network elem.Count h = refl
no_network elem.Int h = refl
no_network elem.Span h = refl
no_network elem.Time h = refl
no_network _ h = absurd cc
