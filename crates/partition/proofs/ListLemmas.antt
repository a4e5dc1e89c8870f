-- Reads of lists that grew by one, or in which one element was set.
use Rattle.std.proofs.Common.{◌≡◌, ◌≢◌, ◌⊎◌, ℕ, zero, suc, ◌<◌, ◌≤◌, true, false, List, [], ◌∷◌, ◌++◌, None, Some, is_some, length, map, slice_get, slice_index_or, nat_lt, refl, ap, sym, ◌∙◌, arith, inl, inr}
use Rattle.std.proofs.lemmas.Bool.Decides.{nat_tests}
use Rattle.std.proofs.Math.ListN.{set}

pub read_more : {X : Type 0} (xs : List X) (y x : X) (b : ℕ) → b < length (xs ++ y ∷ []) → x ≡ slice_index_or (xs ++ y ∷ []) b x
    → ((b < length xs) × (x ≡ slice_index_or xs b x)) ⊎ ((b ≡ length xs) × (x ≡ y))
read_more [] y x zero h e = inr (refl, e)
read_more [] y x (suc b) h e = absurd (omega (arith, h))
read_more (z ∷ xs) y x zero h e = inl (omega arith, e)
read_more (z ∷ xs) y x (suc b) h e =
    elim (read_more xs y x b (omega (arith, h)) e) as (λ _. ((suc b < length (z ∷ xs)) × (x ≡ slice_index_or (z ∷ xs) (suc b) x)) ⊎ ((suc b ≡ length (z ∷ xs)) × (x ≡ y)))
    [ inl r ↦ inl (omega (arith, r.0), r.1) | inr r ↦ inr (omega (arith, r.0), r.1) ]

pub read_set : {X : Type 0} (xs : List X) (i : ℕ) (y x : X) (b : ℕ) → b < length (set xs i y) → x ≡ slice_index_or (set xs i y) b x
    → ((b ≡ i) × (x ≡ y)) ⊎ ((b ≢ i) × (b < length xs) × (x ≡ slice_index_or xs b x))
read_set [] i y x b h e = absurd (omega (arith, h))
read_set (z ∷ xs) zero y x zero h e = inl (refl, e)
read_set (z ∷ xs) zero y x (suc b) h e = inr ((λ same. omega arith), omega (arith, h), e)
read_set (z ∷ xs) (suc i) y x zero h e = inr ((λ same. omega arith), omega arith, e)
read_set (z ∷ xs) (suc i) y x (suc b) h e =
    elim (read_set xs i y x b (omega (arith, h)) e) as (λ _. ((suc b ≡ suc i) × (x ≡ y)) ⊎ ((suc b ≢ suc i) × (suc b < length (z ∷ xs)) × (x ≡ slice_index_or (z ∷ xs) (suc b) x)))
    [ inl r ↦ inl (omega (arith, r.0), r.1) | inr r ↦ inr ((λ same. r.0 (omega arith)), omega (arith, r.1), r.2) ]

pub get_front : {X : Type 0} (xs ys : List X) (i : ℕ) → i < length xs → slice_get (xs ++ ys) i ≡ slice_get xs i
get_front [] ys i h = absurd (omega (arith, h))
get_front (x ∷ xs) ys zero h = refl
get_front (x ∷ xs) ys (suc i) h = get_front xs ys i (omega (arith, h))

pub get_next : {X : Type 0} (xs ys : List X) (y : X) (i : ℕ) → i ≡ length xs → slice_get (xs ++ y ∷ ys) i ≡ Some y
get_next [] ys y zero e = refl
get_next [] ys y (suc i) e = absurd (omega (arith, e))
get_next (x ∷ xs) ys y zero e = absurd (omega (arith, e))
get_next (x ∷ xs) ys y (suc i) e = get_next xs ys y i (omega (arith, e))

pub get_within : {X : Type 0} (xs : List X) (i : ℕ) → is_some (slice_get xs i) ≡ true → i < length xs
get_within [] i e = absurd cc
get_within (x ∷ xs) zero e = omega arith
get_within (x ∷ xs) (suc i) e = let rest : i < length xs = get_within xs i e in omega arith

pub get_past : {X : Type 0} (xs : List X) (i : ℕ) → length xs ≤ i → slice_get xs i ≡ None
get_past [] i h = refl
get_past (x ∷ xs) zero h = absurd (omega (arith, h))
get_past (x ∷ xs) (suc i) h = get_past xs i (omega (arith, h))

pub read_get : {X : Type 0} (xs : List X) (x : X) (i : ℕ) → i < length xs → x ≡ slice_index_or xs i x → slice_get xs i ≡ Some x
read_get [] x i h e = absurd (omega (arith, h))
read_get (y ∷ xs) x zero h e = ap (λ (z : _). Some z) (sym e)
read_get (y ∷ xs) x (suc i) h e = read_get xs x i (omega (arith, h)) e

pub got_none : {X : Type 0} (xs : List X) (i : ℕ) → slice_get xs i ≡ None → length xs ≤ i
got_none [] i e = omega arith
got_none (x ∷ xs) zero e = absurd cc
got_none (x ∷ xs) (suc i) e = let rest : length xs ≤ i = got_none xs i e in omega arith

pub not_below : (a b : ℕ) → false ≡ nat_lt a b → b ≤ a
not_below a b h = grind (arith, nat_tests)

-- the element at a place within a list, as indexing gives it
pub at_index : {X : Type 0} (xs : List X) (i : ℕ) → i < length xs → (x : X) × (x ≡ slice_index_or xs i x)
at_index [] i h = absurd (omega (arith, h))
at_index (x ∷ xs) zero h = (x, refl)
at_index (x ∷ xs) (suc i) h = at_index xs i (omega (arith, h))

pub same_element : {X : Type 0} (xs : List X) (i : ℕ) (x y : X) → i < length xs → x ≡ slice_index_or xs i x → y ≡ slice_index_or xs i y → x ≡ y
same_element [] i x y h e f = absurd (omega (arith, h))
same_element (z ∷ xs) zero x y h e f = e ∙ sym f
same_element (z ∷ xs) (suc i) x y h e f = same_element xs i x y (omega (arith, h)) e f

pub index_map : {X Y : Type 0} (f : X → Y) (xs : List X) (i : ℕ) (x : X) → i < length xs → x ≡ slice_index_or xs i x → f x ≡ slice_index_or (map f xs) i (f x)
index_map f [] i x h e = absurd (omega (arith, h))
index_map f (y ∷ ys) zero x h e = ap f e
index_map f (y ∷ ys) (suc i) x h e = index_map f ys i x (omega (arith, h)) e
