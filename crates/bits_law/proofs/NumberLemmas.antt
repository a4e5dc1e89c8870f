-- Rows of answers, and numbers that are read a bit at a time.
use Rattle.std.proofs.Common.{◌≡◌, ℕ, ◌+◌, ◌-◌, ◌*◌, ◌/◌, ◌%◌, ◌^◌, ◌<◌, Bool, true, false, cond, eqb, ltb, leb, List, [], ◌∷◌, length, get_or, take, replicate, refl, ap, sym, ◌∙◌, subst, arith, not, ◌&&◌, ◌||◌}
use Rattle.std.proofs.lemmas.Grind.{fold-append, pow_more}
use Rattle.std.proofs.Math.Nat.{div-div-eq-div-mul}
use Rattle.std.proofs.lemmas.Bool.Decides.{nat_tests}
use Rattle.std.proofs.lemmas.List.{take_more, get_or-replicate, length-replicate}
use Rattle.bits_law.specs.Bitwise.{bitwise, and_not}
use Rattle.bits_law.specs.Numbers.{then_bit, number_at, IsAnswer}
use Rattle.bits_law.proofs.BitwiseLemmas.{length-bitwise, get_or-bitwise}

pub IsAnswer-and : (a s p : List Bool) (f : ℕ → Bool) → length s ≡ length p → IsAnswer a p f → IsAnswer (bitwise ◌&&◌ a s) p (λ i. f i && get_or s i false)
IsAnswer-and a s p f e h = record {
  rows = length-bitwise ◌&&◌ a s (h.rows ∙ sym e) ∙ h.rows;
  each = λ i l. get_or-bitwise ◌&&◌ a s i (omega (arith, h.rows)) (h.rows ∙ sym e) ∙ ap (λ x. x && get_or s i false) (h.each i l) ∙ and_assoc (get_or p i false) (f i) (get_or s i false);
}
  where
    and_assoc : (x y z : Bool) → ((x && y) && z) ≡ (x && (y && z))
    and_assoc true y z = refl
    and_assoc false y z = refl

pub IsAnswer-and_not : (a s p : List Bool) (f : ℕ → Bool) → length s ≡ length p → IsAnswer a p f → IsAnswer (bitwise and_not a s) p (λ i. f i && not (get_or s i false))
IsAnswer-and_not a s p f e h = record {
  rows = length-bitwise and_not a s (h.rows ∙ sym e) ∙ h.rows;
  each = λ i l. get_or-bitwise and_not a s i (omega (arith, h.rows)) (h.rows ∙ sym e) ∙ ap (λ x. and_not x (get_or s i false)) (h.each i l) ∙ and_assoc (get_or p i false) (f i) (not (get_or s i false));
}
  where
    and_assoc : (x y z : Bool) → ((x && y) && z) ≡ (x && (y && z))
    and_assoc true y z = refl
    and_assoc false y z = refl

pub IsAnswer-or : (a b p : List Bool) (f g : ℕ → Bool) → IsAnswer a p f → IsAnswer b p g → IsAnswer (bitwise ◌||◌ a b) p (λ i. f i || g i)
IsAnswer-or a b p f g h k = record {
  rows = length-bitwise ◌||◌ a b (h.rows ∙ sym k.rows) ∙ h.rows;
  each = λ i l. get_or-bitwise ◌||◌ a b i (omega (arith, h.rows)) (h.rows ∙ sym k.rows) ∙ ap (λ x. x || get_or b i false) (h.each i l) ∙ ap (λ x. (get_or p i false && f i) || x) (k.each i l) ∙ spread (get_or p i false) (f i) (g i);
}
  where
    spread : (x y z : Bool) → ((x && y) || (x && z)) ≡ (x && (y || z))
    spread true y z = refl
    spread false y z = refl

pub IsAnswer-others : (a p : List Bool) (f : ℕ → Bool) → IsAnswer a p f → IsAnswer (bitwise and_not p a) p (λ i. not (f i))
IsAnswer-others a p f h = record {
  rows = length-bitwise and_not p a (sym h.rows);
  each = λ i l. get_or-bitwise and_not p a i l (sym h.rows) ∙ ap (λ x. and_not (get_or p i false) x) (h.each i l) ∙ rest (get_or p i false) (f i);
}
  where
    rest : (x y : Bool) → (x && not (x && y)) ≡ (x && not y)
    rest true y = refl
    rest false y = refl

pub IsAnswer-same : (a p : List Bool) (f g : ℕ → Bool) → ((i : ℕ) → i < length p → f i ≡ g i) → IsAnswer a p f → IsAnswer a p g
IsAnswer-same a p f g e h = record { rows = h.rows; each = λ i l. h.each i l ∙ ap (λ x. get_or p i false && x) (e i l) }

-- all rows, and none
pub IsAnswer-all : (p : List Bool) → IsAnswer p p (λ _. true)
IsAnswer-all p = record { rows = refl; each = λ i l. with_true (get_or p i false) }
  where
    with_true : (x : Bool) → x ≡ (x && true)
    with_true true = refl
    with_true false = refl

pub IsAnswer-none : (p : List Bool) → IsAnswer (replicate (length p) false) p (λ _. false)
IsAnswer-none p = record { rows = length-replicate (length p) false; each = λ i l. get_or-replicate (length p) i false false l ∙ with_false (get_or p i false) }
  where
    with_false : (x : Bool) → false ≡ (x && false)
    with_false true = refl
    with_false false = refl

-- one more slice is read
pub number_at-more : (slices : List (List Bool)) (j row : ℕ) → j < length slices → number_at (take (j + 1) slices) row ≡ then_bit (number_at (take j slices) row) (get_or (get_or slices j []) row false)
number_at-more slices j row l =
    ap (λ ss. number_at ss row) (take_more slices j [] l)
    ∙ fold-append (λ n slice. then_bit n (get_or slice row false)) 0 (take j slices) (get_or slices j [] ∷ [])

below_one : (p k : ℕ) (s : Bool) → ltb (then_bit p s) (2 * k + 1) ≡ (ltb p k || (eqb p k && not s))
below_one p k true = grind (arith, nat_tests)
below_one p k false = grind (arith, nat_tests)

below_zero : (p k : ℕ) (s : Bool) → ltb (then_bit p s) (2 * k) ≡ ltb p k
below_zero p k true = grind (arith, nat_tests)
below_zero p k false = grind (arith, nat_tests)

equal_one : (p k : ℕ) (s : Bool) → eqb (then_bit p s) (2 * k + 1) ≡ (eqb p k && s)
equal_one p k true = grind (arith, nat_tests)
equal_one p k false = grind (arith, nat_tests)

equal_zero : (p k : ℕ) (s : Bool) → eqb (then_bit p s) (2 * k) ≡ (eqb p k && not s)
equal_zero p k true = grind (arith, nat_tests)
equal_zero p k false = grind (arith, nat_tests)

-- the rows that are below the key, and those that are equal, once one more bit of both is read
pub below_more : (p k : ℕ) (s bit : Bool) → bit ≡ eqb (k % 2) 1 → cond bit (ltb p (k / 2) || (eqb p (k / 2) && not s)) (ltb p (k / 2)) ≡ ltb (then_bit p s) k
below_more p k s true e =
    let h : 2 * (k / 2) + 1 ≡ k = grind (arith, nat_tests) in
    sym (below_one p (k / 2) s) ∙ ap (λ x. ltb (then_bit p s) x) h
below_more p k s false e =
    let h : 2 * (k / 2) ≡ k = grind (arith, nat_tests) in
    sym (below_zero p (k / 2) s) ∙ ap (λ x. ltb (then_bit p s) x) h

pub equal_more : (p k : ℕ) (s bit : Bool) → bit ≡ eqb (k % 2) 1 → (eqb p (k / 2) && cond bit s (not s)) ≡ eqb (then_bit p s) k
equal_more p k s true e =
    let h : 2 * (k / 2) + 1 ≡ k = grind (arith, nat_tests) in
    sym (equal_one p (k / 2) s) ∙ ap (λ x. eqb (then_bit p s) x) h
equal_more p k s false e =
    let h : 2 * (k / 2) ≡ k = grind (arith, nat_tests) in
    sym (equal_zero p (k / 2) s) ∙ ap (λ x. eqb (then_bit p s) x) h

pub at_most : (n k : ℕ) → (ltb n k || eqb n k) ≡ leb n k
at_most n k = grind (arith, nat_tests)

pub at_least : (n k : ℕ) → not (ltb n k) ≡ leb k n
at_least n k = grind (arith, nat_tests)

pub above : (n k : ℕ) → not (ltb n k || eqb n k) ≡ ltb k n
above n k = grind (arith, nat_tests)

pub half_key : (key n j : ℕ) → j < n → key / 2 ^ (n - (j + 1)) / 2 ≡ key / 2 ^ (n - j)
half_key key n j l =
    let e : n - j ≡ n - (j + 1) + 1 = omega arith in
    let p : 2 ^ (n - (j + 1) + 1) ≡ 2 ^ (n - (j + 1)) * 2 = pow_more 2 (n - (j + 1)) in
    div-div-eq-div-mul key (2 ^ (n - (j + 1))) 2 ∙ ap (λ x. key / x) (sym p) ∙ ap (λ x. key / 2 ^ x) (sym e)

-- the rows below the key, after one more slice
pub narrowed_below : (below equal slice present more : List Bool) (slices : List (List Bool)) (j k half : ℕ) (bit : Bool) → slice ≡ get_or slices j [] → j < length slices → length slice ≡ length present → bit ≡ eqb (k % 2) 1 → k / 2 ≡ half → more ≡ cond bit (bitwise ◌||◌ below (bitwise and_not equal slice)) below → IsAnswer below present (λ row. ltb (number_at (take j slices) row) half) → IsAnswer equal present (λ row. eqb (number_at (take j slices) row) half) → IsAnswer more present (λ row. ltb (number_at (take (j + 1) slices) row) k)
narrowed_below below equal slice present more slices j k half bit s l e b h m under same =
    subst (λ xs. IsAnswer xs present (λ row. ltb (number_at (take (j + 1) slices) row) k)) (sym m) (at_bit bit b)
  where
    next : (bit : Bool) (row : ℕ) → bit ≡ eqb (k % 2) 1 → cond bit (ltb (number_at (take j slices) row) half || (eqb (number_at (take j slices) row) half && not (get_or slice row false))) (ltb (number_at (take j slices) row) half) ≡ ltb (number_at (take (j + 1) slices) row) k
    next bit row b = rw (← h, s) (below_more (number_at (take j slices) row) k (get_or (get_or slices j []) row false) bit b ∙ ap (λ x. ltb x k) (sym (number_at-more slices j row l)))

    at_bit : (bit : Bool) → bit ≡ eqb (k % 2) 1 → IsAnswer (cond bit (bitwise ◌||◌ below (bitwise and_not equal slice)) below) present (λ row. ltb (number_at (take (j + 1) slices) row) k)
    at_bit true b = IsAnswer-same _ _ _ _ (λ row _. next true row b) (IsAnswer-or below (bitwise and_not equal slice) present _ _ under (IsAnswer-and_not equal slice present _ e same))
    at_bit false b = IsAnswer-same _ _ _ _ (λ row _. next false row b) under

-- the rows equal to the key, after one more slice
pub narrowed_equal : (equal slice present more : List Bool) (slices : List (List Bool)) (j k half : ℕ) (bit : Bool) → slice ≡ get_or slices j [] → j < length slices → length slice ≡ length present → bit ≡ eqb (k % 2) 1 → k / 2 ≡ half → more ≡ cond bit (bitwise ◌&&◌ equal slice) (bitwise and_not equal slice) → IsAnswer equal present (λ row. eqb (number_at (take j slices) row) half) → IsAnswer more present (λ row. eqb (number_at (take (j + 1) slices) row) k)
narrowed_equal equal slice present more slices j k half bit s l e b h m same =
    subst (λ xs. IsAnswer xs present (λ row. eqb (number_at (take (j + 1) slices) row) k)) (sym m) (at_bit bit b)
  where
    next : (bit : Bool) (row : ℕ) → bit ≡ eqb (k % 2) 1 → (eqb (number_at (take j slices) row) half && cond bit (get_or slice row false) (not (get_or slice row false))) ≡ eqb (number_at (take (j + 1) slices) row) k
    next bit row b = rw (← h, s) (equal_more (number_at (take j slices) row) k (get_or (get_or slices j []) row false) bit b ∙ ap (λ x. eqb x k) (sym (number_at-more slices j row l)))

    at_bit : (bit : Bool) → bit ≡ eqb (k % 2) 1 → IsAnswer (cond bit (bitwise ◌&&◌ equal slice) (bitwise and_not equal slice)) present (λ row. eqb (number_at (take (j + 1) slices) row) k)
    at_bit true b = IsAnswer-same _ _ _ _ (λ row _. next true row b) (IsAnswer-and equal slice present _ e same)
    at_bit false b = IsAnswer-same _ _ _ _ (λ row _. next false row b) (IsAnswer-and_not equal slice present _ e same)

-- the answer of each relation, of the rows below the key and those equal to it
pub le_answer : (answer below equal present : List Bool) (number : ℕ → ℕ) (key : ℕ) → answer ≡ bitwise ◌||◌ below equal → IsAnswer below present (λ row. ltb (number row) key) → IsAnswer equal present (λ row. eqb (number row) key) → IsAnswer answer present (λ row. leb (number row) key)
le_answer answer below equal present number key e b s =
    subst (λ xs. IsAnswer xs present (λ row. leb (number row) key)) (sym e)
    (IsAnswer-same _ _ _ _ (λ row _. at_most (number row) key) (IsAnswer-or below equal present _ _ b s))

pub ge_answer : (answer below present : List Bool) (number : ℕ → ℕ) (key : ℕ) → answer ≡ bitwise and_not present below → IsAnswer below present (λ row. ltb (number row) key) → IsAnswer answer present (λ row. leb key (number row))
ge_answer answer below present number key e b =
    subst (λ xs. IsAnswer xs present (λ row. leb key (number row))) (sym e)
    (IsAnswer-same _ _ _ _ (λ row _. at_least (number row) key) (IsAnswer-others below present _ b))

pub ne_answer : (answer equal present : List Bool) (number : ℕ → ℕ) (key : ℕ) → answer ≡ bitwise and_not present equal → IsAnswer equal present (λ row. eqb (number row) key) → IsAnswer answer present (λ row. not (eqb (number row) key))
ne_answer answer equal present number key e s =
    subst (λ xs. IsAnswer xs present (λ row. not (eqb (number row) key))) (sym e) (IsAnswer-others equal present _ s)

pub gt_answer : (answer most present : List Bool) (number : ℕ → ℕ) (key : ℕ) → answer ≡ bitwise and_not present most → IsAnswer most present (λ row. leb (number row) key) → IsAnswer answer present (λ row. ltb key (number row))
gt_answer answer most present number key e m =
    subst (λ xs. IsAnswer xs present (λ row. ltb key (number row))) (sym e)
    (IsAnswer-same _ _ _ _ (λ row _. beyond (number row) key) (IsAnswer-others most present _ m))
  where
    beyond : (n k : ℕ) → not (leb n k) ≡ ltb k n
    beyond n k = grind (arith, nat_tests)
