-- The names of views, and which of two histories is the longer.
use Rattle.std.proofs.Common.{◌≡◌, ◌≢◌, ℕ, zero, suc, ◌+◌, ◌<◌, ◌≤◌, ◌⊎◌, Bool, if◌then◌else◌, List, [], ◌∷◌, ◌++◌, length, get_or, Contains, sym, refl, ap, subst, ◌∙◌, inl, inr, ⊎_elim, lt_of_not-le, eq-eqb, ne_eqb, arith}
use borrow.Author.Tests.{le-leb, lt-leb}
use native.Mathlib.Decide.{ℕ_discrete, dec_le}
use Rattle.std.proofs.lemmas.List.Elements.{Contains-append_left, Contains-append_right, Contains-append_cases}
use Rattle.turn_book.specs.Histories.{Outside, GrowsByOthers, longer}
use Rattle.turn_book.specs.Steps.{without}
use Rattle.turn_book.proofs.Lists.{between, left_part, right_part}

pub none_named : (n : ℕ) → ¬ Contains [] n
none_named n c = let lt : c.0 < 0 = c.1 in omega arith

single_at : (x n k : ℕ) → k < 1 → get_or (x ∷ []) k n ≡ n → n ≡ x
single_at x n zero lt e = sym e
single_at x n (suc k) lt e = absurd (omega arith)

-- the one name of a list
pub single : (x n : ℕ) → Contains (x ∷ []) n → n ≡ x
single x n c = single_at x n c.0 c.1 c.2

pub named_first : (x : ℕ) (xs : List ℕ) → Contains (x ∷ xs) x
named_first x xs = (0, omega arith, refl)

pub without_keeps : (k n : ℕ) (l : List ℕ) → n ≢ k → Contains l n → Contains (without k l) n
without_keeps k n [] ne c = absurd (none_named n c)
without_keeps k n (x ∷ xs) ne c = elim (ℕ_discrete x k) [
  | yes e ↦ subst (λ (b : Bool). Contains (if b then xs else (x ∷ without k xs)) n) (sym (eq-eqb x k e))
      (⊎_elim (λ (t : Contains (x ∷ []) n). absurd (ne (single x n t ∙ e))) (λ (t : Contains xs n). t) (Contains-append_cases (x ∷ []) xs n c))
  | no nx ↦ subst (λ (b : Bool). Contains (if b then xs else (x ∷ without k xs)) n) (sym (ne_eqb x k nx))
      (⊎_elim (λ (t : Contains (x ∷ []) n). Contains-append_left (x ∷ []) (without k xs) n t) (λ (t : Contains xs n). Contains-append_right (x ∷ []) (without k xs) n (without_keeps k n xs ne t)) (Contains-append_cases (x ∷ []) xs n c))
]

pub length-without : (k : ℕ) (l : List ℕ) → Contains l k → length (without k l) + 1 ≡ length l
length-without k [] c = absurd (none_named k c)
length-without k (x ∷ xs) c = elim (ℕ_discrete x k) [
  | yes e ↦ subst (λ (b : Bool). length (if b then xs else (x ∷ without k xs)) + 1 ≡ length (x ∷ xs)) (sym (eq-eqb x k e)) (let r : length xs + 1 ≡ length (x ∷ xs) = omega arith in r)
  | no nx ↦ subst (λ (b : Bool). length (if b then xs else (x ∷ without k xs)) + 1 ≡ length (x ∷ xs)) (sym (ne_eqb x k nx))
      (⊎_elim (λ (t : Contains (x ∷ []) k). absurd (nx (sym (single x k t)))) (λ (t : Contains xs k). let h = length-without k xs t in let r : length (x ∷ without k xs) + 1 ≡ length (x ∷ xs) = omega arith in r) (Contains-append_cases (x ∷ []) xs k c))
]

module _ (E : Type 0) where
  pub longer_of : (p q : List E) → ((length p ≤ length q) × (longer p q ≡ q)) ⊎ ((length q ≤ length p) × (longer p q ≡ p))
  longer_of p q = elim (dec_le (length p) (length q)) [
    | yes d ↦ inl (d, ap (λ (b : Bool). if b then q else p) (le-leb (length p) (length q) d))
    | no n ↦ let lt : length q < length p = lt_of_not-le n in inr (omega arith, ap (λ (b : Bool). if b then q else p) (lt-leb (length p) (length q) lt))
  ]

  module _ (maker : E → ℕ) where
    -- the longer of two beginnings goes on from the shorter as the history does
    pub between_grows : (names : List ℕ) (p q log : List E) (qs : List E) → GrowsByOthers maker names p log → log ≡ q ++ qs → length p ≤ length q → GrowsByOthers maker names p q
    between_grows names p q log qs g e le = let b = between p q g.0 qs (sym g.1 ∙ e) le in (b.0, b.1, left_part E (λ x. ¬ Contains names (maker x)) b.0 qs (subst (Outside maker names) b.2 g.2))

    -- what comes past the longer one is of neither
    pub longer_grows : (names more : List ℕ) (p q log : List E) → GrowsByOthers maker names p log → GrowsByOthers maker more q log → GrowsByOthers maker (names ++ more) (longer p q) log
    longer_grows names more p q log a b = ⊎_elim
        (λ (t : (length p ≤ length q) × (longer p q ≡ q)). let m = between p q a.0 b.0 (sym a.1 ∙ b.1) t.0 in subst (λ l. GrowsByOthers maker (names ++ more) l log) (sym t.1)
        (b.0, b.1, both b.0 (right_part E (λ x. ¬ Contains names (maker x)) m.0 b.0 (subst (Outside maker names) m.2 a.2)) b.2))
        (λ (t : (length q ≤ length p) × (longer p q ≡ p)). let m = between q p b.0 a.0 (sym b.1 ∙ a.1) t.0 in subst (λ l. GrowsByOthers maker (names ++ more) l log) (sym t.1)
        (a.0, a.1, both a.0 a.2 (right_part E (λ x. ¬ Contains more (maker x)) m.0 a.0 (subst (Outside maker more) m.2 b.2))))
        (longer_of p q)
      where
        both : (l : List E) → Outside maker names l → Outside maker more l → Outside maker (names ++ more) l
        both l x y i d lt c = ⊎_elim (λ (t : Contains names (maker (get_or l i d))). x i d lt t) (λ (t : Contains more (maker (get_or l i d))). y i d lt t) (Contains-append_cases names more _ c)

    pub longer_not_shorter : (p q : List E) → (length p ≤ length (longer p q)) × (length q ≤ length (longer p q))
    longer_not_shorter p q = ⊎_elim
        (λ (t : (length p ≤ length q) × (longer p q ≡ q)). let e : length (longer p q) ≡ length q = ap length t.1 in let le = t.0 in (omega arith, omega arith))
        (λ (t : (length q ≤ length p) × (longer p q ≡ p)). let e : length (longer p q) ≡ length p = ap length t.1 in let le = t.0 in (omega arith, omega arith))
        (longer_of p q)
