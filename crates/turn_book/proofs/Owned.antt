-- The entries of a history that some seats made.
use Rattle.std.proofs.Common.{◌≡◌, ◌≢◌, ℕ, ◌==◌, ◌||◌, Bool, true, false, cond, List, [], ◌∷◌, ◌++◌, All, Contains, sym, refl, ap, subst, ◌∙◌, ⊎_elim, append-nil, eq-eqb, ne_eqb}
use native.Mathlib.Decide.{ℕ_discrete}
use Rattle.std.specs.List.{list_any}
use Rattle.std.proofs.lemmas.List.Elements.{All-head, All-tail, Contains-append_right, Contains-append_cases, filter-append}
use Rattle.turn_book.specs.Histories.{Outside, own_of}
use Rattle.turn_book.proofs.Names.{none_named, single, named_first}

test_none : (n : ℕ) (names : List ℕ) → ¬ Contains names n → list_any (λ k. k == n) names ≡ false
test_none n [] not = refl
test_none n (x ∷ xs) not = let ne : x ≢ n = λ e. not (subst (Contains (x ∷ xs)) e (named_first x xs)) in
    let rest = test_none n xs (λ c. not (Contains-append_right (x ∷ []) xs n c)) in λ i. ne_eqb x n ne i || rest i

test_some : (n : ℕ) (names : List ℕ) → Contains names n → list_any (λ k. k == n) names ≡ true
test_some n [] c = absurd (none_named n c)
test_some n (x ∷ xs) c = elim (ℕ_discrete x n) [
  | yes e ↦ ap (λ (b : Bool). b || list_any (λ k. k == n) xs) (eq-eqb x n e)
  | no ne ↦ ⊎_elim (λ (t : Contains (x ∷ []) n). absurd (ne (sym (single x n t)))) (λ (t : Contains xs n). λ i. ne_eqb x n ne i || test_some n xs t i) (Contains-append_cases (x ∷ []) xs n c)
]

module _ (E : Type 0) (maker : E → ℕ) (names : List ℕ) where
  pub own-others : (l : List E) → Outside maker names l → own_of maker names l ≡ []
  own-others [] h = refl
  own-others (x ∷ xs) h = let rest = own-others xs (All-tail (λ e. ¬ Contains names (maker e)) x xs h) in
      ap (λ (b : Bool). cond b (x ∷ own_of maker names xs) (own_of maker names xs)) (test_none (maker x) names (All-head (λ e. ¬ Contains names (maker e)) x xs h)) ∙ rest

  pub own-own : (l : List E) → All (λ e. Contains names (maker e)) l → own_of maker names l ≡ l
  own-own [] h = refl
  own-own (x ∷ xs) h = let rest = own-own xs (All-tail (λ e. Contains names (maker e)) x xs h) in
      ap (λ (b : Bool). cond b (x ∷ own_of maker names xs) (own_of maker names xs)) (test_some (maker x) names (All-head (λ e. Contains names (maker e)) x xs h)) ∙ ap (λ l. x ∷ l) rest

  pub own-append : (p q : List E) → own_of maker names (p ++ q) ≡ own_of maker names p ++ own_of maker names q
  own-append p q = filter-append (λ e. list_any (λ n. n == maker e) names) p q

  -- what others and then some of these made adds just the latter
  pub own-turn : (seen since new : List E) → Outside maker names since → All (λ e. Contains names (maker e)) new → own_of maker names (seen ++ since ++ new) ≡ own_of maker names seen ++ new
  own-turn seen since new others own = own-append (seen ++ since) new
      ∙ (λ i. ((own-append seen since ∙ (ap (λ l. own_of maker names seen ++ l) (own-others since others) ∙ append-nil (own_of maker names seen))) i) ++ own-own new own i)
