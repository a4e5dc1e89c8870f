-- Lists of views, of names and of entries.
use Rattle.std.proofs.Common.{◌≡◌, ◌≢◌, ℕ, zero, suc, ◌<◌, ◌≤◌, ◌⊎◌, List, [], ◌∷◌, ◌++◌, length, set, All, sym, refl, ap, subst, ◌∙◌, inl, inr, ⊎_elim, arith}
use mathlib.Core.Option.{some-injective, some-ne-none}
use Rattle.std.proofs.lemmas.List.Elements.{All-nil, All-cons, All-head, All-tail}
use Rattle.atomic_table.proofs.Lists.{at_set}
use Rattle.turn_book.specs.Turns.{At}

module _ (V : Type 0) where
  -- `P` of each view after one has changed
  pub each : (P : ℕ → V → Type 0) (l : List V) (i : ℕ) (w : V) → P i w → ((j : ℕ) (v : V) → j ≢ i → At l j v → P j v) → (j : ℕ) (v : V) → At (set l i w) j v → P j v
  each P l i w mine others j v e = ⊎_elim (λ (t : (j ≡ i) × (w ≡ v)). subst (λ (x : ℕ × V). P x.0 x.1) (λ i. (sym t.0 i, t.1 i)) mine)
      (λ (t : (j ≢ i) × (At l j v)). others j v t.0 t.1) (at_set l i j w v e)

  -- a fact of two views, which is symmetric
  pub pairs : (P : V → V → Type 0) (l : List V) (id : ℕ) (w : V) → ((i j : ℕ) (v u : V) → At l i v → At l j u → P v u → i ≡ j)
      → ((j : ℕ) (u : V) → j ≢ id → At l j u → P w u → ⊥) → ((j : ℕ) (u : V) → j ≢ id → At l j u → P u w → ⊥)
      → (i j : ℕ) (v u : V) → At (set l id w) i v → At (set l id w) j u → P v u → i ≡ j
  pairs P l id w old one two i j v u a b p = ⊎_elim
      (λ (t : (i ≡ id) × (w ≡ v)). ⊎_elim (λ (q : (j ≡ id) × (w ≡ u)). t.0 ∙ sym q.0) (λ (q : (j ≢ id) × (At l j u)). absurd (one j u q.0 q.1 (subst (λ (x : V). P x u) (sym t.1) p))) (at_set l id j w u b))
      (λ (t : (i ≢ id) × (At l i v)). ⊎_elim (λ (q : (j ≡ id) × (w ≡ u)). absurd (two i v t.0 t.1 (subst (λ (x : V). P v x) (sym q.1) p))) (λ (q : (j ≢ id) × (At l j u)). old i j v u t.1 q.1 p) (at_set l id j w u b))
      (at_set l id i w v a)

  pub index_below : (l : List V) (j : ℕ) (v : V) → At l j v → j < length l
  index_below [] j v e = absurd (some-ne-none v (sym e))
  index_below (x ∷ xs) zero v e = omega arith
  index_below (x ∷ xs) (suc j) v e = let h = index_below xs j v e in omega arith

  -- the last view has the list's length for its index
  pub at_end : (l : List V) (w : V) (j : ℕ) (v : V) → At (l ++ w ∷ []) j v → (At l j v) ⊎ ((j ≡ length l) × (w ≡ v))
  at_end [] w zero v e = inr (refl, some-injective w v e)
  at_end [] w (suc j) v e = absurd (some-ne-none v (sym e))
  at_end (x ∷ xs) w zero v e = inl e
  at_end (x ∷ xs) w (suc j) v e = ⊎_elim (λ (t : At xs j v). inl t) (λ (t : (j ≡ length xs) × (w ≡ v)). inr (ap suc t.0, t.1)) (at_end xs w j v e)

  -- `P` of each view after one has come
  pub each_end : (P : ℕ → V → Type 0) (l : List V) (w : V) → P (length l) w → ((j : ℕ) (v : V) → At l j v → P j v) → (j : ℕ) (v : V) → At (l ++ w ∷ []) j v → P j v
  each_end P l w mine others j v e = ⊎_elim (λ (t : At l j v). others j v t)
      (λ (t : (j ≡ length l) × (w ≡ v)). subst (λ (x : ℕ × V). P x.0 x.1) (λ i. (sym t.0 i, t.1 i)) mine) (at_end l w j v e)

  -- a fact of two views, which is symmetric, and not of the one that comes with another
  pub pairs_end : (P : V → V → Type 0) (l : List V) (w : V) → ((i j : ℕ) (v u : V) → At l i v → At l j u → P v u → i ≡ j)
      → ((j : ℕ) (u : V) → At l j u → P w u → ⊥) → ((j : ℕ) (u : V) → At l j u → P u w → ⊥)
      → (i j : ℕ) (v u : V) → At (l ++ w ∷ []) i v → At (l ++ w ∷ []) j u → P v u → i ≡ j
  pairs_end P l w old one two i j v u a b p = ⊎_elim
      (λ (t : At l i v). ⊎_elim (λ (q : At l j u). old i j v u t q p) (λ (q : (j ≡ length l) × (w ≡ u)). absurd (two i v t (subst (λ (x : V). P v x) (sym q.1) p))) (at_end l w j u b))
      (λ (t : (i ≡ length l) × (w ≡ v)). ⊎_elim (λ (q : At l j u). absurd (one j u q (subst (λ (x : V). P x u) (sym t.1) p))) (λ (q : (j ≡ length l) × (w ≡ u)). t.0 ∙ sym q.0) (at_end l w j u b))
      (at_end l w i v a)

module _ (X : Type 0) (P : X → Type 0) where
  pub left_part : (xs ys : List X) → All P (xs ++ ys) → All P xs
  left_part [] ys h = All-nil P
  left_part (x ∷ xs) ys h = All-cons P x xs (All-head P x (xs ++ ys) h) (left_part xs ys (All-tail P x (xs ++ ys) h))

  pub right_part : (xs ys : List X) → All P (xs ++ ys) → All P ys
  right_part [] ys h = h
  right_part (x ∷ xs) ys h = right_part xs ys (All-tail P x (xs ++ ys) h)

-- where nothing can be an element, there is none
pub none_of : (X : Type 0) (xs : List X) → All (λ x. ⊥) xs → xs ≡ []
none_of X [] h = refl
none_of X (x ∷ xs) h = absurd (All-head (λ x. ⊥) x xs h)

abbrev pub tail : {X : Type 0} → List X → List X
tail [] = []
tail (x ∷ xs) = xs

abbrev pub head_or : {X : Type 0} → X → List X → X
head_or d [] = d
head_or d (x ∷ xs) = x

-- of two beginnings of one list the shorter begins the longer
pub between : {X : Type 0} (p q rp rq : List X) → p ++ rp ≡ q ++ rq → length p ≤ length q → (mid : List X) × (q ≡ p ++ mid) × (rp ≡ mid ++ rq)
between [] q rp rq e l = (q, refl, e)
between (x ∷ p) [] rp rq e l = absurd (omega arith)
between (x ∷ p) (y ∷ q) rp rq e l = let b = between p q rp rq (ap tail e) (omega arith) in let h : x ≡ y = ap (head_or x) e in (b.0, (λ i. sym h i ∷ b.1 i), b.2)
