-- Entries under numbers, and the same entries with their values told.
use Rattle.std.proofs.Common.{◌≡◌, ℕ, ◌+◌, true, false, cond, List, [], ◌∷◌, map, length, nat_eq, None, Some, refl, ap, arith}
use Rattle.std.specs.Map.{keys_of, lookup, lookup_entry, remove_entry}
use Rattle.std.proofs.lemmas.Bool.{eqb-true}

module _ {X Y : Type 0} (g : X → Y) where
  abbrev told : ℕ × X → ℕ × Y
  told e = (e.0, g e.1)

  pub keys_told : (es : List (ℕ × X)) → keys_of (map told es) ≡ keys_of es
  keys_told [] = refl
  keys_told (e ∷ es) = ap (λ ks. e.0 ∷ ks) (keys_told es)

  pub length_told : (es : List (ℕ × X)) → length (map told es) ≡ length es
  length_told [] = refl
  length_told (e ∷ es) = omega (arith, length_told es)

  pub remove_told : (n : ℕ) (es : List (ℕ × X)) → remove_entry (nat_eq n) (map told es)
      ≡ map told (remove_entry (nat_eq n) es)
  remove_told n [] = refl
  remove_told n (e ∷ es) = elim (nat_eq n e.0)
      as (λ y. cond y (map told es) (told e ∷ remove_entry (nat_eq n) (map told es))
      ≡ map told (cond y es (e ∷ remove_entry (nat_eq n) es))) [
        | true ↦ refl
        | false ↦ ap (λ rest. told e ∷ rest) (remove_told n es)
      ]

module _ {X : Type 0} (n : ℕ) where
  -- the entry that a look-up finds
  pub found_entry : (es : List (ℕ × X)) (x : X) → lookup (nat_eq n) es ≡ Some x
      → lookup_entry (nat_eq n) es ≡ Some (n, x)
  found_entry [] x h = cc
  found_entry (e ∷ es) x h = (elim (nat_eq n e.0) as (λ y. nat_eq n e.0 ≡ y
      → cond y (Some e.1) (lookup (nat_eq n) es) ≡ Some x
      → cond y (Some e) (lookup_entry (nat_eq n) es) ≡ Some (n, x)) [
        | true ↦ λ t same.
            let number : n ≡ e.0 = eqb-true n e.0 t in
            let value : e.1 ≡ x = cc in
            rw (number, ← value) refl
        | false ↦ λ t on. found_entry es x on
      ]) refl h

  pub absent_entry : (es : List (ℕ × X)) → lookup (nat_eq n) es ≡ None → lookup_entry (nat_eq n) es ≡ None
  absent_entry [] h = refl
  absent_entry (e ∷ es) h = (elim (nat_eq n e.0) as (λ y. cond y (Some e.1) (lookup (nat_eq n) es) ≡ None
      → cond y (Some e) (lookup_entry (nat_eq n) es) ≡ None) [
        | true ↦ λ same. cc
        | false ↦ λ on. absent_entry es on
      ]) h

  pub absent_removed : (es : List (ℕ × X)) → lookup (nat_eq n) es ≡ None → remove_entry (nat_eq n) es ≡ es
  absent_removed [] h = refl
  absent_removed (e ∷ es) h = (elim (nat_eq n e.0) as (λ y. cond y (Some e.1) (lookup (nat_eq n) es) ≡ None
      → cond y es (e ∷ remove_entry (nat_eq n) es) ≡ e ∷ es) [
        | true ↦ λ same. cc
        | false ↦ λ on. ap (λ rest. e ∷ rest) (absent_removed es on)
      ]) h

  pub found_removed : (es : List (ℕ × X)) (x : X) → lookup (nat_eq n) es ≡ Some x
      → length (remove_entry (nat_eq n) es) + 1 ≡ length es
  found_removed [] x h = cc
  found_removed (e ∷ es) x h = (elim (nat_eq n e.0) as (λ y. cond y (Some e.1) (lookup (nat_eq n) es) ≡ Some x
      → length (cond y es (e ∷ remove_entry (nat_eq n) es)) + 1 ≡ length (e ∷ es)) [
        | true ↦ λ same. omega arith
        | false ↦ λ on. omega (arith, found_removed es x on)
      ]) h
