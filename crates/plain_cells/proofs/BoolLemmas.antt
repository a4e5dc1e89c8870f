-- `T` and `F`.
use Rattle.std.proofs.Common.{◌≡◌, ◌⊎◌, ℕ, ◌≤◌, List, [], ◌∷◌, length, take, get_or, refl, subst, sym, arith, inl, inr}
use Rattle.std.specs.Prelude.{IsSome}
use Rattle.value_reading.specs.Reading.{bool_of}
use Rattle.plain_cells.proofs.ReadableLemmas.{has_none}

pub bool_read : (text : List ℕ) → 1 ≤ length text → (get_or text 0 0 ≡ 84) ⊎ (get_or text 0 0 ≡ 70) → IsSome (bool_of (take 1 text)) × has_none (take 1 text)
bool_read [] some is = absurd (omega arith)
bool_read (b ∷ bs) some is = elim is [
  | inl is_t ↦ subst (λ (x : ℕ). IsSome (bool_of (x ∷ [])) × has_none (x ∷ [])) (sym is_t) (refl, refl)
  | inr is_f ↦ subst (λ (x : ℕ). IsSome (bool_of (x ∷ [])) × has_none (x ∷ [])) (sym is_f) (refl, refl)
]
