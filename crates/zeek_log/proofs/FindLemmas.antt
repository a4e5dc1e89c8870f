-- No newline among bytes, and others came behind, or none.
use Rattle.std.proofs.Common.{◌≡◌, ℕ, ◌≤◌, Bool, true, None, subst, List, ◌++◌, length, sym, ◌∙◌}
use Rattle.std.proofs.lemmas.List.{get_or_append_left}
use Rattle.memchr.specs.Find.{IsFirstByte, Nowhere, Passes, is_byte}

pub none_still : (p : ℕ → Bool) (a b : List ℕ) → Nowhere (Passes p a) 0 (length a) → Nowhere (Passes p (a ++ b)) 0 (length a)
none_still p a b none j low high passes =
    none j low high (subst (λ (x : ℕ). p x ≡ true) (get_or_append_left a b 0 j high) passes)

pub none_there : (seen old new : List ℕ) → seen ≡ old → new ≡ old → IsFirstByte (is_byte 10) seen None → IsFirstByte (is_byte 10) new None
none_there seen old new is same none = subst (λ (xs : List ℕ). IsFirstByte (is_byte 10) xs None) (is ∙ sym same) none

pub few_there : (seen old new : List ℕ) → seen ≡ old → new ≡ old → length seen ≤ 1048576 → length new ≤ 1048576
few_there seen old new is same few = subst (λ (xs : List ℕ). length xs ≤ 1048576) (is ∙ sym same) few
