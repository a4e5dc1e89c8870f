-- A read from memory.
use Rattle.std.proofs.Common.{◌≡◌, ℕ, ◌+◌, List, ◌++◌, Option, None, Some, length, take, drop, refl, ap, sym, ◌∙◌, subst, append_assoc}
use Rattle.std.specs.Io.KnownBytes.{prepend_known}
use Rattle.std.proofs.lemmas.List.{take-append-drop, drop-drop}
use Rattle.std.proofs.Math.Seq.{take-append_seam}

-- n elements copied to the front of a buffer are its first n
pub front_copied : (n : ℕ) (copied behind : List ℕ) → length copied ≡ n → take n (copied ++ behind) ≡ copied
front_copied n copied behind len = subst (λ (k : ℕ). take k (copied ++ behind) ≡ copied) len (take-append_seam copied behind)

-- the first n bytes of what was left, and then those behind them, are what was left
pub left_rejoined : (n at : ℕ) (bytes given : List ℕ) → given ≡ take n (drop at bytes) → given ++ drop (at + n) bytes ≡ drop at bytes
left_rejoined n at bytes given is =
    ap (λ (front : List ℕ). front ++ drop (at + n) bytes) is
    ∙ ap (λ (back : List ℕ). take n (drop at bytes) ++ back) (sym (drop-drop n at bytes))
    ∙ take-append-drop n (drop at bytes)

-- one text and then another before what is left
pub prepend_behind : (a b : List ℕ) (left : Option (List ℕ)) → prepend_known a (prepend_known b left) ≡ prepend_known (a ++ b) left
prepend_behind a b None = refl
prepend_behind a b (Some xs) = ap Some (sym (append_assoc a b xs))
