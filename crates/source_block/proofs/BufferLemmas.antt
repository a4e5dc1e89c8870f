-- Bytes between two places of a memory.
use Rattle.std.proofs.Common.{◌≡◌, ℕ, ◌+◌, ◌≤◌, List, ◌++◌, length, take, drop, ap, sym, ◌∙◌, arith}
use Rattle.std.proofs.lemmas.List.{drop-drop, drop-append-le, take-append-le}
use Rattle.std.proofs.Math.Seq.{take-append-add}

pub drop_more : (at count : ℕ) (bytes : List ℕ) → drop (at + count) bytes ≡ drop count (drop at bytes)
drop_more at count bytes = sym (drop-drop count at bytes)

-- some bytes came behind those in front
pub came_behind : (start end n : ℕ) (memory front into rest : List ℕ) → front ≡ take end memory → length front ≡ end → start ≤ end → n ≤ length into
    → drop start (take (end + n) (front ++ (into ++ rest))) ≡ drop start (take end memory) ++ take n into
came_behind start end n memory front into rest is len low within =
    ap (drop start) (ap (λ (k : ℕ). take (k + n) (front ++ (into ++ rest))) (sym len)
    ∙ take-append-add front (into ++ rest) n
    ∙ ap (λ (xs : List ℕ). front ++ xs) (take-append-le n into rest within))
    ∙ drop-append-le start front (take n into) (omega arith)
    ∙ ap (λ (xs : List ℕ). drop start xs ++ take n into) is
