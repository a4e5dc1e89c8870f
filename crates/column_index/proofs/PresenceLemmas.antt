-- Rows of which the last are counted.
use Rattle.std.proofs.Common.{◌≡◌, ℕ, ◌+◌, ◌-◌, ◌≤◌, Bool, true, List, [], ◌∷◌, ◌++◌, length, replicate, ap, sym, ◌∙◌, arith}
use Rattle.std.proofs.lemmas.List.{append_assoc, replicate-append-replicate}

-- rows that are counted, behind others
pub counted_behind : (bits behind : List Bool) (rows more : ℕ) → length bits ≤ rows → length behind ≡ 0 → bits ++ replicate (rows + more - length bits) true ≡ (bits ++ replicate (rows - length bits) true) ++ (behind ++ replicate (more - length behind) true)
counted_behind bits [] rows more within none =
    let sum : rows + more - length bits ≡ (rows - length bits) + more = omega (arith, within) in
    ap (λ (n : ℕ). bits ++ replicate n true) sum
    ∙ ap (λ (xs : List Bool). bits ++ xs) (sym (replicate-append-replicate (rows - length bits) more true))
    ∙ sym (append_assoc bits (replicate (rows - length bits) true) (replicate more true))
    ∙ ap (λ (n : ℕ). (bits ++ replicate (rows - length bits) true) ++ replicate n true) (omega arith)
counted_behind bits (b ∷ bs) rows more within none = absurd cc
