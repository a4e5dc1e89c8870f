-- A subnet is read from what stands before the slash and behind it.
use Rattle.std.proofs.Common.{◌≡◌, ℕ, List, take, drop, ap, ◌∙◌, arith}
use Rattle.std.proofs.lemmas.List.{drop-drop}
use Rattle.std.specs.List.{position_or_len, before_first, after_first}
use Rattle.value_reading.specs.Addresses.{is_slash, dotted_of, grouped_of, subnet_from, subnet_of}

pub subnet_cut : (text address rest bits : List ℕ) (k : ℕ) → k ≡ position_or_len is_slash text → address ≡ take k text → rest ≡ drop k text → bits ≡ drop 1 rest
    → subnet_from (dotted_of address) (grouped_of address) bits ≡ subnet_of text
subnet_cut text address rest bits k at front back behind =
    let e : bits ≡ after_first is_slash text = behind ∙ ap (drop 1) back ∙ drop-drop 1 k text ∙ ap (λ j. drop j text) (omega arith) in
    let f : address ≡ before_first is_slash text = front ∙ ap (λ j. take j text) at in
    ap (subnet_from (dotted_of address) (grouped_of address)) e
    ∙ ap (λ xs. subnet_from (dotted_of xs) (grouped_of xs) (after_first is_slash text)) f
