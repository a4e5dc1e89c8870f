-- A name that is no shorter than the full name of a column stands behind no dot in it.
use Rattle.std.proofs.Common.{◌≡◌, ℕ, ◌+◌, ◌-◌, ◌<◌, ◌≤◌, Bool, false, ◌||◌, List, ◌∷◌, length, drop, nat_eq, ap, sym, ◌∙◌, arith}
use Rattle.std.specs.Cmp.Lexicographic.{unequal}
use Rattle.std.proofs.Math.Bool.{or-false}
use Rattle.std.specs.List.{ends_with}
use Rattle.std.specs.Str.{bytes_eq}
use Rattle.std.proofs.lemmas.List.{length-drop, length-append}
use Rattle.query_meaning.specs.Picks.{full_name, is_named}

no_dot : (full name : List ℕ) → length full ≤ length name → ends_with nat_eq full (46 ∷ name) ≡ false
no_dot full name short =
    unequal nat_eq (46 ∷ name) (drop (length full - length (46 ∷ name)) full)
    (λ same. omega (arith, length-drop (length full - length (46 ∷ name)) full, same))

pub named_whole : (path column name : List ℕ) (b : Bool) → length (full_name path column) ≤ length name
    → b ≡ bytes_eq name (full_name path column) → b ≡ is_named path column name
named_whole path column name b short is =
    is ∙ sym (ap (λ (d : Bool). bytes_eq name (full_name path column) || d) (no_dot (full_name path column) name short)
    ∙ or-false (bytes_eq name (full_name path column)))

pub full_length : (path column : List ℕ) → length (full_name path column) ≡ length path + 1 + length column
full_length path column = length-append path (46 ∷ column) ∙ omega arith

pub named_longer : (path column name : List ℕ) → length path + 1 + length column < length name → false ≡ is_named path column name
named_longer path column name long =
    named_whole path column name false (omega (arith, full_length path column))
    (sym (unequal nat_eq name (full_name path column) (λ same. omega (arith, full_length path column, same))))
