-- Which columns a name picks.
use Rattle.std.specs.Prelude.{ℕ, Bool, ◌||◌, List, ◌∷◌, ◌++◌, nat_eq}
use Rattle.std.specs.List.{ends_with}
use Rattle.std.specs.Str.{bytes_eq}

-- path, dot and column
abbrev pub full_name : List ℕ → List ℕ → List ℕ
full_name path column = path ++ 46 ∷ column

-- The full name of the column is the name, or ends with a dot and the name.
abbrev pub is_named : List ℕ → List ℕ → List ℕ → Bool
is_named path column name =
    bytes_eq name (full_name path column) || ends_with nat_eq (full_name path column) (46 ∷ name)
