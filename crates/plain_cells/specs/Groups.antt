-- Groups of an address, as they stand in a text.
use Rattle.std.specs.Prelude.{◌≡◌, ℕ, ◌-◌, ◌≤◌, Bool, true, ◌&&◌, List, [], ◌∷◌, ◌++◌, length, take, drop, nat_le, nat_lt}
use Rattle.std.specs.List.{list_all}
use Rattle.value_reading.specs.Addresses.{is_hexadecimal}

-- one to four hexadecimal digits
abbrev pub is_group : List ℕ → Bool
is_group piece = nat_lt 0 (length piece) && (nat_le (length piece) 4 && list_all is_hexadecimal piece)

-- groups with a colon between two
abbrev pub with_colons : List (List ℕ) → List ℕ
with_colons [] = []
with_colons (group ∷ []) = group
with_colons (group ∷ (next ∷ more)) = group ++ 58 ∷ with_colons (next ∷ more)

-- So many groups with a colon between two, or nothing, stand in a text from one place on and before another.
pub record AreGroups (text : List ℕ) (from to count : ℕ) : Type 0 where
  pub within : to ≤ length text
  pub low : from ≤ to
  pub groups : List (List ℕ)
  pub are : list_all is_group groups ≡ true
  pub long : length groups ≡ count
  pub is : take (to - from) (drop from text) ≡ with_colons groups

-- groups with a colon behind each
abbrev pub colon_behind : List (List ℕ) → List ℕ
colon_behind [] = []
colon_behind (group ∷ more) = group ++ 58 ∷ colon_behind more

-- So many groups with a colon behind each stand there.
pub record AreBegun (text : List ℕ) (from to count : ℕ) : Type 0 where
  pub low : from ≤ to
  pub groups : List (List ℕ)
  pub are : list_all is_group groups ≡ true
  pub long : length groups ≡ count
  pub is : take (to - from) (drop from text) ≡ colon_behind groups
