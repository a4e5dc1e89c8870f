-- Keys by their digits in mixed bases, the lowest digit first, and what a digit index stands for.
use Rattle.std.specs.Prelude.{ℕ, ◌+◌, ◌-◌, ◌*◌, ◌/◌, ◌%◌, ◌<◌, ◌≤◌, Bool, true, false, List, [], ◌∷◌, length, Option, nat_eq, nat_lt, nat_le, if◌then◌else◌, slice_index, get_or, ◌≡◌}
use Rattle.bits_law.specs.Keys.{answers}
use Rattle.bits_law.specs.Contents.{Contents, HoldsKeys}
use Rattle.digit_index.specs.declared.coding.Coding.{Coding}
use Rattle.digit_index.specs.declared.coding.Coding.TheVariants.{Equality, Range}

-- at most 16 bases of 2 to 256
pub record AreBases (bases : List ℕ) : Type 0 where
  pub few : length bases ≤ 16
  pub least : (j : ℕ) → j < length bases → 2 ≤ slice_index bases j
  pub most : (j : ℕ) → j < length bases → slice_index bases j ≤ 256

-- the product of the bases: keys are below it
abbrev pub product : List ℕ → ℕ
product [] = 1
product (base ∷ bases) = base * product bases

-- how many bitmaps a digit has: one for each value, or one fewer
abbrev pub columns_of : Coding → ℕ → ℕ
columns_of Equality base = base
columns_of Range base = base - 1

-- whether a digit is in the bitmap of a value: it is the value, or at most the value
abbrev pub is_coded : Coding → ℕ → ℕ → Bool
is_coded Equality value digit = nat_eq digit value
is_coded Range value digit = nat_le digit value

-- how many bitmaps all digits have
abbrev pub width : Coding → List ℕ → ℕ
width coding [] = 0
width coding (base ∷ bases) = columns_of coding base + width coding bases

-- column j of a key: the bitmaps of the lowest digit come first, and then those of the rest of the key
abbrev pub digit_bit : Coding → List ℕ → ℕ → ℕ → Bool
digit_bit coding [] j key = false
digit_bit coding (base ∷ bases) j key =
    if nat_lt j (columns_of coding base) then is_coded coding j (key % base)
    else digit_bit coding bases (j - columns_of coding base) (key / base)

-- a key is below the product of the bases
abbrev pub IsBelow : List ℕ → ℕ → Type 0
IsBelow bases key = key < product bases

-- the columns are those of the keys' digits, and each key is below the product of the bases
abbrev pub Holds : Coding → List ℕ → Contents → List (Option ℕ) → Type 0
Holds coding bases table keys = HoldsKeys (width coding bases) (digit_bit coding bases) (IsBelow bases) table keys

-- some columns are those of one digit of the keys
pub record HoldsDigit (coding : Coding) (base : ℕ) (digit : ℕ → ℕ) (present : List Bool) (columns : List (List Bool)) (keys : List (Option ℕ)) : Type 0 where
  pub rows : present ≡ answers (λ _. true) keys
  pub column : (value : ℕ) → value < columns_of coding base → get_or columns value [] ≡ answers (λ key. is_coded coding value (digit key)) keys
  pub small : (key : ℕ) → digit key < base
