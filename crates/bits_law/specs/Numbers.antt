-- Numbers that slices spell, one bit in each slice.
use Rattle.std.specs.Prelude.{◌≡◌, ℕ, ◌+◌, ◌*◌, ◌/◌, ◌%◌, ◌^◌, ◌<◌, Bool, false, List, length, get_or, fold, not, ◌&&◌, if◌then◌else◌, nat_eq, nat_lt, nat_le}
use Rattle.bits_law.specs.declared.slices.Order.{Order}
use Rattle.bits_law.specs.declared.slices.Order.TheVariants.{Eq, Ne, Lt, Le, Gt, Ge}

-- whether the bit `at` of a number is set, the lowest being bit 0
abbrev pub has_bit : ℕ → ℕ → Bool
has_bit n at = nat_eq (n / 2 ^ at % 2) 1

-- a binary number with one more digit
abbrev pub then_bit : ℕ → Bool → ℕ
then_bit n bit = 2 * n + (if bit then 1 else 0)

-- the number at a row, whose bits are read from the slices, the highest first
abbrev pub number_at : List (List Bool) → ℕ → ℕ
number_at slices row = fold (λ n slice. then_bit n (get_or slice row false)) 0 slices

-- whether a number stands in the relation to a key
abbrev pub holds : Order → ℕ → ℕ → Bool
holds Eq n key = nat_eq n key
holds Ne n key = not (nat_eq n key)
holds Lt n key = nat_lt n key
holds Le n key = nat_le n key
holds Gt n key = nat_lt key n
holds Ge n key = nat_le key n

-- an answer has a bit for each row: whether the row is present and meets the test
pub record IsAnswer (answer present : List Bool) (test : ℕ → Bool) : Type 0 where
  pub rows : length answer ≡ length present
  pub each : (row : ℕ) → row < length present → get_or answer row false ≡ (get_or present row false && test row)
