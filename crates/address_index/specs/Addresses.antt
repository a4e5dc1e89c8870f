-- What an address index stands for.
use Rattle.std.specs.Prelude.{◌≡◌, ℕ, ◌-◌, ◌/◌, ◌^◌, ◌<◌, ◌≤◌, Bool, true, List, [], length, get_or, Option, nat_eq}
use Rattle.bits_law.specs.Keys.{answers, EachKey}
use Rattle.bits_law.specs.Numbers.{has_bit}
use Rattle.bits_law.specs.Contents.{Contents, HoldsKeys}

-- column j: a bit of the address, the highest first
abbrev pub address_bit : ℕ → ℕ → Bool
address_bit j address = has_bit address (127 - j)

-- an address has 128 bits
abbrev pub IsAddress : ℕ → Type 0
IsAddress address = address < 2 ^ 128

-- whether the first `bits` bits of two addresses agree
abbrev pub within : ℕ → ℕ → ℕ → Bool
within base bits address = nat_eq (address / 2 ^ (128 - bits)) (base / 2 ^ (128 - bits))

-- the columns are those of the addresses
abbrev pub Holds : Contents → List (Option ℕ) → Type 0
Holds table keys = HoldsKeys 128 address_bit IsAddress table keys

-- the first 128 columns are those of the addresses
pub record HasAddresses (table : Contents) (keys : List (Option ℕ)) : Type 0 where
  pub wide : 128 ≤ length table.columns
  pub present : table.present ≡ answers (λ _. true) keys
  pub column : (j : ℕ) → j < 128 → get_or table.columns j [] ≡ answers (address_bit j) keys
  pub each : EachKey IsAddress keys
