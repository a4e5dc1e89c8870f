-- What a slice index stands for.
use Rattle.std.specs.Prelude.{ℕ, ◌-◌, ◌^◌, ◌<◌, Bool, List, Option}
use Rattle.bits_law.specs.Numbers.{has_bit}
use Rattle.bits_law.specs.Contents.{Contents, HoldsKeys}

-- the bit of a key in slice j, the highest slice first
abbrev pub slice_bit : ℕ → ℕ → ℕ → Bool
slice_bit width j key = has_bit key (width - 1 - j)

-- a key has at most `width` bits
abbrev pub IsNarrow : ℕ → ℕ → Type 0
IsNarrow width key = key < 2 ^ width

-- the slices are those of the keys, each of which has at most `width` bits
abbrev pub Holds : ℕ → Contents → List (Option ℕ) → Type 0
Holds width table keys = HoldsKeys width (slice_bit width) (IsNarrow width) table keys
