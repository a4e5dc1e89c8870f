-- What a set index stands for.
use Rattle.std.specs.Prelude.{◌-◌, ◌^◌, ◌<◌, ℕ, Bool, List, Option}
use Rattle.bits_law.specs.Numbers.{has_bit}
use Rattle.bits_law.specs.Contents.{Contents, HoldsKeys}

-- whether a key takes a bucket: one bit for each
abbrev pub takes : ℕ → ℕ → Bool
takes bucket key = has_bit key bucket

-- the buckets that a key takes are a number of 64 bits
abbrev pub IsBuckets : ℕ → Type 0
IsBuckets key = key < 2 ^ 64

-- column j is bucket 63 - j
abbrev pub bucket_bit : ℕ → ℕ → Bool
bucket_bit j key = takes (63 - j) key

-- column j has the rows whose key takes bucket 63 - j
abbrev pub Holds : Contents → List (Option ℕ) → Type 0
Holds table keys = HoldsKeys 64 bucket_bit IsBuckets table keys
