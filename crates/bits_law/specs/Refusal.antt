-- When a bitmap, or an index over bitmaps, refuses to grow.
use Rattle.std.specs.Prelude.{ℕ, ◌+◌, ◌-◌, ◌^◌, min, nat_lt, if◌then◌else◌}
use Rattle.bits_law.specs.declared.bits.BitsEnd.{BitsEnd}
use Rattle.bits_law.specs.declared.bits.BitsEnd.TheVariants.{TooLong, Memory}

-- why `more` bits aren't appended to `have`: they would pass 2^40 bits, or else memory ran out
abbrev pub refusal : ℕ → ℕ → BitsEnd
refusal have more = if nat_lt (2 ^ 40) (have + more) then TooLong have more else Memory

-- how many rows a key at `row` adds to `have` rows, as a number of 64 bits
abbrev pub rows_to : ℕ → ℕ → ℕ
rows_to have row = min (row - have + 1) (2 ^ 64 - 1)
