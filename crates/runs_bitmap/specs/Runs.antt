-- Runs of ones, and the bits that they stand for.
use Rattle.std.specs.Prelude.{ℕ, ◌+◌, ◌-◌, ◌<◌, ◌≤◌, max, Bool, true, false, not, ◌&&◌, ◌||◌, List, [], ◌∷◌, ◌++◌, replicate, nat_le, nat_lt, if◌then◌else◌}
use Rattle.bits_law.specs.Bitwise.{and_not}
use Rattle.runs_bitmap.specs.declared.run.Run.{Run}
use Rattle.runs_bitmap.specs.declared.combine.Ones.{Ones}
use Rattle.runs_bitmap.specs.declared.combine.Ones.TheVariants.{OfBoth, OfEither, OfFirstAlone, OfNotFirst}

-- the bits from `at` up to `len`: ones in the runs, and zeros between them
abbrev pub rendered : ℕ → List Run → ℕ → List Bool
rendered at [] len = replicate (len - at) false
rendered at (r ∷ rs) len = replicate (r.start - at) false ++ (replicate (r.end - max at r.start) true ++ rendered r.end rs len)

-- sorted runs from `least` up to `len`, none of them empty, that never touch each other
abbrev pub AreApart : ℕ → List Run → ℕ → Type 0
AreApart least [] len = Unit {0}
AreApart least (r ∷ rs) len = (least ≤ r.start) × (r.start < r.end) × (r.end ≤ len) × AreApart (r.end + 1) rs len

-- the same, where `at` may lie within the first run
abbrev pub AreAhead : ℕ → List Run → ℕ → Type 0
AreAhead at [] len = Unit {0}
AreAhead at (r ∷ rs) len = (at < r.end) × (r.start < r.end) × (r.end ≤ len) × AreApart (r.end + 1) rs len

-- the bit at `at`
abbrev pub bit_at : ℕ → List Run → Bool
bit_at at [] = false
bit_at at (r ∷ rs) = nat_le r.start at

-- how many bits from `at` on are as the one there
abbrev pub stretch_at : ℕ → List Run → ℕ → ℕ
stretch_at at [] len = len - at
stretch_at at (r ∷ rs) len = if nat_lt at r.start then r.start - at else r.end - at

-- the runs that are left `n` bits further on, within a stretch
abbrev pub runs_after : ℕ → List Run → List Run
runs_after at [] = []
runs_after at (r ∷ rs) = if nat_lt at r.end then r ∷ rs else rs

-- where the last run ends, or `at` where there is none
abbrev pub reach : ℕ → List Run → ℕ
reach at [] = at
reach at (r ∷ rs) = reach r.end rs

-- the least place where a next run begins without touching the last one
abbrev pub free_from : ℕ → List Run → ℕ
free_from least [] = least
free_from least (r ∷ rs) = free_from (r.end + 1) rs

-- how two bits are joined
abbrev pub joins : Ones → Bool → Bool → Bool
joins OfBoth x y = x && y
joins OfEither x y = x || y
joins OfFirstAlone x y = and_not x y
joins OfNotFirst x y = not x
