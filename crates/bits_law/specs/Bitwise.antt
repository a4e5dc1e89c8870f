-- Bitmaps as lists of bools.
use Rattle.std.specs.Prelude.{◌≡◌, ◌≢◌, ℕ, zero, suc, ◌/◌, ◌%◌, ◌<◌, ◌≤◌, Bool, true, false, List, [], ◌∷◌, Some, slice_get, not, ◌&&◌, nat_eq}

-- two lists joined bit by bit, up to the end of the shorter one
abbrev pub bitwise : (Bool → Bool → Bool) → List Bool → List Bool → List Bool
bitwise f [] ys = []
bitwise f (x ∷ xs) [] = []
bitwise f (x ∷ xs) (y ∷ ys) = f x y ∷ bitwise f xs ys

-- the first bit, and not the second
abbrev pub and_not : Bool → Bool → Bool
and_not x y = x && not y

-- `at` is the first one from `from` on
pub record IsNextOne (bits : List Bool) (from at : ℕ) : Type 0 where
  pub after : from ≤ at
  pub one : slice_get bits at ≡ Some true
  pub first : (k : ℕ) → from ≤ k → k < at → slice_get bits k ≡ Some false

-- no one stands from `from` on
abbrev pub IsClearFrom : List Bool → ℕ → Type 0
IsClearFrom bits from = (k : ℕ) → from ≤ k → slice_get bits k ≢ Some true

-- the `n` lowest bits of a word, the lowest first
unfoldable pub bits_below : ℕ → ℕ → List Bool
bits_below w zero = []
bits_below w (suc n) = nat_eq (w % 2) 1 ∷ bits_below (w / 2) n
