-- What a program keeps as bytes are bytes.
use Rattle.std.proofs.Common.{◌≡◌, ℕ, suc, ◌<◌, ◌≤◌, ◌^◌, List, [], ◌∷◌, true, refl, length, get_or, Fits, w8, arith, IsTrue}
use Rattle.std.proofs.Math.Facts.{Fits-lt-pow}
use Rattle.std.proofs.lemmas.Bool.{lt-ltb, le-leb}
use Rattle.std.specs.List.{list_all}
use Rattle.vast_value.specs.Fit.{is_byte, is_short}

below_256 : (n : ℕ) → Fits w8 n → n < 256
below_256 n h = Fits-lt-pow h

pub each_byte : (xs : List ℕ) → ((i : ℕ) → Fits w8 (get_or xs i 0)) → list_all is_byte xs ≡ true
each_byte [] h = refl
each_byte (x ∷ xs) h = grind (arith, each_byte xs (λ i. h (suc i)), lt-ltb x 256 (below_256 x (h 0)))

-- a text of at most 2^24 bytes is short
pub short_text : (xs : List ℕ) → length xs ≤ 2 ^ 24 → ((i : ℕ) → Fits w8 (get_or xs i 0)) → IsTrue (is_short xs)
short_text xs few fit = grind (arith, le-leb (length xs) (2 ^ 24) few, each_byte xs fit)
