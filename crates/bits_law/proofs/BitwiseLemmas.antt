-- Lengths and bits of lists that are joined bit by bit.
use Rattle.std.proofs.Common.{◌≡◌, ℕ, zero, suc, ◌<◌, Bool, false, List, [], ◌∷◌, ◌++◌, length, get_or, refl, ap, arith}
use Rattle.bits_law.specs.Bitwise.{bitwise}

pub length-bitwise : (f : Bool → Bool → Bool) (xs ys : List Bool) → length xs ≡ length ys → length (bitwise f xs ys) ≡ length xs
length-bitwise f [] ys h = refl
length-bitwise f (x ∷ xs) [] h = absurd (omega arith)
length-bitwise f (x ∷ xs) (y ∷ ys) h =
    let e : length (bitwise f xs ys) ≡ length xs = length-bitwise f xs ys (omega arith) in omega arith

pub get_or-bitwise : (f : Bool → Bool → Bool) (xs ys : List Bool) (i : ℕ) → i < length xs → length xs ≡ length ys → get_or (bitwise f xs ys) i false ≡ f (get_or xs i false) (get_or ys i false)
get_or-bitwise f [] ys i l h = absurd (omega arith)
get_or-bitwise f (x ∷ xs) [] i l h = absurd (omega arith)
get_or-bitwise f (x ∷ xs) (y ∷ ys) zero l h = refl
get_or-bitwise f (x ∷ xs) (y ∷ ys) (suc i) l h = get_or-bitwise f xs ys i (omega arith) (omega arith)

pub bitwise-append : (f : Bool → Bool → Bool) (xs ys vs ws : List Bool) → length xs ≡ length ys → bitwise f (xs ++ vs) (ys ++ ws) ≡ bitwise f xs ys ++ bitwise f vs ws
bitwise-append f [] [] vs ws h = refl
bitwise-append f [] (y ∷ ys) vs ws h = absurd (omega arith)
bitwise-append f (x ∷ xs) [] vs ws h = absurd (omega arith)
bitwise-append f (x ∷ xs) (y ∷ ys) vs ws h = ap (λ t. f x y ∷ t) (bitwise-append f xs ys vs ws (omega arith))
