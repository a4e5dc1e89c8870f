-- A text cut at the first byte that passes a test, from its front.
use Rattle.std.proofs.Common.{◌≡◌, ℕ, suc, Bool, true, false, List, [], ◌∷◌, take, drop, refl, ap, sym, ◌∙◌, arith}
use Rattle.std.specs.List.{position_or_len, before_first, slice_split, onto_first}

-- what stands from the first byte on that passes
abbrev pub from_first : (ℕ → Bool) → List ℕ → List ℕ
from_first p text = drop (position_or_len p text) text

pub position-yes : (p : ℕ → Bool) (b : ℕ) (bs : List ℕ) → p b ≡ true → position_or_len p (b ∷ bs) ≡ 0
position-yes p b bs hit = rw hit refl

pub position-no : (p : ℕ → Bool) (b : ℕ) (bs : List ℕ) → p b ≡ false → position_or_len p (b ∷ bs) ≡ suc (position_or_len p bs)
position-no p b bs miss = rw miss (omega arith)

pub before-yes : (p : ℕ → Bool) (b : ℕ) (bs : List ℕ) → p b ≡ true → before_first p (b ∷ bs) ≡ []
before-yes p b bs hit = ap (λ k. take k (b ∷ bs)) (position-yes p b bs hit)

pub before-no : (p : ℕ → Bool) (b : ℕ) (bs : List ℕ) → p b ≡ false → before_first p (b ∷ bs) ≡ b ∷ before_first p bs
before-no p b bs miss = ap (λ k. take k (b ∷ bs)) (position-no p b bs miss)

pub from-yes : (p : ℕ → Bool) (b : ℕ) (bs : List ℕ) → p b ≡ true → from_first p (b ∷ bs) ≡ b ∷ bs
from-yes p b bs hit = ap (λ k. drop k (b ∷ bs)) (position-yes p b bs hit)

pub from-no : (p : ℕ → Bool) (b : ℕ) (bs : List ℕ) → p b ≡ false → from_first p (b ∷ bs) ≡ from_first p bs
from-no p b bs miss = ap (λ k. drop k (b ∷ bs)) (position-no p b bs miss)

-- the pieces behind the first one
abbrev pub other_pieces : (ℕ → Bool) → List ℕ → List (List ℕ)
other_pieces p [] = []
other_pieces p (b ∷ bs) = slice_split p bs

split_at : (p : ℕ → Bool) (b : ℕ) (bs : List ℕ) (hit : Bool) → p b ≡ hit → slice_split p bs ≡ before_first p bs ∷ other_pieces p (from_first p bs)
    → slice_split p (b ∷ bs) ≡ before_first p (b ∷ bs) ∷ other_pieces p (from_first p (b ∷ bs))
split_at p b bs true hit rest =
    let here : slice_split p (b ∷ bs) ≡ [] ∷ slice_split p bs = rw hit refl in
    here ∙ ap (λ xs. xs ∷ slice_split p bs) (sym (before-yes p b bs hit)) ∙ ap (λ xs. before_first p (b ∷ bs) ∷ other_pieces p xs) (sym (from-yes p b bs hit))
split_at p b bs false miss rest =
    let here : slice_split p (b ∷ bs) ≡ onto_first b (slice_split p bs) = rw miss refl in
    here ∙ ap (onto_first b) rest ∙ ap (λ xs. xs ∷ other_pieces p (from_first p bs)) (sym (before-no p b bs miss)) ∙ ap (λ xs. before_first p (b ∷ bs) ∷ other_pieces p xs) (sym (from-no p b bs miss))

-- the first piece, and those behind it
pub split_first : (p : ℕ → Bool) (text : List ℕ) → slice_split p text ≡ before_first p text ∷ other_pieces p (from_first p text)
split_first p [] = refl
split_first p (b ∷ bs) = split_at p b bs (p b) refl (split_first p bs)
