-- How many bytes stand before the first that fails, by a load.
use Rattle.std.proofs.Common.{◌≡◌, ℕ, zero, suc, ◌+◌, ◌<◌, ◌≤◌, Bool, true, false, not, List, [], ◌∷◌, map, length, take, drop, refl, ap, sym, ◌∙◌, arith, inl, inr}
use Rattle.std.proofs.lemmas.Bool.{cases_Bool}
use Rattle.std.proofs.lemmas.List.Sums.{prefix_len-le-length}
use Rattle.std.proofs.lemmas.Simd.{leading_from_mask_l, trailing_mask_l}
use Rattle.std.specs.List.{prefix_len, position_or_len}
use lib.Count.{count_trailing_zeros}
use lib.Lanes.{mask_l}

prefix-yes : (q : ℕ → Bool) (x : ℕ) (xs : List ℕ) → q x ≡ true → prefix_len q (x ∷ xs) ≡ 1 + prefix_len q xs
prefix-yes q x xs passes = rw passes refl

prefix-no : (q : ℕ → Bool) (x : ℕ) (xs : List ℕ) → q x ≡ false → prefix_len q (x ∷ xs) ≡ 0
prefix-no q x xs fails = rw fails refl

prefix-from : (q : ℕ → Bool) (at : ℕ) (xs : List ℕ) → at ≤ prefix_len q xs → prefix_len q xs ≡ at + prefix_len q (drop at xs)
prefix-from q zero xs low = omega arith
prefix-from q (suc at) [] low = absurd (omega arith)
prefix-from q (suc at) (x ∷ xs) low =
    elim (cases_Bool (q x)) [
      | inl passes ↦ let first = prefix-yes q x xs passes in let rest = prefix-from q at xs (omega arith) in omega arith
      | inr fails ↦ let first = prefix-no q x xs fails in absurd (omega arith)
    ]

-- where each byte of a load passes
prefix-whole : (q : ℕ → Bool) (n : ℕ) (xs : List ℕ) → prefix_len q (take n xs) ≡ n → n ≤ prefix_len q xs
prefix-whole q zero xs whole = omega arith
prefix-whole q (suc n) [] whole = absurd (omega arith)
prefix-whole q (suc n) (x ∷ xs) whole =
    elim (cases_Bool (q x)) [
      | inl passes ↦
          let first = prefix-yes q x xs passes in
          let same = prefix-yes q x (take n xs) passes in
          let rest = prefix-whole q n xs (omega arith) in omega arith
      | inr fails ↦ let same = prefix-no q x (take n xs) fails in absurd (omega arith)
    ]

-- where one of them fails
prefix-short : (q : ℕ → Bool) (n : ℕ) (xs : List ℕ) → n ≤ length xs → prefix_len q (take n xs) < n → prefix_len q xs ≡ prefix_len q (take n xs)
prefix-short q zero xs long short = absurd (omega arith)
prefix-short q (suc n) [] long short = absurd (omega arith)
prefix-short q (suc n) (x ∷ xs) long short =
    elim (cases_Bool (q x)) [
      | inl passes ↦
          let first = prefix-yes q x xs passes in
          let same = prefix-yes q x (take n xs) passes in
          let rest = prefix-short q n xs (omega arith) (omega arith) in omega arith
      | inr fails ↦ prefix-no q x xs fails ∙ sym (prefix-no q x (take n xs) fails)
    ]

-- where none passes, no bit is set
mask-none : (p : ℕ → Bool) (xs : List ℕ) → prefix_len (λ x. not (p x)) xs ≡ length xs → mask_l (map p xs) ≡ 0
mask-none p [] whole = refl
mask-none p (x ∷ xs) whole =
    elim (cases_Bool (p x)) [
      | inl passes ↦ let none = prefix-no (λ x. not (p x)) x xs (ap not passes) in absurd (omega arith)
      | inr fails ↦
          let first = prefix-yes (λ x. not (p x)) x xs (ap not fails) in
          let rest : mask_l (map p xs) ≡ 0 = mask-none p xs (omega arith) in rw (fails, rest) refl
    ]

-- none among the bytes of a load
pub none_in_load : (p : ℕ → Bool) (n at marks : ℕ) (text rest : List ℕ) → at ≤ position_or_len p text → rest ≡ drop at text → length (take n rest) ≡ n → marks ≡ mask_l (map p (take n rest)) → marks ≡ 0 → at + n ≤ position_or_len p text
none_in_load p n at marks text rest low back long is none =
    let whole : prefix_len (λ x. not (p x)) (take n rest) ≡ n = leading_from_mask_l p (take n rest) (sym is ∙ none) ∙ long in
    let more : n ≤ position_or_len p rest = prefix-whole (λ x. not (p x)) n rest whole in
    let from : position_or_len p text ≡ at + position_or_len p (drop at text) = prefix-from (λ x. not (p x)) at text low in
    let same : position_or_len p rest ≡ position_or_len p (drop at text) = ap (position_or_len p) back in
    omega arith

-- the first among the bytes of a load
pub first_in_load : (p : ℕ → Bool) (n at marks : ℕ) (text rest : List ℕ) → at ≤ position_or_len p text → rest ≡ drop at text → n ≤ length rest → length (take n rest) ≡ n → n ≤ 64 → marks ≡ mask_l (map p (take n rest)) → 0 < marks
    → (position_or_len p text ≡ at + count_trailing_zeros 64 marks) × (count_trailing_zeros 64 marks < n)
first_in_load p n at marks text rest low back room long few is some =
    let t : ℕ = count_trailing_zeros 64 marks in
    let front : ℕ = prefix_len (λ x. not (p x)) (take n rest) in
    let first : t ≡ front = ap (count_trailing_zeros 64) is ∙ trailing_mask_l p 64 (take n rest) (omega arith) (omega (arith, is)) in
    let bound : front ≤ length (take n rest) = prefix_len-le-length (λ x. not (p x)) (take n rest) in
    let short : front < n = below n front (omega arith) (λ whole. let none : mask_l (map p (take n rest)) ≡ 0 = mask-none p (take n rest) (whole ∙ sym long) in omega (arith, is, none)) in
    let same : position_or_len p rest ≡ front = prefix-short (λ x. not (p x)) n rest room short in
    let from : position_or_len p text ≡ at + position_or_len p (drop at text) = prefix-from (λ x. not (p x)) at text low in
    let behind : position_or_len p rest ≡ position_or_len p (drop at text) = ap (position_or_len p) back in
    (omega arith, omega arith)
  where
    below : (n m : ℕ) → m ≤ n → (m ≡ n → ⊥) → m < n
    below n m le other = omega (arith, other)
