-- Eight words at a time.
use Rattle.std.proofs.Common.{◌≡◌, ℕ, zero, suc, ◌+◌, ◌-◌, ◌<◌, ◌≤◌, List, [], ◌∷◌, length, get_or, replicate, refl, ap, sym, ◌∙◌, inl, inr, arith}
use Rattle.std.specs.Prelude.{bit_and, bit_xor}
use Rattle.std.proofs.lemmas.Bool.{cases_lt}
use Rattle.std.proofs.lemmas.Simd.{length-zip2, length-chunk, get_or-chunk, get_or-zip2, get_or-put_chunk_below, get_or-put_chunk_at, get_or-put_chunk_above, length-put_chunk}
use lib.Lanes.{zip2, chunk, put_chunk}

pub zip_twice : (xs ys : List ℕ) → length xs ≡ length ys → zip2 bit_xor xs (zip2 bit_and xs ys) ≡ zip2 (λ a b. bit_xor a (bit_and a b)) xs ys
zip_twice [] ys e = refl
zip_twice (x ∷ xs) [] e = absurd (omega arith)
zip_twice (x ∷ xs) (y ∷ ys) e = ap (λ zs. bit_xor x (bit_and x y) ∷ zs) (zip_twice xs ys (omega arith))

pub zip_ones : (n m : ℕ) (xs ys : List ℕ) → length xs ≡ length ys → n ≡ length xs → zip2 bit_xor xs (replicate n m) ≡ zip2 (λ a b. bit_xor a m) xs ys
zip_ones n m [] ys e f = refl
zip_ones n m (x ∷ xs) [] e f = absurd (omega arith)
zip_ones zero m (x ∷ xs) (y ∷ ys) e f = absurd (omega arith)
zip_ones (suc n) m (x ∷ xs) (y ∷ ys) e f = ap (λ zs. bit_xor x m ∷ zs) (zip_ones n m xs ys (omega arith) (omega arith))

pub record Stepped (f : ℕ → ℕ → ℕ) (old others new : List ℕ) (at : ℕ) : Type 0 where
  pub long : length new ≡ length old
  pub so_far : (j : ℕ) → j < at → get_or new j 0 ≡ f (get_or old j 0) (get_or others j 0)
  pub left : (j : ℕ) → at ≤ j → get_or new j 0 ≡ get_or old j 0

pub stepped : (f : ℕ → ℕ → ℕ) (old others words made : List ℕ) (at to : ℕ) → Stepped f old others words at → length old ≡ length others → to ≡ at + 8 → to ≤ length old → made ≡ zip2 f (chunk at 8 words) (chunk at 8 others) → Stepped f old others (put_chunk at words made) to
stepped f old others words made at to s even e room m = record {
  long = length-put_chunk at words made ∙ s.long;
  so_far = λ j l. elim (cases_lt j at) [
    | inl before ↦ get_or-put_chunk_below at words made j 0 before ∙ s.so_far j before
    | inr here ↦
        let split : at + (j - at) ≡ j = omega arith in
        ap (λ k. get_or (put_chunk at words made) k 0) (sym split)
        ∙ get_or-put_chunk_at at words made (j - at) 0 (omega (arith, eight)) (omega (arith, s.long, eight))
        ∙ ap (λ ys. get_or ys (j - at) 0) m
        ∙ get_or-zip2 f (chunk at 8 words) (chunk at 8 others) (j - at) 0 0 0 (omega (arith, one)) (omega (arith, two))
        ∙ ap (λ x. f x (get_or (chunk at 8 others) (j - at) 0)) (get_or-chunk at 8 words (j - at) 0 (omega arith) ∙ ap (λ k. get_or words k 0) split ∙ s.left j here)
        ∙ ap (f (get_or old j 0)) (get_or-chunk at 8 others (j - at) 0 (omega arith) ∙ ap (λ k. get_or others k 0) split)
  ];
  left = λ j l. get_or-put_chunk_above at words made j 0 (omega (arith, eight)) ∙ s.left j (omega arith);
}
  where
    one : length (chunk at 8 words) ≡ 8
    one = length-chunk at 8 words (omega (arith, s.long))

    two : length (chunk at 8 others) ≡ 8
    two = length-chunk at 8 others (omega arith)

    eight : length made ≡ 8
    eight = ap length m ∙ length-zip2 f (chunk at 8 words) (chunk at 8 others) (one ∙ sym two) ∙ one
