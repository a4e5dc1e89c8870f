-- One bit of a word, and the bits of a word as a list.
use Rattle.std.proofs.Common.{◌≡◌, ◌≢◌, ℕ, zero, suc, ◌+◌, ◌-◌, ◌*◌, ◌/◌, ◌%◌, ◌^◌, ◌<◌, ◌≤◌, min, max, Bool, true, false, eqb, not, ◌⊎◌, ◌&&◌, ◌||◌, [], ◌∷◌, length, get_or, refl, ap, sym, ◌∙◌, subst, inl, inr, arith}
use Rattle.std.specs.Prelude.{bit_and, bit_or}
use Rattle.std.specs.Int.{bit_at, bit_not, w64, trailing_zeros, leading_zeros}
use Rattle.std.proofs.lemmas.Bool.{cases_lt, false≢true}
use Rattle.std.proofs.lemmas.Nat.{and_le_l, shr-shr, shr_split, pow_pos, leading_top}
use Rattle.std.proofs.lemmas.Grind.{pow_more}
use Rattle.std.proofs.Math.Nat.{div-eq_of_lt-le}
use Rattle.std.proofs.lemmas.Nat.Bits.{bit_at_and, bit_at_or, bit_at_not, bit_at_ones, bit_at-lt, bit_at-zero, bit_at-suc, bit_at_lowest, bit_at-trailing_zeros, bit_at_set_same, bit_at_set_other, bit_at_clear_same, bit_at_clear_other, bit_at_cat_low, bit_at_cat_high, bit_at_above}
use mir.Val.{bool_byte}
use Rattle.bits_law.specs.Bitwise.{bits_below}
use Rattle.bits_law.specs.Numbers.{has_bit}

two : (n : ℕ) → n < 2 → (n ≡ 0) ⊎ (n ≡ 1)
two zero l = inl refl
two (suc zero) l = inr refl
two (suc (suc n)) l = absurd (omega arith)

-- one bit of what the operators of words give
pub bit-none : (i : ℕ) → has_bit 0 i ≡ false
bit-none i = ap (λ x. eqb x 1) (bit_at-zero i)

pub bit-all : (i : ℕ) → i < 64 → has_bit (2 ^ 64 - 1) i ≡ true
bit-all i l = ap (λ x. eqb x 1) (bit_at_ones 64 i l)

pub bit-and : (a b i : ℕ) → has_bit (bit_and a b) i ≡ (has_bit a i && has_bit b i)
bit-and a b i = ap (λ x. eqb x 1) (bit_at_and a b i) ∙ both (bit_at a i) (bit_at b i) (bit_at-lt a i) (bit_at-lt b i)
  where
    both : (x y : ℕ) → x < 2 → y < 2 → eqb (min x y) 1 ≡ (eqb x 1 && eqb y 1)
    both x y l m = elim (two x l) [
      | inl e ↦ rw e (elim (two y m) [ inl f ↦ rw f refl | inr f ↦ rw f refl ])
      | inr e ↦ rw e (elim (two y m) [ inl f ↦ rw f refl | inr f ↦ rw f refl ])
    ]

pub bit-or : (a b i : ℕ) → has_bit (bit_or a b) i ≡ (has_bit a i || has_bit b i)
bit-or a b i = ap (λ x. eqb x 1) (bit_at_or a b i) ∙ either (bit_at a i) (bit_at b i) (bit_at-lt a i) (bit_at-lt b i)
  where
    either : (x y : ℕ) → x < 2 → y < 2 → eqb (max x y) 1 ≡ (eqb x 1 || eqb y 1)
    either x y l m = elim (two x l) [
      | inl e ↦ rw e (elim (two y m) [ inl f ↦ rw f refl | inr f ↦ rw f refl ])
      | inr e ↦ rw e (elim (two y m) [ inl f ↦ rw f refl | inr f ↦ rw f refl ])
    ]

pub bit-not : (a i : ℕ) → a < 2 ^ 64 → i < 64 → has_bit (bit_not w64 a) i ≡ not (has_bit a i)
bit-not a i u l = ap (λ x. eqb x 1) (bit_at_not w64 a i u l) ∙ turned (bit_at a i) (bit_at-lt a i)
  where
    turned : (x : ℕ) → x < 2 → eqb (1 - x) 1 ≡ not (eqb x 1)
    turned x l = elim (two x l) [ inl e ↦ rw e refl | inr e ↦ rw e refl ]

pub bit-set_same : (n k : ℕ) → k < 64 → has_bit (bit_or n (1 * 2 ^ k % 2 ^ 64)) k ≡ true
bit-set_same n k l = ap (λ x. eqb x 1) (bit_at_set_same w64 n k l)

pub bit-set_other : (n k i : ℕ) → k < 64 → i ≢ k → has_bit (bit_or n (1 * 2 ^ k % 2 ^ 64)) i ≡ has_bit n i
bit-set_other n k i l ne = ap (λ x. eqb x 1) (bit_at_set_other w64 n k l i ne)

-- the lowest one of a word is taken away
pub record Lowered (left low next : ℕ) : Type 0 where
  pub inside : low < 64
  pub was : has_bit left low ≡ true
  pub gone : has_bit next low ≡ false
  pub others : (p : ℕ) → p < 64 → p ≢ low → has_bit next p ≡ has_bit left p
  pub less : next < left

pub lowered : (left low : ℕ) → 0 < left → left < 2 ^ 64 → low ≡ trailing_zeros w64 left → Lowered left low (bit_and left (bit_not w64 (1 * 2 ^ low % 2 ^ 64)))
lowered left low some small e = record {
  inside = in_word;
  was = one;
  gone = zero_there;
  others = λ p l ne. ap (λ x. eqb x 1) (bit_at_clear_other w64 left low in_word p l ne);
  less = elim (cases_lt next left) [ inl l ↦ l | inr m ↦ absurd (same m) ];
}
  where
    next : ℕ
    next = bit_and left (bit_not w64 (1 * 2 ^ low % 2 ^ 64))

    in_word : low < 64
    in_word = subst (λ n. n < 64) (sym e) (bit_at-trailing_zeros w64 left some small).0

    one : has_bit left low ≡ true
    one = ap (λ x. eqb x 1) (subst (λ n. bit_at left n ≡ 1) (sym e) (bit_at-trailing_zeros w64 left some small).1)

    zero_there : has_bit next low ≡ false
    zero_there = ap (λ x. eqb x 1) (bit_at_clear_same w64 left low in_word)

    same : left ≤ next → ⊥
    same m =
        let at_most : next ≤ left = and_le_l left (bit_not w64 (1 * 2 ^ low % 2 ^ 64)) in
        let is : next ≡ left = omega arith in
        false≢true (sym zero_there ∙ ap (λ n. has_bit n low) is ∙ one)

-- the highest one of a word
pub record Highest (left high : ℕ) : Type 0 where
  pub inside : high < 64
  pub was : has_bit left high ≡ true
  pub above : (p : ℕ) → high < p → has_bit left p ≡ false

pub highest : (left high : ℕ) → 0 < left → left < 2 ^ 64 → high ≡ 63 - leading_zeros w64 left → Highest left high
highest left high some small e =
    let top = leading_top 64 left some small in
    let is : high ≡ top.0 = omega (arith, e, top.1) in
    let power : 2 ^ (top.0 + 1) ≡ 2 ^ top.0 * 2 = pow_more 2 top.0 in
    let next : suc top.0 ≡ top.0 + 1 = omega arith in
    let under : left < 2 ^ (top.0 + 1) = subst (λ n. left < 2 ^ n) next top.3 in
    let one : left / 2 ^ top.0 ≡ 1 = div-eq_of_lt-le (2 ^ top.0) (omega (arith, top.2)) (omega (arith, under, power)) in
    record {
      inside = omega (arith, is, top.1);
      was = ap (has_bit left) is ∙ ap (λ x. eqb (x % 2) 1) one;
      above = λ p l. ap (λ x. eqb x 1) (bit_at_above left (top.0 + 1) p under (omega (arith, is)));
    }

-- a word with one more bit, the lowest
pub bit-then_lowest : (n b : ℕ) → b < 2 → has_bit (2 * n + b) 0 ≡ eqb b 1
bit-then_lowest n b l = let e : 2 * n + b ≡ n * 2 + b = omega arith in ap (λ x. eqb x 1) (bit_at_lowest (2 * n + b) ∙ low)
  where
    low : (2 * n + b) % 2 ≡ b
    low = omega arith

pub bit-then_other : (n b i : ℕ) → b < 2 → has_bit (2 * n + b) (suc i) ≡ has_bit n i
bit-then_other n b i l =
    let half : (2 * n + b) / 2 ≡ n = omega arith in
    ap (λ x. eqb x 1) (bit_at-suc (2 * n + b) i ∙ ap (λ m. bit_at m i) half)

-- a word's bits as a list
pub length_below : (w n : ℕ) → length (bits_below w n) ≡ n
unfolding bits_below
length_below w zero = refl
length_below w (suc n) = let h = length_below (w / 2) n in omega (arith, h)

pub get_below : (w n i : ℕ) → i < n → get_or (bits_below w n) i false ≡ has_bit w i
unfolding bits_below
get_below w zero i l = absurd (omega arith)
get_below w (suc n) zero l = ap (λ x. eqb x 1) (sym (bit_at_lowest w))
get_below w (suc n) (suc i) l = get_below (w / 2) n i (omega arith) ∙ ap (λ x. eqb x 1) (sym (bit_at-suc w i))

pub below_none : (w : ℕ) → bits_below w 0 ≡ []
unfolding bits_below
below_none w = refl

pub below_more : (w n : ℕ) → bits_below w (suc n) ≡ eqb (w % 2) 1 ∷ bits_below (w / 2) n
unfolding bits_below
below_more w n = refl

-- a bool as a number
pub bool_small : (b : Bool) → bool_byte b < 2
bool_small true = omega arith
bool_small false = omega arith

pub bool_one : (b : Bool) → eqb (bool_byte b) 1 ≡ b
bool_one true = refl
bool_one false = refl

-- the bits of a word that is shifted up, and of one that is shifted down
pub up_low : (word s p : ℕ) → p < s → s < 64 → has_bit (word * 2 ^ s % 2 ^ 64) p ≡ false
up_low word s p l u =
    ap (λ x. eqb x 1)
    (sym (bit_at_cat_low (word * 2 ^ s / 2 ^ 64) 64 (word * 2 ^ s % 2 ^ 64) p (omega arith))
    ∙ ap (λ n. bit_at n p) (shr_split (word * 2 ^ s) 64)
    ∙ ap (λ n. bit_at n p) (let e : word * 2 ^ s ≡ word * 2 ^ s + 0 = omega arith in e)
    ∙ bit_at_cat_low word s 0 p l ∙ bit_at-zero p)

pub up_high : (word s p : ℕ) → s ≤ p → p < 64 → has_bit (word * 2 ^ s % 2 ^ 64) p ≡ has_bit word (p - s)
up_high word s p l u =
    ap (λ x. eqb x 1)
    (sym (bit_at_cat_low (word * 2 ^ s / 2 ^ 64) 64 (word * 2 ^ s % 2 ^ 64) p u)
    ∙ ap (λ n. bit_at n p) (shr_split (word * 2 ^ s) 64)
    ∙ ap (λ n. bit_at n p) (let e : word * 2 ^ s ≡ word * 2 ^ s + 0 = omega arith in e)
    ∙ bit_at_cat_high word s 0 p (pow_pos s) l)

pub down : (word k p : ℕ) → has_bit (word / 2 ^ k) p ≡ has_bit word (k + p)
down word k p = ap (λ x. eqb (x % 2) 1) (shr-shr word k p)

pub down_past : (word k p : ℕ) → word < 2 ^ 64 → 64 ≤ k + p → has_bit (word / 2 ^ k) p ≡ false
down_past word k p u l = down word k p ∙ ap (λ x. eqb x 1) (bit_at_above word 64 (k + p) u l)

-- the low half of a longer number
pub bit-low : (n p : ℕ) → p < 64 → has_bit (n % 2 ^ 64) p ≡ has_bit n p
bit-low n p l = ap (λ x. eqb x 1) (sym (bit_at_cat_low (n / 2 ^ 64) 64 (n % 2 ^ 64) p l) ∙ ap (λ m. bit_at m p) (shr_split n 64))
