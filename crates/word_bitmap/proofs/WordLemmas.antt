-- Bits that words stand for.
use Rattle.std.proofs.Common.{◌≡◌, ℕ, zero, suc, ◌+◌, ◌-◌, ◌*◌, ◌/◌, ◌%◌, ◌^◌, ◌<◌, ◌≤◌, min, max, Bool, true, false, cond, eqb, not, ◌⊎◌, ◌&&◌, ◌||◌, List, [], ◌∷◌, ◌++◌, map, length, get_or, replicate, refl, ap, sym, ◌∙◌, subst, inl, inr, arith, Some}
use Rattle.std.specs.Prelude.{bit_and, bit_xor}
use lib.Lanes.{zip2}
use Rattle.std.specs.Int.{bit_at}
use Rattle.std.proofs.lemmas.Bool.{cases_lt}
use Rattle.std.proofs.lemmas.Nat.{shr-shr, shr_split, shl_whole, div-mul-add, mod-mul-add, pow-add, shr_below, mod-pow-add}
use Rattle.std.proofs.Math.Nat.{mod-eq_of_lt, div-eq_of_lt, mul-le-mul_right, pow-le-pow_right, mod-one}
use Rattle.std.proofs.lemmas.Nat.Bits.{bit_at_cat_low, bit_at_and, bit_at_or, bit_at_xor, bit_at_ones, bit_at-lt, bit_at-zero}
use Rattle.std.proofs.lemmas.List.{append_assoc, append-nil, length-append, length-replicate, ext_get_or, get_or_append_left, get_or-append_right, get_or-replicate, replicate-append-replicate}
use Rattle.std.specs.Int.RustNames.{count_ones}
use Rattle.std.specs.List.{count_by, slice_get}
use Rattle.std.proofs.lemmas.List.Sums.{sum_by-append, count_by-le-length}
use Rattle.std.proofs.lemmas.Simd.{ones-mask_l}
use Rattle.std.specs.Simd.Lanes.{mask_l}
use Rattle.std.proofs.lemmas.Option.{slice_get-get_or}
use Rattle.bits_law.specs.Bitwise.{bitwise, bits_below}
use Rattle.bits_law.proofs.WordBits.{length_below, get_below}
use Rattle.bits_law.proofs.BitwiseLemmas.{length-bitwise, get_or-bitwise, bitwise-append}
use Rattle.word_bitmap.specs.Words.{spelled, joins, word_of, chosen}
use Rattle.word_bitmap.specs.declared.combine.Ones.{Ones}
use Rattle.word_bitmap.specs.declared.combine.Ones.TheVariants.{OfBoth, OfEither, OfFirstAlone, OfNotFirst}

-- words
pub spelled-append : (ws vs : List ℕ) → spelled (ws ++ vs) ≡ spelled ws ++ spelled vs
spelled-append [] vs = refl
spelled-append (w ∷ ws) vs = ap (λ bits. bits_below w 64 ++ bits) (spelled-append ws vs) ∙ sym (append_assoc (bits_below w 64) (spelled ws) (spelled vs))

pub length_spelled : (ws : List ℕ) → length (spelled ws) ≡ 64 * length ws
length_spelled [] = refl
length_spelled (w ∷ ws) =
    let h = length-append (bits_below w 64) (spelled ws) in
    omega (arith, h, length_below w 64, length_spelled ws)

-- a word in two parts
pub split_below : (w n m : ℕ) → bits_below w (n + m) ≡ bits_below w n ++ bits_below (w / 2 ^ n) m
unfolding bits_below
split_below w zero m =
    let e : zero + m ≡ m = omega arith in
    let same : w / 2 ^ 0 ≡ w = grind arith in
    ap (bits_below w) e ∙ ap (λ v. bits_below v m) (sym same)
split_below w (suc n) m =
    let e : suc n + m ≡ suc (n + m) = omega arith in
    let more : 1 + n ≡ suc n = omega arith in
    ap (bits_below w) e ∙ ap (λ bits. eqb (w % 2) 1 ∷ bits) (split_below (w / 2) n m ∙ ap (λ v. bits_below (w / 2) n ++ bits_below v m) (shr-shr w 1 n ∙ ap (λ i. w / 2 ^ i) more))

-- what lies above the bits that are read
pub low_below : (w n : ℕ) → bits_below (w % 2 ^ n) n ≡ bits_below w n
low_below w n =
    ext_get_or false (bits_below (w % 2 ^ n) n) (bits_below w n) (length_below (w % 2 ^ n) n ∙ sym (length_below w n)) (λ i l.
    let under : i < n = omega (arith, length_below (w % 2 ^ n) n) in
    get_below (w % 2 ^ n) n i under
    ∙ ap (λ x. eqb x 1) (sym (bit_at_cat_low (w / 2 ^ n) n (w % 2 ^ n) i under) ∙ ap (λ v. bit_at v i) (shr_split w n))
    ∙ sym (get_below w n i under))

-- a word after one of `n` bits
pub joined_below : (a b n m : ℕ) → a < 2 ^ n → bits_below (a + b * 2 ^ n) (n + m) ≡ bits_below a n ++ bits_below b m
joined_below a b n m l =
    let turn : a + b * 2 ^ n ≡ b * 2 ^ n + a = omega arith in
    split_below (a + b * 2 ^ n) n m
    ∙ ap (λ bits. bits ++ bits_below ((a + b * 2 ^ n) / 2 ^ n) m) (sym (low_below (a + b * 2 ^ n) n) ∙ ap (λ v. bits_below v n) (ap (λ v. v % 2 ^ n) turn ∙ mod-mul-add b (2 ^ n) a l))
    ∙ ap (λ v. bits_below a n ++ bits_below v m) (ap (λ v. v / 2 ^ n) turn ∙ div-mul-add b (2 ^ n) a l)

-- a number of two parts, as the code computes it
pub two_parts : (a w t n : ℕ) → a < 2 ^ t → w < 2 ^ n → a + w * 2 ^ t < 2 ^ (t + n)
two_parts a w t n l m =
    let more : w * 2 ^ t + 2 ^ t ≡ (w + 1) * 2 ^ t = omega arith in
    let all : (w + 1) * 2 ^ t ≤ 2 ^ n * 2 ^ t = mul-le-mul_right (2 ^ t) (omega arith) in
    let turn : n + t ≡ t + n = omega arith in
    let whole : 2 ^ n * 2 ^ t ≡ 2 ^ (t + n) = sym (pow-add 2 n t) ∙ ap (λ i. 2 ^ i) turn in
    omega arith

-- the word that is put, shifted
pub shifted : (w t n : ℕ) → w < 2 ^ n → n ≤ 64 → t < 64 → w * 2 ^ t % 2 ^ 128 ≡ w * 2 ^ t
shifted w t n l m k = shl_whole w n t 128 l (omega arith)

pub put_last : (a w t n : ℕ) → a < 2 ^ t → w < 2 ^ n → n ≤ 64 → t + n < 64 → (a + w * 2 ^ t % 2 ^ 128) % 2 ^ 64 ≡ a + w * 2 ^ t
put_last a w t n l m wide k =
    ap (λ v. (a + v) % 2 ^ 64) (shifted w t n m wide (omega arith))
    ∙ mod-eq_of_lt (lt_le (two_parts a w t n l m) (pow_le (t + n) 64 (omega arith)))
  where
    lt_le : {a b c : ℕ} → a < b → b ≤ c → a < c
    lt_le h k = omega arith

    pow_le : (i j : ℕ) → i ≤ j → 2 ^ i ≤ 2 ^ j
    pow_le i j h = pow-le-pow_right (omega arith) h

-- a word put within the unfinished one
pub put_within : (ws : List ℕ) (a w t n : ℕ) → a < 2 ^ t → w < 2 ^ n → n ≤ 64 → t + n < 64 → spelled ws ++ bits_below ((a + w * 2 ^ t % 2 ^ 128) % 2 ^ 64) (t + n) ≡ (spelled ws ++ bits_below a t) ++ bits_below w n
put_within ws a w t n l m wide k =
    ap (λ bits. spelled ws ++ bits) (ap (λ v. bits_below v (t + n)) (put_last a w t n l m wide k) ∙ joined_below a w t n l)
    ∙ sym (append_assoc (spelled ws) (bits_below a t) (bits_below w n))

-- a number of two parts, cut at a word's end
over : (a w t n : ℕ) → a < 2 ^ t → w < 2 ^ n → n ≤ 64 → t < 64 → 64 ≤ t + n → bits_below ((a + w * 2 ^ t % 2 ^ 128) % 2 ^ 64) 64 ++ bits_below ((a + w * 2 ^ t % 2 ^ 128) / 2 ^ 64) (t + n - 64) ≡ bits_below a t ++ bits_below w n
over a w t n l m wide k o =
    let e : 64 + (t + n - 64) ≡ t + n = omega arith in
    ap (λ v. bits_below ((a + v) % 2 ^ 64) 64 ++ bits_below ((a + v) / 2 ^ 64) (t + n - 64)) (shifted w t n m wide k)
    ∙ ap (λ bits. bits ++ bits_below ((a + w * 2 ^ t) / 2 ^ 64) (t + n - 64)) (low_below (a + w * 2 ^ t) 64)
    ∙ sym (split_below (a + w * 2 ^ t) 64 (t + n - 64))
    ∙ ap (bits_below (a + w * 2 ^ t)) e
    ∙ joined_below a w t n l

-- a word put over the end of the unfinished one
pub put_over : (new ws : List ℕ) (a w t n k : ℕ) → new ≡ ws ++ replicate k ((a + w * 2 ^ t % 2 ^ 128) % 2 ^ 64) → k ≡ 1 → a < 2 ^ t → w < 2 ^ n → n ≤ 64 → t < 64 → 64 ≤ t + n → spelled new ++ bits_below ((a + w * 2 ^ t % 2 ^ 128) / 2 ^ 64) (t + n - 64) ≡ (spelled ws ++ bits_below a t) ++ bits_below w n
put_over new ws a w t n k e one l m wide u o =
    ap (λ vs. spelled vs ++ bits_below high (t + n - 64)) (e ∙ ap (λ k. ws ++ replicate k low) one)
    ∙ ap (λ bits. bits ++ bits_below high (t + n - 64)) (spelled-append ws (low ∷ []) ∙ ap (λ bits. spelled ws ++ bits) (append-nil (bits_below low 64)))
    ∙ append_assoc (spelled ws) (bits_below low 64) (bits_below high (t + n - 64))
    ∙ ap (λ bits. spelled ws ++ bits) (over a w t n l m wide u o)
    ∙ sym (append_assoc (spelled ws) (bits_below a t) (bits_below w n))
  where
    low : ℕ
    low = (a + w * 2 ^ t % 2 ^ 128) % 2 ^ 64

    high : ℕ
    high = (a + w * 2 ^ t % 2 ^ 128) / 2 ^ 64

pub high_small : (a w t n : ℕ) → a < 2 ^ t → w < 2 ^ n → n ≤ 64 → t < 64 → 64 ≤ t + n → (a + w * 2 ^ t % 2 ^ 128) / 2 ^ 64 < 2 ^ (t + n - 64)
high_small a w t n l m wide u o =
    let e : t + n ≡ t + n - 64 + 64 = omega arith in
    subst (λ v. (a + v) / 2 ^ 64 < 2 ^ (t + n - 64)) (sym (shifted w t n m wide u))
    (shr_below (a + w * 2 ^ t) (t + n - 64) 64 (subst (λ i. a + w * 2 ^ t < 2 ^ i) e (two_parts a w t n l m)))

-- what is over of a whole word doesn't depend on the bits before
pub high_is : (a w t h : ℕ) → h ≡ t + 64 - 64 → a < 2 ^ t → w < 2 ^ 64 → t < 64 → (a + w * 2 ^ t % 2 ^ 128) / 2 ^ 64 ≡ w / 2 ^ (64 - h)
high_is a w t h same l m u =
    let e : t + (64 - h) ≡ 64 = omega arith in
    let turn : a + w * 2 ^ t ≡ w * 2 ^ t + a = omega arith in
    ap (λ v. (a + v) / 2 ^ 64) (shifted w t 64 m (omega arith) u)
    ∙ ap (λ i. (a + w * 2 ^ t) / 2 ^ i) (sym e)
    ∙ sym (shr-shr (a + w * 2 ^ t) t (64 - h))
    ∙ ap (λ v. v / 2 ^ (64 - h)) (ap (λ v. v / 2 ^ t) turn ∙ div-mul-add w (2 ^ t) a l)

two : (n : ℕ) → n < 2 → (n ≡ 0) ⊎ (n ≡ 1)
two zero l = inl refl
two (suc zero) l = inr refl
two (suc (suc n)) l = absurd (omega arith)

both : (x y : ℕ) → x < 2 → y < 2 → eqb (min x y) 1 ≡ (eqb x 1 && eqb y 1)
both x y l m = elim (two x l) [
  | inl e ↦ rw e (elim (two y m) [ inl f ↦ rw f refl | inr f ↦ rw f refl ])
  | inr e ↦ rw e (elim (two y m) [ inl f ↦ rw f refl | inr f ↦ rw f refl ])
]

either : (x y : ℕ) → x < 2 → y < 2 → eqb (max x y) 1 ≡ (eqb x 1 || eqb y 1)
either x y l m = elim (two x l) [
  | inl e ↦ rw e (elim (two y m) [ inl f ↦ rw f refl | inr f ↦ rw f refl ])
  | inr e ↦ rw e (elim (two y m) [ inl f ↦ rw f refl | inr f ↦ rw f refl ])
]

first_alone : (x y : ℕ) → x < 2 → y < 2 → eqb ((x + min x y) % 2) 1 ≡ (eqb x 1 && not (eqb y 1))
first_alone x y l m = elim (two x l) [
  | inl e ↦ rw e (elim (two y m) [ inl f ↦ rw f refl | inr f ↦ rw f refl ])
  | inr e ↦ rw e (elim (two y m) [ inl f ↦ rw f refl | inr f ↦ rw f refl ])
]

not_first : (x : ℕ) → x < 2 → eqb ((x + 1) % 2) 1 ≡ not (eqb x 1)
not_first x l = elim (two x l) [ inl e ↦ rw e refl | inr e ↦ rw e refl ]

pub one_bit : (k : Ones) (a b i : ℕ) → i < 64 → eqb (bit_at (word_of k a b) i) 1 ≡ joins k (eqb (bit_at a i) 1) (eqb (bit_at b i) 1)
one_bit OfBoth a b i l = ap (λ x. eqb x 1) (bit_at_and a b i) ∙ both (bit_at a i) (bit_at b i) (bit_at-lt a i) (bit_at-lt b i)
one_bit OfEither a b i l = ap (λ x. eqb x 1) (bit_at_or a b i) ∙ either (bit_at a i) (bit_at b i) (bit_at-lt a i) (bit_at-lt b i)
one_bit OfFirstAlone a b i l =
    ap (λ x. eqb x 1) (bit_at_xor a (bit_and a b) i)
    ∙ ap (λ x. eqb ((bit_at a i + x) % 2) 1) (bit_at_and a b i)
    ∙ first_alone (bit_at a i) (bit_at b i) (bit_at-lt a i) (bit_at-lt b i)
one_bit OfNotFirst a b i l =
    ap (λ x. eqb x 1) (bit_at_xor a (2 ^ 64 - 1) i)
    ∙ ap (λ x. eqb ((bit_at a i + x) % 2) 1) (bit_at_ones 64 i l)
    ∙ not_first (bit_at a i) (bit_at-lt a i)

pub same_bits : (k : Ones) (a b n : ℕ) → n ≤ 64 → bits_below (word_of k a b) n ≡ bitwise (joins k) (bits_below a n) (bits_below b n)
same_bits k a b n w =
    let long = length-bitwise (joins k) (bits_below a n) (bits_below b n) (length_below a n ∙ sym (length_below b n)) ∙ length_below a n in
    ext_get_or false (bits_below (word_of k a b) n) (bitwise (joins k) (bits_below a n) (bits_below b n)) (length_below (word_of k a b) n ∙ sym long) (λ i l.
    let under : i < n = omega (arith, length_below (word_of k a b) n) in
    get_below (word_of k a b) n i under
    ∙ one_bit k a b i (omega arith)
    ∙ ap (λ x. joins k x (eqb (bit_at b i) 1)) (sym (get_below a n i under))
    ∙ ap (joins k (get_or (bits_below a n) i false)) (sym (get_below b n i under))
    ∙ sym (get_or-bitwise (joins k) (bits_below a n) (bits_below b n) i (omega (arith, length_below a n)) (length_below a n ∙ sym (length_below b n))))

-- a bit chosen by another
pub chosen_bit : (z o x i : ℕ) → eqb (bit_at (chosen z o x) i) 1 ≡ cond (eqb (bit_at x i) 1) (eqb (bit_at o i) 1) (eqb (bit_at z i) 1)
chosen_bit z o x i =
    ap (λ b. eqb b 1) (bit_at_xor z (bit_and x (bit_xor z o)) i)
    ∙ ap (λ b. eqb ((bit_at z i + b) % 2) 1) (bit_at_and x (bit_xor z o) i)
    ∙ ap (λ b. eqb ((bit_at z i + min (bit_at x i) b) % 2) 1) (bit_at_xor z o i)
    ∙ pick (bit_at z i) (bit_at o i) (bit_at x i) (bit_at-lt z i) (bit_at-lt o i) (bit_at-lt x i)
  where
    pick : (z o x : ℕ) → z < 2 → o < 2 → x < 2 → eqb ((z + min x ((z + o) % 2)) % 2) 1 ≡ cond (eqb x 1) (eqb o 1) (eqb z 1)
    pick z o x l m n = elim (two z l) [
      | inl e ↦ rw e (elim (two o m) [ inl f ↦ rw f (elim (two x n) [ inl g ↦ rw g refl | inr g ↦ rw g refl ]) | inr f ↦ rw f (elim (two x n) [ inl g ↦ rw g refl | inr g ↦ rw g refl ]) ])
      | inr e ↦ rw e (elim (two o m) [ inl f ↦ rw f (elim (two x n) [ inl g ↦ rw g refl | inr g ↦ rw g refl ]) | inr f ↦ rw f (elim (two x n) [ inl g ↦ rw g refl | inr g ↦ rw g refl ]) ])
    ]

pub all_set : (i : ℕ) → i < 64 → eqb (bit_at (2 ^ 64 - 1) i) 1 ≡ true
all_set i l = ap (λ x. eqb x 1) (bit_at_ones 64 i l)

pub none_set : (i : ℕ) → eqb (bit_at 0 i) 1 ≡ false
none_set i = ap (λ x. eqb x 1) (bit_at-zero i)

picked : (f : Bool → Bool) (x : Bool) → cond x (f true) (f false) ≡ f x
picked f true = refl
picked f false = refl

-- lists of bits of one word, by each bit
same_below : (v a b : ℕ) (f : Bool → Bool → Bool) → ((i : ℕ) → i < 64 → eqb (bit_at v i) 1 ≡ f (eqb (bit_at a i) 1) (eqb (bit_at b i) 1)) → bits_below v 64 ≡ bitwise f (bits_below a 64) (bits_below b 64)
same_below v a b f h =
    let long = length-bitwise f (bits_below a 64) (bits_below b 64) (length_below a 64 ∙ sym (length_below b 64)) ∙ length_below a 64 in
    ext_get_or false (bits_below v 64) (bitwise f (bits_below a 64) (bits_below b 64)) (length_below v 64 ∙ sym long) (λ i l.
    let under : i < 64 = omega (arith, length_below v 64) in
    get_below v 64 i under
    ∙ h i under
    ∙ ap (λ x. f x (eqb (bit_at b i) 1)) (sym (get_below a 64 i under))
    ∙ ap (f (get_or (bits_below a 64) i false)) (sym (get_below b 64 i under))
    ∙ sym (get_or-bitwise f (bits_below a 64) (bits_below b 64) i (omega (arith, length_below a 64)) (length_below a 64 ∙ sym (length_below b 64))))

left_below : (k : Ones) (a x : ℕ) → bits_below (chosen (word_of k a 0) (word_of k a (2 ^ 64 - 1)) x) 64 ≡ bitwise (joins k) (bits_below a 64) (bits_below x 64)
left_below k a x = same_below (chosen (word_of k a 0) (word_of k a (2 ^ 64 - 1)) x) a x (joins k) (λ i l.
    chosen_bit (word_of k a 0) (word_of k a (2 ^ 64 - 1)) x i
    ∙ ap (λ b. cond (eqb (bit_at x i) 1) b (eqb (bit_at (word_of k a 0) i) 1)) (one_bit k a (2 ^ 64 - 1) i l ∙ ap (joins k (eqb (bit_at a i) 1)) (all_set i l))
    ∙ ap (λ b. cond (eqb (bit_at x i) 1) (joins k (eqb (bit_at a i) 1) true) b) (one_bit k a 0 i l ∙ ap (joins k (eqb (bit_at a i) 1)) (none_set i))
    ∙ picked (joins k (eqb (bit_at a i) 1)) (eqb (bit_at x i) 1))

right_below : (k : Ones) (b x : ℕ) → bits_below (chosen (word_of k 0 b) (word_of k (2 ^ 64 - 1) b) x) 64 ≡ bitwise (joins k) (bits_below x 64) (bits_below b 64)
right_below k b x = same_below (chosen (word_of k 0 b) (word_of k (2 ^ 64 - 1) b) x) x b (joins k) (λ i l.
    chosen_bit (word_of k 0 b) (word_of k (2 ^ 64 - 1) b) x i
    ∙ ap (λ y. cond (eqb (bit_at x i) 1) y (eqb (bit_at (word_of k 0 b) i) 1)) (one_bit k (2 ^ 64 - 1) b i l ∙ ap (λ y. joins k y (eqb (bit_at b i) 1)) (all_set i l))
    ∙ ap (λ y. cond (eqb (bit_at x i) 1) (joins k true (eqb (bit_at b i) 1)) y) (one_bit k 0 b i l ∙ ap (λ y. joins k y (eqb (bit_at b i) 1)) (none_set i))
    ∙ picked (λ y. joins k y (eqb (bit_at b i) 1)) (eqb (bit_at x i) 1))

-- lists of words, joined
more_words : (f : Bool → Bool → Bool) (v a b : ℕ) (vs xs ys : List ℕ) → bits_below v 64 ≡ bitwise f (bits_below a 64) (bits_below b 64) → spelled vs ≡ bitwise f (spelled xs) (spelled ys) → spelled (v ∷ vs) ≡ bitwise f (spelled (a ∷ xs)) (spelled (b ∷ ys))
more_words f v a b vs xs ys e h =
    ap (λ bits. bits ++ spelled vs) e
    ∙ ap (λ bits. bitwise f (bits_below a 64) (bits_below b 64) ++ bits) h
    ∙ sym (bitwise-append f (bits_below a 64) (bits_below b 64) (spelled xs) (spelled ys) (length_below a 64 ∙ sym (length_below b 64)))

pub zip_words : (k : Ones) (xs ys : List ℕ) → length xs ≡ length ys → spelled (zip2 (word_of k) xs ys) ≡ bitwise (joins k) (spelled xs) (spelled ys)
zip_words k [] ys e = refl
zip_words k (x ∷ xs) [] e = absurd (omega arith)
zip_words k (x ∷ xs) (y ∷ ys) e = more_words (joins k) (word_of k x y) x y (zip2 (word_of k) xs ys) xs ys (same_bits k x y 64 (omega arith)) (zip_words k xs ys (omega arith))

pub left_words : (k : Ones) (a n : ℕ) (ws : List ℕ) → n ≡ length ws → spelled (map (chosen (word_of k a 0) (word_of k a (2 ^ 64 - 1))) ws) ≡ bitwise (joins k) (spelled (replicate n a)) (spelled ws)
left_words k a zero [] e = refl
left_words k a (suc n) [] e = absurd (omega arith)
left_words k a zero (w ∷ ws) e = absurd (omega arith)
left_words k a (suc n) (w ∷ ws) e = more_words (joins k) (chosen (word_of k a 0) (word_of k a (2 ^ 64 - 1)) w) a w (map (chosen (word_of k a 0) (word_of k a (2 ^ 64 - 1))) ws) (replicate n a) ws (left_below k a w) (left_words k a n ws (omega arith))

pub right_words : (k : Ones) (b n : ℕ) (ws : List ℕ) → n ≡ length ws → spelled (map (chosen (word_of k 0 b) (word_of k (2 ^ 64 - 1) b)) ws) ≡ bitwise (joins k) (spelled ws) (spelled (replicate n b))
right_words k b zero [] e = refl
right_words k b (suc n) [] e = absurd (omega arith)
right_words k b zero (w ∷ ws) e = absurd (omega arith)
right_words k b (suc n) (w ∷ ws) e = more_words (joins k) (chosen (word_of k 0 b) (word_of k (2 ^ 64 - 1) b) w) w b (map (chosen (word_of k 0 b) (word_of k (2 ^ 64 - 1) b)) ws) ws (replicate n b) (right_below k b w) (right_words k b n ws (omega arith))

-- nothing to choose
chosen_below : (z x : ℕ) → bits_below z 64 ≡ bits_below (chosen z z x) 64
chosen_below z x =
    ext_get_or false (bits_below z 64) (bits_below (chosen z z x) 64) (length_below z 64 ∙ sym (length_below (chosen z z x) 64)) (λ i l.
    let under : i < 64 = omega (arith, length_below z 64) in
    get_below z 64 i under
    ∙ sym (picked (λ y. eqb (bit_at z i) 1) (eqb (bit_at x i) 1))
    ∙ sym (chosen_bit z z x i)
    ∙ sym (get_below (chosen z z x) 64 i under))

pub chosen_none : (z o n : ℕ) (ws : List ℕ) → z ≡ o → n ≡ length ws → spelled (replicate n z) ≡ spelled (map (chosen z o) ws)
chosen_none z o zero [] s e = refl
chosen_none z o (suc n) [] s e = absurd (omega arith)
chosen_none z o zero (w ∷ ws) s e = absurd (omega arith)
chosen_none z o (suc n) (w ∷ ws) s e =
    ap (λ bits. bits ++ spelled (replicate n z)) (chosen_below z w ∙ ap (λ o. bits_below (chosen z o w) 64) s)
    ∙ ap (λ bits. bits_below (chosen z o w) 64 ++ bits) (chosen_none z o n ws s (omega arith))

pub joined_words : (k : Ones) (n a b : ℕ) → bitwise (joins k) (spelled (replicate n a)) (spelled (replicate n b)) ≡ spelled (replicate n (word_of k a b))
joined_words k zero a b = refl
joined_words k (suc n) a b =
    bitwise-append (joins k) (bits_below a 64) (bits_below b 64) (spelled (replicate n a)) (spelled (replicate n b)) (length_below a 64 ∙ sym (length_below b 64))
    ∙ ap (λ bits. bits ++ bitwise (joins k) (spelled (replicate n a)) (spelled (replicate n b))) (sym (same_bits k a b 64 (omega arith)))
    ∙ ap (λ bits. bits_below (word_of k a b) 64 ++ bits) (joined_words k n a b)

-- equal words after an unfinished one are equal words, turned, before it
turn_words : (c w t k : ℕ) → c < 2 ^ t → w < 2 ^ 64 → t < 64 → c ≡ w / 2 ^ (64 - t) → bits_below c t ++ spelled (replicate k w) ≡ spelled (replicate k ((c + w * 2 ^ t % 2 ^ 128) % 2 ^ 64)) ++ bits_below c t
turn_words c w t zero l m u e = append-nil (bits_below c t)
turn_words c w t (suc k) l m u e =
    sym (append_assoc (bits_below c t) (bits_below w 64) (spelled (replicate k w)))
    ∙ ap (λ bits. bits ++ spelled (replicate k w)) (sym (over c w t 64 l m (omega arith) u (omega arith)) ∙ ap (λ v. bits_below turned 64 ++ bits_below v (t + 64 - 64)) (high_is c w t t (omega arith) l m u ∙ sym e) ∙ ap (λ n. bits_below turned 64 ++ bits_below c n) same)
    ∙ append_assoc (bits_below turned 64) (bits_below c t) (spelled (replicate k w))
    ∙ ap (λ bits. bits_below turned 64 ++ bits) (turn_words c w t k l m u e)
    ∙ sym (append_assoc (bits_below turned 64) (spelled (replicate k turned)) (bits_below c t))
  where
    turned : ℕ
    turned = (c + w * 2 ^ t % 2 ^ 128) % 2 ^ 64

    same : t + 64 - 64 ≡ t
    same = omega arith

pub repeat_words : (new ws : List ℕ) (before : List Bool) (c w t k count : ℕ) → new ≡ ws ++ replicate k ((c + w * 2 ^ t % 2 ^ 128) % 2 ^ 64) → count ≡ suc k → c < 2 ^ t → w < 2 ^ 64 → t < 64 → c ≡ w / 2 ^ (64 - t) → spelled ws ++ bits_below c t ≡ before ++ bits_below w 64 → spelled new ++ bits_below c t ≡ before ++ spelled (replicate count w)
repeat_words new ws before c w t k count e n l m u r h =
    ap (λ vs. spelled vs ++ bits_below c t) e
    ∙ ap (λ bits. bits ++ bits_below c t) (spelled-append ws (replicate k turned))
    ∙ append_assoc (spelled ws) (spelled (replicate k turned)) (bits_below c t)
    ∙ ap (λ bits. spelled ws ++ bits) (sym (turn_words c w t k l m u r))
    ∙ sym (append_assoc (spelled ws) (bits_below c t) (spelled (replicate k w)))
    ∙ ap (λ bits. bits ++ spelled (replicate k w)) h
    ∙ append_assoc before (bits_below w 64) (spelled (replicate k w))
    ∙ ap (λ n. before ++ spelled (replicate n w)) (sym n)
  where
    turned : ℕ
    turned = (c + w * 2 ^ t % 2 ^ 128) % 2 ^ 64

-- words of one number
count-append : (xs ys : List Bool) → count_by (λ b. b) (xs ++ ys) ≡ count_by (λ b. b) xs + count_by (λ b. b) ys
count-append xs ys = sum_by-append (λ b. cond b 1 0) xs ys

mask_below : (w n : ℕ) → mask_l (bits_below w n) ≡ w % 2 ^ n
unfolding bits_below
mask_below w zero = sym (mod-one w)
mask_below w (suc n) =
    let more : n + 1 ≡ suc n = omega arith in
    let h : w % 2 ^ (n + 1) ≡ (w / 2 % 2 ^ n) * 2 + w % 2 = mod-pow-add w n 1 in
    let lowest : cond (eqb (w % 2) 1) 1 0 ≡ w % 2 = lowest_bit (w % 2) (omega arith) in
    ap (λ v. cond (eqb (w % 2) 1) 1 0 + 2 * v) (mask_below (w / 2) n) ∙ omega (arith, h, lowest) ∙ ap (λ i. w % 2 ^ i) more
  where
    lowest_bit : (b : ℕ) → b < 2 → cond (eqb b 1) 1 0 ≡ b
    lowest_bit zero l = refl
    lowest_bit (suc zero) l = refl
    lowest_bit (suc (suc b)) l = absurd (omega arith)

pub count_below : (w n : ℕ) → w < 2 ^ n → count_by (λ b. b) (bits_below w n) ≡ count_ones w
count_below w n l =
    sym (ones-mask_l (λ b. b) (bits_below w n)) ∙ ap count_ones (ap mask_l (map_id (bits_below w n)) ∙ mask_below w n ∙ mod-eq_of_lt l)
  where
    map_id : (bs : List Bool) → map (λ b. b) bs ≡ bs
    map_id [] = refl
    map_id (b ∷ bs) = ap (λ t. b ∷ t) (map_id bs)

pub count_words : (n w : ℕ) → w < 2 ^ 64 → count_by (λ b. b) (spelled (replicate n w)) ≡ n * count_ones w
count_words zero w l = omega arith
count_words (suc n) w l =
    let h = count-append (bits_below w 64) (spelled (replicate n w)) in
    let more : suc n * count_ones w ≡ count_ones w + n * count_ones w = omega arith in
    omega (arith, h, count_below w 64 l, count_words n w l, more)

pub count_first : (n w : ℕ) (ws : List ℕ) → w < 2 ^ 64 → (count_by (λ b. b) (spelled (replicate n w ++ ws)) ≡ n * count_ones w + count_by (λ b. b) (spelled ws)) × (n * count_ones w ≤ 64 * n)
count_first n w ws l =
    let all = ap (count_by (λ b. b)) (spelled-append (replicate n w) ws) ∙ count-append (spelled (replicate n w)) (spelled ws) in
    let most = count_by-le-length (λ b. b) (spelled (replicate n w)) in
    let long = length_spelled (replicate n w) in
    (omega (arith, all, count_words n w l), omega (arith, most, long, count_words n w l, length-replicate n w))

pub count_all : (ws : List ℕ) (last n : ℕ) → last < 2 ^ n → (count_by (λ b. b) (spelled ws ++ bits_below last n) ≡ count_by (λ b. b) (spelled ws) + count_ones last) × (count_ones last ≤ n)
count_all ws last n l =
    let all = count-append (spelled ws) (bits_below last n) in
    let most = count_by-le-length (λ b. b) (bits_below last n) in
    (omega (arith, all, count_below last n l), omega (arith, most, length_below last n, count_below last n l))

-- the bit at a place of words and an unfinished one
pub get_words : (ws : List ℕ) (last n i : ℕ) → i < 64 * length ws + n → n ≤ 64 → get_or (spelled ws ++ bits_below last n) i false ≡ eqb (bit_at (get_or (ws ++ last ∷ []) (i / 64) 0) (i % 64)) 1
get_words [] last n i l wide =
    let q : i / 64 ≡ 0 = div-eq_of_lt (omega arith) in
    let r : i % 64 ≡ i = mod-eq_of_lt (omega arith) in
    rw (q, r) (get_below last n i (omega arith))
get_words (w ∷ ws) last n i l wide =
    ap (λ bits. get_or bits i false) (append_assoc (bits_below w 64) (spelled ws) (bits_below last n))
    ∙ elim (cases_lt i 64) [
      | inl first ↦
          let q : i / 64 ≡ 0 = div-eq_of_lt first in
          let r : i % 64 ≡ i = mod-eq_of_lt first in
          rw (q, r) (get_or_append_left (bits_below w 64) (spelled ws ++ bits_below last n) false i (omega (arith, length_below w 64)) ∙ get_below w 64 i first)
      | inr later ↦
          let e : i ≡ (i - 64) + 64 = omega arith in
          let q : i / 64 ≡ suc ((i - 64) / 64) = omega arith in
          let r : i % 64 ≡ (i - 64) % 64 = omega arith in
          rw (q, r) (get_or-append_right (bits_below w 64) (spelled ws ++ bits_below last n) 64 i false (length_below w 64) later ∙ get_words ws last n (i - 64) (omega arith) wide)
    ]

pub bit_is : (ws : List ℕ) (last n i : ℕ) → i < 64 * length ws + n → n ≤ 64 → slice_get (spelled ws ++ bits_below last n) i ≡ Some (eqb (bit_at (get_or (ws ++ last ∷ []) (i / 64) 0) (i % 64)) 1)
bit_is ws last n i l wide =
    let long = length-append (spelled ws) (bits_below last n) in
    slice_get-get_or (spelled ws ++ bits_below last n) i false (omega (arith, long, length_spelled ws, length_below last n))
    ∙ ap (λ b. Some b) (get_words ws last n i l wide)

-- words of equal bits
pub below_ones : (n : ℕ) → n ≤ 64 → bits_below (2 ^ 64 - 1) n ≡ replicate n true
below_ones n l =
    ext_get_or false (bits_below (2 ^ 64 - 1) n) (replicate n true) (length_below (2 ^ 64 - 1) n ∙ sym (length-replicate n true)) (λ i u.
    let under : i < n = omega (arith, length_below (2 ^ 64 - 1) n) in
    get_below (2 ^ 64 - 1) n i under ∙ ap (λ x. eqb x 1) (bit_at_ones 64 i (omega arith)) ∙ sym (get_or-replicate n i true false under))

pub below_zeros : (n : ℕ) → bits_below 0 n ≡ replicate n false
below_zeros n =
    ext_get_or false (bits_below 0 n) (replicate n false) (length_below 0 n ∙ sym (length-replicate n false)) (λ i u.
    let under : i < n = omega (arith, length_below 0 n) in
    get_below 0 n i under ∙ ap (λ x. eqb x 1) (bit_at-zero i) ∙ sym (get_or-replicate n i false false under))

below_equal : (bit : Bool) (n : ℕ) → n ≤ 64 → bits_below (cond bit (2 ^ 64 - 1) 0) n ≡ replicate n bit
below_equal true n l = below_ones n l
below_equal false n l = below_zeros n

spelled_equal : (bit : Bool) (k : ℕ) → spelled (replicate k (cond bit (2 ^ 64 - 1) 0)) ≡ replicate (64 * k) bit
spelled_equal bit zero = refl
spelled_equal bit (suc k) =
    let more : 64 + 64 * k ≡ 64 * suc k = omega arith in
    ap (λ bits. bits ++ spelled (replicate k (cond bit (2 ^ 64 - 1) 0))) (below_equal bit 64 (omega arith))
    ∙ ap (λ bits. replicate 64 bit ++ bits) (spelled_equal bit k)
    ∙ replicate-append-replicate 64 (64 * k) bit ∙ ap (λ n. replicate n bit) more

pub extend_bits : (old mid new : List Bool) (bit : Bool) (w v n : ℕ) → w ≡ cond bit (2 ^ 64 - 1) 0 → v ≡ w % 2 ^ (n % 64) → mid ≡ old ++ spelled (replicate (n / 64) w) → new ≡ mid ++ bits_below v (n % 64) → new ≡ old ++ replicate n bit
extend_bits old mid new bit w v n e f g h =
    let parts : 64 * (n / 64) + n % 64 ≡ n = omega arith in
    let word : bits_below w (n % 64) ≡ replicate (n % 64) bit = ap (λ x. bits_below x (n % 64)) e ∙ below_equal bit (n % 64) (omega arith) in
    h ∙ ap (λ bits. bits ++ bits_below v (n % 64)) (g ∙ ap (λ x. old ++ spelled (replicate (n / 64) x)) e ∙ ap (λ bits. old ++ bits) (spelled_equal bit (n / 64)))
    ∙ ap (λ bits. (old ++ replicate (64 * (n / 64)) bit) ++ bits) (ap (λ x. bits_below x (n % 64)) f ∙ low_below w (n % 64) ∙ word)
    ∙ append_assoc old (replicate (64 * (n / 64)) bit) (replicate (n % 64) bit)
    ∙ ap (λ bits. old ++ bits) (replicate-append-replicate (64 * (n / 64)) (n % 64) bit ∙ ap (λ k. replicate k bit) parts)

pub count_more : (left rest first : List ℕ) (ones more all : ℕ) → left ≡ first ++ rest → more ≡ count_by (λ b. b) (spelled first) → ones + count_by (λ b. b) (spelled left) ≡ all → ones + more + count_by (λ b. b) (spelled rest) ≡ all
count_more left rest first ones more all e m h =
    let both = ap (λ ws. count_by (λ b. b) (spelled ws)) e ∙ ap (count_by (λ b. b)) (spelled-append first rest) ∙ count-append (spelled first) (spelled rest) in
    omega (arith, both, m, h)

pub combine_more : (k : Ones) (out new first second left right l r : List ℕ) (all : List Bool) → left ≡ first ++ l → right ≡ second ++ r → length first ≡ length second → spelled new ≡ spelled out ++ bitwise (joins k) (spelled first) (spelled second) → spelled out ++ bitwise (joins k) (spelled left) (spelled right) ≡ all → spelled new ++ bitwise (joins k) (spelled l) (spelled r) ≡ all
combine_more k out new first second left right l r all e f even g h =
    ap (λ bits. bits ++ bitwise (joins k) (spelled l) (spelled r)) g
    ∙ append_assoc (spelled out) (bitwise (joins k) (spelled first) (spelled second)) (bitwise (joins k) (spelled l) (spelled r))
    ∙ ap (λ bits. spelled out ++ bits) (sym (bitwise-append (joins k) (spelled first) (spelled second) (spelled l) (spelled r) (length_spelled first ∙ ap (λ n. 64 * n) even ∙ sym (length_spelled second)))
    ∙ ap (λ bits. bitwise (joins k) bits (spelled second ++ spelled r)) (sym (spelled-append first l) ∙ ap spelled (sym e))
    ∙ ap (bitwise (joins k) (spelled left)) (sym (spelled-append second r) ∙ ap spelled (sym f)))
    ∙ h

pub combine_end : (k : Ones) (out left right : List ℕ) (all : List Bool) → left ≡ [] → spelled out ++ bitwise (joins k) (spelled left) (spelled right) ≡ all → spelled out ≡ all
combine_end k out left right all e h =
    sym (append-nil (spelled out)) ∙ ap (λ ws. spelled out ++ bitwise (joins k) (spelled ws) (spelled right)) (sym e) ∙ h

-- whole words and an unfinished one, joined
pub combine_all : (k : Ones) (new ws vs : List ℕ) (a b l n m : ℕ) → spelled new ≡ bitwise (joins k) (spelled ws) (spelled vs) → l ≡ word_of k a b % 2 ^ n → length ws ≡ length vs → m ≡ n → n ≤ 64 → spelled new ++ bits_below l n ≡ bitwise (joins k) (spelled ws ++ bits_below a n) (spelled vs ++ bits_below b m)
combine_all k new ws vs a b l n m e f long same wide =
    ap (λ bits. bits ++ bits_below l n) e
    ∙ ap (λ bits. bitwise (joins k) (spelled ws) (spelled vs) ++ bits) (ap (λ x. bits_below x n) f ∙ low_below (word_of k a b) n ∙ same_bits k a b n wide)
    ∙ sym (bitwise-append (joins k) (spelled ws) (spelled vs) (bits_below a n) (bits_below b n) (length_spelled ws ∙ ap (λ i. 64 * i) long ∙ sym (length_spelled vs)))
    ∙ ap (λ i. bitwise (joins k) (spelled ws ++ bits_below a n) (spelled vs ++ bits_below b i)) (sym same)

pub not_self : (xs : List Bool) → bitwise (joins OfNotFirst) xs xs ≡ map not xs
not_self [] = refl
not_self (x ∷ xs) = ap (λ bits. not x ∷ bits) (not_self xs)

pub join_more : (old new : List Bool) (left first rest : List ℕ) (all : List Bool) → left ≡ first ++ rest → new ≡ old ++ spelled first → old ++ spelled left ≡ all → new ++ spelled rest ≡ all
join_more old new left first rest all e f h =
    ap (λ bits. bits ++ spelled rest) f
    ∙ append_assoc old (spelled first) (spelled rest)
    ∙ ap (λ bits. old ++ bits) (sym (ap spelled e ∙ spelled-append first rest))
    ∙ h

-- one more word behind an unfinished one
pub shift_more : (out : List ℕ) (a w t : ℕ) (words left : List ℕ) (all : List Bool) → left ≡ w ∷ words → a < 2 ^ t → w < 2 ^ 64 → t < 64 → (spelled out ++ bits_below a t) ++ spelled left ≡ all → (spelled (out ++ (a + w * 2 ^ t % 2 ^ 128) % 2 ^ 64 ∷ []) ++ bits_below ((a + w * 2 ^ t % 2 ^ 128) / 2 ^ 64) t) ++ spelled words ≡ all
shift_more out a w t words left all e l m u h =
    let same : t + 64 - 64 ≡ t = omega arith in
    ap (λ n. (spelled (out ++ (a + w * 2 ^ t % 2 ^ 128) % 2 ^ 64 ∷ []) ++ bits_below ((a + w * 2 ^ t % 2 ^ 128) / 2 ^ 64) n) ++ spelled words) (sym same)
    ∙ ap (λ bits. bits ++ spelled words) (put_over (out ++ (a + w * 2 ^ t % 2 ^ 128) % 2 ^ 64 ∷ []) out a w t 64 1 refl refl l m (omega arith) u (omega arith))
    ∙ append_assoc (spelled out ++ bits_below a t) (bits_below w 64) (spelled words)
    ∙ ap (λ ws. (spelled out ++ bits_below a t) ++ spelled ws) (sym e)
    ∙ h

pub high_again : (a w t : ℕ) → a < 2 ^ t → w < 2 ^ 64 → t < 64 → (a + w * 2 ^ t % 2 ^ 128) / 2 ^ 64 < 2 ^ t
high_again a w t l m u =
    let same : t + 64 - 64 ≡ t = omega arith in
    subst (λ n. (a + w * 2 ^ t % 2 ^ 128) / 2 ^ 64 < 2 ^ n) same (high_small a w t 64 l m (omega arith) u (omega arith))

pub nothing_left : (bits all : List Bool) (left : List ℕ) → left ≡ [] → bits ++ spelled left ≡ all → bits ≡ all
nothing_left bits all left e h = sym (append-nil bits) ∙ ap (λ ws. bits ++ spelled ws) (sym e) ∙ h

-- ones of a list of words, one word at a time
pub count_one_more : (ws left rest : List ℕ) (w ones : ℕ) → left ≡ w ∷ rest → w < 2 ^ 64 → ones + count_by (λ b. b) (spelled left) ≡ count_by (λ b. b) (spelled ws) → (ones + count_ones w + count_by (λ b. b) (spelled rest) ≡ count_by (λ b. b) (spelled ws)) × (count_ones w ≤ 64)
count_one_more ws left rest w ones e l h =
    let f = count_first 1 w rest l in
    let same = ap (λ xs. count_by (λ b. b) (spelled xs)) e in
    (omega (arith, f.0, same, h), omega (arith, f.1))
