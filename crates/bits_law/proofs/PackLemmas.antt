-- Words of literal columns, and their places.
use Rattle.std.proofs.Common.{◌≡◌, ℕ, zero, suc, ◌+◌, ◌-◌, ◌*◌, ◌/◌, ◌%◌, ◌^◌, ◌<◌, ◌≤◌, min, Bool, true, false, eqb, ltb, ◌⊎◌, ◌&&◌, ◌||◌, not, cond, List, [], ◌∷◌, ◌++◌, length, get_or, take, count_ones, refl, ap, sym, ◌∙◌, subst, inl, inr, arith}
use Rattle.std.proofs.lemmas.Bool.{cases_eq, cases_lt, cases_Bool, eqb-true}
use Rattle.std.proofs.lemmas.Bool.Decides.{nat_tests}
use Rattle.std.proofs.lemmas.Nat.{ones_le_self, shr_split, shr-shr, pow_pos, mod_below}
use Rattle.std.proofs.lemmas.Nat.Bits.{bit_at-lt, bit_at_xor, bit_at_clear_same, bit_at_clear_other}
use Rattle.std.proofs.lemmas.Grind.{pow_more}
use Rattle.std.proofs.Math.Nat.{div-div-eq-div-mul, div-one}
use Rattle.std.proofs.lemmas.List.{take-append-le, take_all, length-take, get_or-take, length-append, get_or_append_left, get_or-append_right, get_or_push}
use Rattle.std.specs.Prelude.{bit_and, bit_or, bit_xor}
use Rattle.std.specs.Int.{bit_at, bit_not, w64}
use lib.Count.{ones_step, ones_cat}
use Rattle.bits_law.specs.declared.head.Head.{Head}
use Rattle.bits_law.specs.Numbers.{has_bit}
use Rattle.bits_law.specs.Packed.{no_head, column_word, IsInside, IsHead, AreHeads, AreFilled, Begins}
use Rattle.bits_law.proofs.WordBits.{bit-none, bit-and, bit-or, bit-not, Highest, up_low, up_high, down}

-- the ones of a word from a bit up
odd_bit : (x : ℕ) → eqb x 1 ≡ true → x ≡ 1
odd_bit x e = eqb-true x 1 e

even_bit : (x : ℕ) → x < 2 → eqb x 1 ≡ false → x ≡ 0
even_bit zero l e = refl
even_bit (suc zero) l e = absurd (true_false e)
  where
    true_false : true ≡ false → ⊥
    true_false p = cc
even_bit (suc (suc x)) l e = absurd (omega arith)

pub ones_set : (n c : ℕ) → has_bit n c ≡ true → count_ones (n / 2 ^ c) ≡ count_ones (n / 2 ^ c / 2) + 1
ones_set n c e =
    let odd : n / 2 ^ c % 2 ≡ 1 = odd_bit (n / 2 ^ c % 2) e in
    ones_step (n / 2 ^ c) ∙ omega (arith, odd)

pub ones_clear : (n c : ℕ) → has_bit n c ≡ false → count_ones (n / 2 ^ c) ≡ count_ones (n / 2 ^ c / 2)
ones_clear n c e =
    let even : n / 2 ^ c % 2 ≡ 0 = even_bit (n / 2 ^ c % 2) (bit_at-lt n c) e in
    ones_step (n / 2 ^ c) ∙ omega (arith, even)

pub half_of : (n c : ℕ) → n / 2 ^ c / 2 ≡ n / 2 ^ (c + 1)
half_of n c = div-div-eq-div-mul n (2 ^ c) 2 ∙ ap (λ x. n / x) (sym (pow_more 2 c))

pub ones_above : (n c : ℕ) → count_ones (n / 2 ^ c) ≤ count_ones n
ones_above n c =
    let low : n % 2 ^ c < 2 ^ c = mod_below n (2 ^ c) (pow_pos c) in
    let cat : count_ones (n / 2 ^ c * 2 ^ c + n % 2 ^ c) ≡ count_ones (n / 2 ^ c) + count_ones (n % 2 ^ c) = ones_cat c (n / 2 ^ c) (n % 2 ^ c) low in
    let whole : count_ones (n / 2 ^ c * 2 ^ c + n % 2 ^ c) ≡ count_ones n = ap count_ones (shr_split n c) in
    omega (arith, cat, whole)

pub place_inside : (n c : ℕ) → has_bit n c ≡ true → count_ones (n / 2 ^ c / 2) < count_ones n
place_inside n c e = omega (arith, ones_set n c e, ones_above n c)

-- lists that begin with another
module _ {A : Type 0} where
  pub begins_same : (xs : List A) → Begins xs xs
  begins_same xs = take_all (length xs) xs (omega arith)

  pub begins_long : (old new : List A) → Begins old new → length old ≤ length new
  begins_long old new e =
      let l : min (length old) (length new) ≡ length old = sym (length-take (length old) new) ∙ ap length e in
      omega (arith, l)

  pub begins_more : (old new rest : List A) → Begins old new → Begins old (new ++ rest)
  begins_more old new rest e = take-append-le (length old) new rest (begins_long old new e) ∙ e

  pub begins_get : (old new : List A) (k : ℕ) (d : A) → Begins old new → k < length old → get_or new k d ≡ get_or old k d
  begins_get old new k d e l = sym (get_or-take (length old) new k d l) ∙ ap (λ xs. get_or xs k d) e

  pub begins_trans : (a b c : List A) → Begins a b → Begins b c → Begins a c
  begins_trans a b c e f = sym (take_of_take (length a) (length b) c (begins_long a b e)) ∙ ap (take (length a)) f ∙ e
    where
      take_of_take : (m n : ℕ) (xs : List A) → m ≤ n → take m (take n xs) ≡ take m xs
      take_of_take zero n xs l = refl
      take_of_take (suc m) zero xs l = absurd (omega arith)
      take_of_take (suc m) (suc n) [] l = refl
      take_of_take (suc m) (suc n) (x ∷ xs) l = ap (λ ys. x ∷ ys) (take_of_take m n xs (omega arith))

-- columns are filled in, from the highest down
pub filled_none : (old : List ℕ) (literal : ℕ) (word : ℕ → ℕ → Bool) → literal < 2 ^ 64 → AreFilled old old literal 64 word
filled_none old literal word small = record {
  long = let none : literal / 2 ^ 64 ≡ 0 = omega arith in omega (arith, none, ones_le_self (literal / 2 ^ 64));
  before = begins_same old;
  each = λ p i l u v e. absurd (omega arith);
}

pub filled_nothing : (old : List ℕ) (literal : ℕ) (word : ℕ → ℕ → Bool) → literal ≡ 0 → AreFilled old old literal 0 word
filled_nothing old literal word none = record {
  long = let whole : literal / 2 ^ 0 ≡ 0 = div-one literal ∙ none in omega (arith, whole, ones_le_self (literal / 2 ^ 0));
  before = begins_same old;
  each = λ p i l u v e. absurd (clash (ap (λ x. has_bit x p) none) e (bit-none p));
}
  where
    clash : {x y : Bool} → x ≡ y → x ≡ true → y ≡ false → ⊥
    clash p q r = cc

pub filled_more : (old new : List ℕ) (literal c at w : ℕ) (word : ℕ → ℕ → Bool) → c ≡ at + 1 → has_bit literal at ≡ true → ((i : ℕ) → i < 64 → has_bit w i ≡ word at i) → AreFilled old new literal c word → AreFilled old (new ++ w ∷ []) literal at word
filled_more old new literal c at w word is set_there e f = record {
  long = length-append new (w ∷ []) ∙ omega (arith, place, more);
  before = begins_more old new (w ∷ []) f.before;
  each = λ p i l u v s. elim (cases_eq p at) [
    | inl same ↦ rw same (
        ap (λ x. has_bit x i) (get_or-append_right new (w ∷ []) (length new) (length old + count_ones (literal / 2 ^ at / 2)) 0 refl (omega (arith, place))
        ∙ ap (λ k. get_or (w ∷ []) k 0) (let none : length old + count_ones (literal / 2 ^ at / 2) - length new ≡ 0 = omega (arith, place) in none))
        ∙ e i v)
    | inr other ↦
        let up : c ≤ p = omega arith in
        let less : count_ones (literal / 2 ^ p / 2) < count_ones (literal / 2 ^ p) = omega (arith, ones_set literal p s) in
        ap (λ x. has_bit x i) (get_or_append_left new (w ∷ []) 0 (length old + count_ones (literal / 2 ^ p / 2)) (omega (arith, f.long, below p up s)))
        ∙ f.each p i up u v s
  ];
}
  where
    half : literal / 2 ^ at / 2 ≡ literal / 2 ^ c
    half = half_of literal at ∙ ap (λ n. literal / 2 ^ n) (sym is)

    place : length new ≡ length old + count_ones (literal / 2 ^ at / 2)
    place = f.long ∙ ap (λ n. length old + count_ones n) (sym half)

    more : count_ones (literal / 2 ^ at) ≡ count_ones (literal / 2 ^ at / 2) + 1
    more = ones_set literal at set_there

    -- a column above has its word among those before
    below : (p : ℕ) → c ≤ p → has_bit literal p ≡ true → count_ones (literal / 2 ^ p / 2) < count_ones (literal / 2 ^ c)
    below p up s =
        let back : c + (p - c) ≡ p = omega arith in
        let deep : literal / 2 ^ c / 2 ^ (p - c) ≡ literal / 2 ^ p = shr_two literal c (p - c) ∙ ap (λ n. literal / 2 ^ n) back in
        let down = ones_above (literal / 2 ^ c) (p - c) in
        omega (arith, ones_set literal p s, down, ap count_ones deep)
      where
        shr_two : (n a b : ℕ) → n / 2 ^ a / 2 ^ b ≡ n / 2 ^ (a + b)
        shr_two n a b = shr-shr n a b

pub filled_skip : (old new : List ℕ) (literal c at : ℕ) (word : ℕ → ℕ → Bool) → c ≡ at + 1 → has_bit literal at ≡ false → AreFilled old new literal c word → AreFilled old new literal at word
filled_skip old new literal c at word is clear_there f = record {
  long = f.long ∙ ap (λ n. length old + count_ones n) (ap (λ n. literal / 2 ^ n) is ∙ sym (half_of literal at)) ∙ ap (λ n. length old + n) (sym (ones_clear literal at clear_there));
  before = f.before;
  each = λ p i l u v s. elim (cases_eq p at) [
    | inl same ↦ absurd (clash (ap (has_bit literal) same) s clear_there)
    | inr other ↦ f.each p i (omega arith) u v s
  ];
}
  where
    clash : {x y : Bool} → x ≡ y → x ≡ true → y ≡ false → ⊥
    clash p q r = cc

-- no column from `c` up to `c + d` has a word
pub filled_down : (old new : List ℕ) (own c d : ℕ) (word : ℕ → ℕ → Bool) → ((p : ℕ) → c ≤ p → p < c + d → has_bit own p ≡ false) → AreFilled old new own (c + d) word → AreFilled old new own c word
filled_down old new own c zero word none f = subst (λ n. AreFilled old new own n word) (let same : c + 0 ≡ c = omega arith in same) f
filled_down old new own c (suc d) word none f =
    let up : c + suc d ≡ c + d + 1 = omega arith in
    filled_down old new own c d word (λ p l u. none p l (omega arith)) (filled_skip old new own (c + suc d) (c + d) word up (none (c + d) (omega arith) (omega arith)) f)

-- the bits of `own` below `at` are left
abbrev pub IsLeft : ℕ → ℕ → ℕ → Type 0
IsLeft left own at = (p : ℕ) → p < 64 → has_bit left p ≡ (has_bit own p && ltb p at)

pub left_all : (own : ℕ) → IsLeft own own 64
left_all own = λ p l. let yes : ltb p 64 ≡ true = grind (arith, nat_tests) in and_yes (has_bit own p) ∙ ap (λ x. has_bit own p && x) (sym yes)
  where
    and_yes : (x : Bool) → x ≡ (x && true)
    and_yes true = refl
    and_yes false = refl

pub own_set : (left own at high : ℕ) → IsLeft left own at → Highest left high → has_bit own high ≡ true
own_set left own at high is h = and_left (has_bit own high) (ltb high at) (sym (is high h.inside) ∙ h.was)
  where
    and_left : (x y : Bool) → (x && y) ≡ true → x ≡ true
    and_left true y e = refl
    and_left false y e = e

pub left_less : (left own at high : ℕ) → IsLeft left own at → Highest left high → high < at
left_less left own at high is h = below (has_bit own high) (sym (is high h.inside) ∙ h.was)
  where
    below : (b : Bool) → (b && ltb high at) ≡ true → high < at
    below b e = elim (cases_lt high at) [
      | inl less ↦ less
      | inr past ↦ let no : ltb high at ≡ false = grind (arith, nat_tests) in absurd (never b (ap (λ x. b && x) (sym no) ∙ e))
    ]
      where
        never : (b : Bool) → (b && false) ≡ true → ⊥
        never true p = cc
        never false p = cc

pub left_more : (left own at high : ℕ) → own < 2 ^ 64 → IsLeft left own at → Highest left high → IsLeft (bit_and left (bit_not w64 (1 * 2 ^ high % 2 ^ 64))) own high
left_more left own at high small is h = λ p l. elim (cases_eq p high) [
  | inl same ↦
      let no : ltb p high ≡ false = grind (arith, nat_tests) in
      ap (λ n. has_bit (bit_and left (bit_not w64 (1 * 2 ^ high % 2 ^ 64))) n) same ∙ ap (λ x. eqb x 1) (bit_at_clear_same w64 left high h.inside) ∙ and_no (has_bit own p) (ltb p high) no
  | inr other ↦ ap (λ x. eqb x 1) (bit_at_clear_other w64 left high h.inside p l other) ∙ elim (cases_lt p high) [
    | inl less ↦
        let now : ltb p high ≡ true = grind (arith, nat_tests) in
        let before : ltb p at ≡ true = let down = left_less left own at high is h in grind (arith, nat_tests) in
        is p l ∙ ap (λ x. has_bit own p && x) (before ∙ sym now)
    | inr past ↦
        let no : ltb p high ≡ false = grind (arith, nat_tests) in
        h.above p (omega arith) ∙ and_no (has_bit own p) (ltb p high) no
  ]
]
  where
    and_no : (x y : Bool) → y ≡ false → false ≡ (x && y)
    and_no true y e = sym e
    and_no false y e = refl

-- the columns above the highest that is left are filled in
pub filled_above : (old new : List ℕ) (left own at high : ℕ) (word : ℕ → ℕ → Bool) → at ≤ 64 → IsLeft left own at → Highest left high → AreFilled old new own at word → AreFilled old new own (high + 1) word
filled_above old new left own at high word wide is h f =
    let down = left_less left own at high is h in
    let up : at ≡ high + 1 + (at - (high + 1)) = omega (arith, down) in
    filled_down old new own (high + 1) (at - (high + 1)) word (λ p l u. none p (omega arith) (omega (arith, up, u))) (subst (λ n. AreFilled old new own n word) up f)
  where
    none : (p : ℕ) → high < p → p < at → has_bit own p ≡ false
    none p l u =
        let yes : ltb p at ≡ true = grind (arith, nat_tests) in
        and_yes (has_bit own p) ∙ ap (λ x. has_bit own p && x) (sym yes) ∙ sym (is p (omega (arith, wide))) ∙ h.above p l
      where
        and_yes : (x : Bool) → x ≡ (x && true)
        and_yes true = refl
        and_yes false = refl

pub filled_end : (old new : List ℕ) (left own at : ℕ) (word : ℕ → ℕ → Bool) → at ≤ 64 → left ≡ 0 → IsLeft left own at → AreFilled old new own at word → AreFilled old new own 0 word
filled_end old new left own at word wide empty is f =
    filled_down old new own 0 at word (λ p l u. none p u) (subst (λ n. AreFilled old new own n word) (let same : at ≡ 0 + at = omega arith in same) f)
  where
    none : (p : ℕ) → p < 0 + at → has_bit own p ≡ false
    none p u =
        let yes : ltb p at ≡ true = grind (arith, nat_tests) in
        and_yes (has_bit own p) ∙ ap (λ x. has_bit own p && x) (sym yes) ∙ sym (is p (omega (arith, wide))) ∙ ap (λ n. has_bit n p) empty ∙ bit-none p
      where
        and_yes : (x : Bool) → x ≡ (x && true)
        and_yes true = refl
        and_yes false = refl

-- a column that repeats the one below it
pub xor_same : (a b i : ℕ) → has_bit (bit_xor a b) i ≡ false → has_bit a i ≡ has_bit b i
xor_same a b i e = at (bit_at a i) (bit_at b i) (bit_at-lt a i) (bit_at-lt b i) (sym (ap (λ x. eqb x 1) (bit_at_xor a b i)) ∙ e)
  where
    at : (x y : ℕ) → x < 2 → y < 2 → eqb ((x + y) % 2) 1 ≡ false → eqb x 1 ≡ eqb y 1
    at zero zero l m e = refl
    at zero (suc zero) l m e = cc
    at zero (suc (suc y)) l m e = absurd (omega arith)
    at (suc zero) zero l m e = cc
    at (suc zero) (suc zero) l m e = refl
    at (suc zero) (suc (suc y)) l m e = absurd (omega arith)
    at (suc (suc x)) y l m e = absurd (omega arith)

not_and : (a b : Bool) → (a && not b) ≡ false → a ≡ true → b ≡ true
not_and true true e t = refl
not_and true false e t = cc
not_and false b e t = cc

both_true : (a b : Bool) → (a && not b) ≡ true → (a ≡ true) × (b ≡ false)
both_true true true e = cc
both_true true false e = (refl, refl)
both_true false b e = cc

abbrev pub own_of : ℕ → ℕ → ℕ
own_of literal apart = bit_and literal (bit_not w64 (bit_and literal (bit_not w64 apart) * 2 ^ 1 % 2 ^ 64))

-- a literal column without a word of its own is equal to the literal column below it
repeats : (literal apart c : ℕ) → apart < 2 ^ 64 → c < 64 → has_bit literal c ≡ true → has_bit (own_of literal apart) c ≡ false → has_bit (bit_and literal (bit_not w64 apart) * 2 ^ 1 % 2 ^ 64) c ≡ true
repeats literal apart c small l is isnt =
    let again = bit_and literal (bit_not w64 apart) * 2 ^ 1 % 2 ^ 64 in
    not_and (has_bit literal c) (has_bit again c)
    (ap (λ b. has_bit literal c && b) (sym (bit-not again c (mod_below (bit_and literal (bit_not w64 apart) * 2 ^ 1) (2 ^ 64) (pow_pos 64)) l)) ∙ sym (bit-and literal (bit_not w64 again) c) ∙ isnt) is

own_lowest : (literal apart : ℕ) → apart < 2 ^ 64 → has_bit literal 0 ≡ true → has_bit (own_of literal apart) 0 ≡ true
own_lowest literal apart small is = elim (cases_Bool (has_bit (own_of literal apart) 0)) [
  | inl own ↦ own
  | inr isnt ↦ absurd (clash (repeats literal apart 0 small (omega arith) is isnt) (up_low (bit_and literal (bit_not w64 apart)) 1 0 (omega arith) (omega arith)))
]
  where
    clash : {x : Bool} → x ≡ true → x ≡ false → ⊥
    clash p q = cc

own_below : (literal apart c : ℕ) → apart < 2 ^ 64 → c + 1 < 64 → has_bit literal (c + 1) ≡ true → has_bit (own_of literal apart) (c + 1) ≡ false → (has_bit literal c ≡ true) × (has_bit apart c ≡ false)
own_below literal apart c small l is isnt =
    let down : has_bit (bit_and literal (bit_not w64 apart)) c ≡ true =
    ap (has_bit (bit_and literal (bit_not w64 apart))) (let back : c ≡ c + 1 - 1 = omega arith in back) ∙ sym (up_high (bit_and literal (bit_not w64 apart)) 1 (c + 1) (omega arith) l) ∙ repeats literal apart (c + 1) small l is isnt in
    both_true (has_bit literal c) (has_bit apart c) (ap (λ b. has_bit literal c && b) (sym (bit-not apart c small (omega arith))) ∙ sym (bit-and literal (bit_not w64 apart) c) ∙ down)

module _ (old new : List ℕ) (literal apart taken : ℕ) (key : ℕ → ℕ) (small : apart < 2 ^ 64)
    (apart_is : (c i : ℕ) → c + 1 < 64 → i < 64 → has_bit taken i ≡ true → has_bit apart c ≡ false → has_bit (key i) (c + 1) ≡ has_bit (key i) c)
    (f : AreFilled old new (own_of literal apart) 0 (λ c i. has_bit taken i && has_bit (key i) c)) where
  abbrev pub own : ℕ
  own = own_of literal apart

  pub record IsColumn (c : ℕ) : Type 0 where
    pub place : length old + count_ones (own / 2 ^ c / 2) < length new
    pub bits : (i : ℕ) → i < 64 → has_bit (get_or new (length old + count_ones (own / 2 ^ c / 2)) 0) i ≡ (has_bit taken i && has_bit (key i) c)

  own_column : (c : ℕ) → c < 64 → has_bit own c ≡ true → IsColumn c
  own_column c l is = record {
    place = omega (arith, place_inside own c is, f.long, ap count_ones (div-one own));
    bits = λ i u. f.each c i (omega arith) l u is;
  }

  taken_same : (t a b : Bool) → (t ≡ true → a ≡ b) → (t && b) ≡ (t && a)
  taken_same true a b e = sym (e refl)
  taken_same false a b e = refl

  next_column : (c : ℕ) → c + 1 < 64 → has_bit literal (c + 1) ≡ true → (has_bit literal c ≡ true → IsColumn c) → IsColumn (c + 1)
  next_column c l is lower = elim (cases_Bool (has_bit own (c + 1))) [
    | inl mine ↦ own_column (c + 1) l mine
    | inr isnt ↦
        let next = own_below literal apart c small l is isnt in
        let below = lower next.0 in
        let same : count_ones (own / 2 ^ (c + 1) / 2) ≡ count_ones (own / 2 ^ c / 2) =
        sym (ones_clear own (c + 1) isnt) ∙ ap count_ones (sym (half_of own c)) in
        record {
          place = omega (arith, below.place, same);
          bits = λ i u. ap (λ k. has_bit (get_or new (length old + k) 0) i) same ∙ below.bits i u
              ∙ taken_same (has_bit taken i) (has_bit (key i) (c + 1)) (has_bit (key i) c) (λ t. apart_is c i l u t next.1);
        }
  ]

  pub literal_column : (c : ℕ) → c < 64 → has_bit literal c ≡ true → IsColumn c
  literal_column zero l is = own_column 0 l (own_lowest literal apart small is)
  literal_column (suc c) l is =
      let up : c + 1 ≡ suc c = omega arith in
      subst IsColumn up (next_column c (omega arith) (ap (has_bit literal) up ∙ is) (literal_column c (omega arith)))

-- a head of filled columns
pub head_is : (head : Head) (old new : List ℕ) (key : ℕ → ℕ) (taken any each apart : ℕ) → head.literal ≡ bit_and any (bit_not w64 each) → head.own ≡ own_of head.literal apart → head.full ≡ each → head.from ≡ length old → each < 2 ^ 64 → apart < 2 ^ 64 → ((c i : ℕ) → c < 64 → i < 64 → has_bit taken i ≡ true → has_bit (key i) c ≡ true → has_bit any c ≡ true) → ((c i : ℕ) → c < 64 → i < 64 → has_bit taken i ≡ true → has_bit each c ≡ true → has_bit (key i) c ≡ true) → ((c i : ℕ) → c + 1 < 64 → i < 64 → has_bit taken i ≡ true → has_bit apart c ≡ false → has_bit (key i) (c + 1) ≡ has_bit (key i) c) → AreFilled old new head.own 0 (λ c i. has_bit taken i && has_bit (key i) c) → IsHead head new key taken
head_is head old new key taken any each apart literal own full from small narrow any_is each_is apart_is f = record {
  inside = record {
    begins = omega (arith, from, f.long);
    kept = λ c l is. let k = (column c l is).place in omega (arith, from, k, ap (λ o. count_ones (o / 2 ^ c / 2)) own);
  };
  bits = λ c i l u. elim (cases_Bool (has_bit head.literal c)) [
    | inl is ↦ ap (λ b. has_bit (cond b (get_or new (head.from + count_ones (head.own / 2 ^ c / 2)) 0) (cond (has_bit head.full c) taken 0)) i) is
        ∙ ap (λ k. has_bit (get_or new (k + count_ones (head.own / 2 ^ c / 2)) 0) i) from
        ∙ ap (λ o. has_bit (get_or new (length old + count_ones (o / 2 ^ c / 2)) 0) i) own
        ∙ (column c l is).bits i u
    | inr isnt ↦ ap (λ b. has_bit (cond b (get_or new (head.from + count_ones (head.own / 2 ^ c / 2)) 0) (cond (has_bit head.full c) taken 0)) i) isnt ∙ constant c i l u isnt
  ];
}
  where
    column : (c : ℕ) → c < 64 → has_bit head.literal c ≡ true → IsColumn old new head.literal apart taken key narrow apart_is (subst (λ o. AreFilled old new o 0 (λ c i. has_bit taken i && has_bit (key i) c)) own f) c
    column = literal_column old new head.literal apart taken key narrow apart_is (subst (λ o. AreFilled old new o 0 (λ c i. has_bit taken i && has_bit (key i) c)) own f)

    constant : (c i : ℕ) → c < 64 → i < 64 → has_bit head.literal c ≡ false → has_bit (cond (has_bit head.full c) taken 0) i ≡ (has_bit taken i && has_bit (key i) c)
    constant c i l u isnt = at (has_bit taken i) (has_bit (key i) c) (has_bit any c) (has_bit each c) (has_bit head.full c) (has_bit head.literal c) refl (ap (λ x. has_bit x c) literal ∙ bit-and any (bit_not w64 each) c ∙ ap (λ b. has_bit any c && b) (bit-not each c small l)) (ap (λ x. has_bit x c) full) isnt (any_is c i l u) (each_is c i l u)
      where
        at : (t k a e f h : Bool) → t ≡ has_bit taken i → h ≡ (a && not e) → f ≡ e → h ≡ false → (t ≡ true → k ≡ true → a ≡ true) → (t ≡ true → e ≡ true → k ≡ true) → has_bit (cond f taken 0) i ≡ (t && k)
        at false k a e true h t p q r s v = sym t
        at false k a e false h t p q r s v = bit-none i
        at true true a e true h t p q r s v = sym t
        at true false a e true h t p q r s v = absurd (clash (v refl (sym q)))
          where
            clash : false ≡ true → ⊥
            clash p = cc
        at true false a e false h t p q r s v = bit-none i
        at true true a e false h t p q r s v = absurd (clash p q r (s refl refl))
          where
            clash : h ≡ (a && not e) → false ≡ e → h ≡ false → a ≡ true → ⊥
            clash p q r u = cc

-- the keys of a head by another name
pub head_of : (head : Head) (words : List ℕ) (key other : ℕ → ℕ) (taken : ℕ) → ((i : ℕ) → i < 64 → key i ≡ other i) → IsHead head words key taken → IsHead head words other taken
head_of head words key other taken same h = record {
  inside = h.inside;
  bits = λ c i l u. h.bits c i l u ∙ ap (λ k. has_bit taken i && has_bit k c) (same i u);
}

-- what any key and what each key has, with one more key
or_left : (x y : Bool) → x ≡ true → (x || y) ≡ true
or_left true y e = refl
or_left false y e = absurd (clash e)
  where
    clash : false ≡ true → ⊥
    clash p = cc

or_right : (x y : Bool) → y ≡ true → (x || y) ≡ true
or_right true y e = refl
or_right false y e = e

and_left : (x y : Bool) → (x && y) ≡ true → x ≡ true
and_left true y e = refl
and_left false y e = e

and_right : (x y : Bool) → (x && y) ≡ true → y ≡ true
and_right true y e = e
and_right false y e = absurd (clash e)
  where
    clash : false ≡ true → ⊥
    clash p = cc

split_last : (k i : ℕ) → k < i + 1 → (k < i) ⊎ (k ≡ i)
split_last k i l = elim (cases_eq k i) [ inl e ↦ inr e | inr ne ↦ inl (omega arith) ]

module _ (keys : List ℕ) (taken i : ℕ) where
  abbrev pub AnyOf : ℕ → ℕ → Type 0
  AnyOf any end = (c k : ℕ) → c < 64 → k < end → has_bit taken k ≡ true → has_bit (get_or keys k 0) c ≡ true → has_bit any c ≡ true

  abbrev pub EachOf : ℕ → ℕ → Type 0
  EachOf each end = (c k : ℕ) → c < 64 → k < end → has_bit taken k ≡ true → has_bit each c ≡ true → has_bit (get_or keys k 0) c ≡ true

  pub any_more : (any next : ℕ) → next ≡ bit_or any (get_or keys i 0) → AnyOf any i → AnyOf next (i + 1)
  any_more any next e h c k l u t b = ap (λ x. has_bit x c) e ∙ bit-or any (get_or keys i 0) c ∙ elim (split_last k i u) [
    | inl less ↦ or_left _ _ (h c k l less t b)
    | inr same ↦ or_right _ _ (ap (λ k. has_bit (get_or keys k 0) c) (sym same) ∙ b)
  ]

  pub each_more : (each next : ℕ) → next ≡ bit_and each (get_or keys i 0) → EachOf each i → EachOf next (i + 1)
  each_more each next e h c k l u t b =
      let both = sym (ap (λ x. has_bit x c) e ∙ bit-and each (get_or keys i 0) c) ∙ b in
      elim (split_last k i u) [
        | inl less ↦ h c k l less t (and_left _ _ both)
        | inr same ↦ ap (λ k. has_bit (get_or keys k 0) c) same ∙ and_right _ _ both
      ]

  pub any_kept : (any next : ℕ) → next ≡ any → has_bit taken i ≡ false → AnyOf any i → AnyOf next (i + 1)
  any_kept any next e out h c k l u t b = ap (λ x. has_bit x c) e ∙ elim (split_last k i u) [
    | inl less ↦ h c k l less t b
    | inr same ↦ absurd (clash (ap (has_bit taken) same) t out)
  ]
    where
      clash : {x y : Bool} → x ≡ y → x ≡ true → y ≡ false → ⊥
      clash p q r = cc

  pub each_kept : (each next : ℕ) → next ≡ each → has_bit taken i ≡ false → EachOf each i → EachOf next (i + 1)
  each_kept each next e out h c k l u t b = elim (split_last k i u) [
    | inl less ↦ h c k l less t (sym (ap (λ x. has_bit x c) e) ∙ b)
    | inr same ↦ absurd (clash (ap (has_bit taken) same) t out)
  ]
    where
      clash : {x y : Bool} → x ≡ y → x ≡ true → y ≡ false → ⊥
      clash p q r = cc

  abbrev pub ApartOf : ℕ → ℕ → Type 0
  ApartOf apart end = (c k : ℕ) → c + 1 < 64 → k < end → has_bit taken k ≡ true → has_bit apart c ≡ false → has_bit (get_or keys k 0) (c + 1) ≡ has_bit (get_or keys k 0) c

  pub apart_more : (apart next : ℕ) → next ≡ bit_or apart (bit_xor (get_or keys i 0) (get_or keys i 0 / 2 ^ 1)) → ApartOf apart i → ApartOf next (i + 1)
  apart_more apart next e h c k l u t b =
      let key = get_or keys i 0 in
      let both = neither (has_bit apart c) _ (sym (ap (λ x. has_bit x c) e ∙ bit-or apart (bit_xor key (key / 2 ^ 1)) c) ∙ b) in
      elim (split_last k i u) [
        | inl less ↦ h c k l less t both.0
        | inr same ↦ ap (λ k. has_bit (get_or keys k 0) (c + 1)) same
            ∙ ap (has_bit key) (let turned : c + 1 ≡ 1 + c = omega arith in turned) ∙ sym (down key 1 c) ∙ sym (xor_same key (key / 2 ^ 1) c both.1)
            ∙ ap (λ k. has_bit (get_or keys k 0) c) (sym same)
      ]
    where
      neither : (x y : Bool) → (x || y) ≡ false → (x ≡ false) × (y ≡ false)
      neither true y e = cc
      neither false y e = (refl, e)

  pub apart_kept : (apart next : ℕ) → next ≡ apart → has_bit taken i ≡ false → ApartOf apart i → ApartOf next (i + 1)
  apart_kept apart next e out h c k l u t b = elim (split_last k i u) [
    | inl less ↦ h c k l less t (sym (ap (λ x. has_bit x c) e) ∙ b)
    | inr same ↦ absurd (clash (ap (has_bit taken) same) t out)
  ]
    where
      clash : {x y : Bool} → x ≡ y → x ≡ true → y ≡ false → ⊥
      clash p q r = cc

-- words that are added behind change no column
pub column_kept : (present : ℕ) (words more : List ℕ) (head : Head) (c : ℕ) → c < 64 → IsInside head words → Begins words more → column_word present more head c ≡ column_word present words head c
column_kept present words more head c l h b = elim (cases_Bool (has_bit head.literal c)) [
  | inl is ↦
      let place : head.from + count_ones (head.own / 2 ^ c / 2) < length words = h.kept c l is in
      ap (λ x. cond x (get_or more (head.from + count_ones (head.own / 2 ^ c / 2)) 0) (cond (has_bit head.full c) present 0)) is
      ∙ begins_get words more (head.from + count_ones (head.own / 2 ^ c / 2)) 0 b place
      ∙ ap (λ x. cond x (get_or words (head.from + count_ones (head.own / 2 ^ c / 2)) 0) (cond (has_bit head.full c) present 0)) (sym is)
  | inr isnt ↦
      ap (λ x. cond x (get_or more (head.from + count_ones (head.own / 2 ^ c / 2)) 0) (cond (has_bit head.full c) present 0)) isnt
      ∙ ap (λ x. cond x (get_or words (head.from + count_ones (head.own / 2 ^ c / 2)) 0) (cond (has_bit head.full c) present 0)) (sym isnt)
]

pub inside_kept : (words more : List ℕ) (head : Head) → IsInside head words → Begins words more → IsInside head more
inside_kept words more head h b = let longer = begins_long words more b in record {
  begins = omega (arith, h.begins, longer);
  kept = λ c l is. omega (arith, h.kept c l is, longer);
}

pub head_kept : (head : Head) (words more : List ℕ) (key : ℕ → ℕ) (taken : ℕ) → Begins words more → IsHead head words key taken → IsHead head more key taken
head_kept head words more key taken b h = record {
  inside = inside_kept words more head h.inside b;
  bits = λ c i l u. ap (λ w. has_bit w i) (column_kept taken words more head c l h.inside b) ∙ h.bits c i l u;
}

-- the heads of a block
pub heads_none : (old : List Head) (words keys : List ℕ) (n taken : ℕ) → AreHeads old old words keys n 0 taken
heads_none old words keys n taken = record { long = omega arith; before = begins_same old; each = λ part l. absurd (omega arith) }

pub heads_more : (old new : List Head) (words more keys : List ℕ) (n done taken : ℕ) (head : Head) → Begins words more → IsHead head more (λ i. get_or keys (i * n + done) 0) taken → AreHeads old new words keys n done taken → AreHeads old (new ++ head ∷ []) more keys n (done + 1) taken
heads_more old new words more keys n done taken head b is h = record {
  long = length-append new (head ∷ []) ∙ omega (arith, h.long);
  before = begins_more old new (head ∷ []) h.before;
  each = λ part l. elim (cases_eq part done) [
    | inl same ↦
        let place : length new ≡ length old + part = h.long ∙ ap (λ k. length old + k) (sym same) in
        subst (λ x. IsHead x more (λ i. get_or keys (i * n + part) 0) taken) (sym (get_or_push new head no_head (length old + part) place)) (subst (λ k. IsHead head more (λ i. get_or keys (i * n + k) 0) taken) (sym same) is)
    | inr other ↦
        let less : part < done = omega arith in
        subst (λ x. IsHead x more (λ i. get_or keys (i * n + part) 0) taken) (sym (get_or_append_left new (head ∷ []) no_head (length old + part) (omega (arith, h.long))))
        (head_kept _ words more (λ i. get_or keys (i * n + part) 0) taken b (h.each part less))
  ];
}
