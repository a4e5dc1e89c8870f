-- Decimal digits and times that were written are read again.
use Rattle.std.proofs.Common.{◌≡◌, ℕ, ℤ, pos, negsuc, zero, suc, ◌+◌, ◌-◌, ◌*◌, ◌/◌, ◌%◌, ◌^◌, ◌<◌, ◌≤◌, Bool, true, false, not, ◌&&◌, cond, leb, eqb, List, [], ◌∷◌, ◌++◌, length, drop, None, Some, refl, ap, sym, ◌∙◌, arith, inl, inr}
use Rattle.std.specs.Fmt.{decimal, signed_decimal}
use Rattle.std.specs.List.{list_all, before_first, after_first, position_or_len}
use Rattle.std.specs.Option.{option_and_then}
use Rattle.std.proofs.lemmas.Bool.{cases_Bool, cond-true, cond-false, le-leb, eqb-true, ltb-true}
use Rattle.std.proofs.lemmas.Fmt.{decimal_by_steps}
use Rattle.std.proofs.lemmas.Grind.{common_steps}
use Rattle.std.proofs.lemmas.List.{take_at, drop_at, drop-drop, append-nil}
use Rattle.std.proofs.Math.Nat.{pow-succ', mod-eq_of_lt, one-le-pow}
use lib.Arith.{mod-mul}
use Rattle.vast_value.specs.Fit.{is_i64}
use Rattle.value_reading.specs.Numbers.{is_digit, number_behind, number_of, number_up_to, is_negative, without_sign, int_of, is_point, fraction_of, nanoseconds_of, span_of}
use Rattle.value_writing.specs.Writing.{last_digits, fraction_text, seconds_text, span_text}

pub both : (a b : Bool) → (a && b) ≡ true → (a ≡ true) × (b ≡ true)
both true true h = (refl, refl)
both true false h = absurd cc
both false b h = absurd cc

pub not_true : (b : Bool) → not b ≡ true → b ≡ false
not_true true h = absurd cc
not_true false h = refl

pub all_append : {X : Type 0} (p : X → Bool) (xs ys : List X) → list_all p xs ≡ true → list_all p ys ≡ true → list_all p (xs ++ ys) ≡ true
all_append p [] ys h k = k
all_append p (x ∷ xs) ys h k = let a = both (p x) (list_all p xs) h in rw (a.0, all_append p xs ys a.1 k) refl

-- what passes one test passes a weaker one
pub all_weaker : {X : Type 0} (p q : X → Bool) → ((x : X) → p x ≡ true → q x ≡ true) → (xs : List X) → list_all p xs ≡ true → list_all q xs ≡ true
all_weaker p q f [] h = refl
all_weaker p q f (x ∷ xs) h = let a = both (p x) (list_all p xs) h in rw (f x a.0, all_weaker p q f xs a.1) refl

-- Digits

digit_passes : (d : ℕ) → d < 10 → is_digit (48 + d) ≡ true
digit_passes d h = grind (arith, le-leb 48 (48 + d) (omega arith), le-leb (48 + d) 57 (omega arith))

behind_digit : (n d : ℕ) (ds : List ℕ) → d < 10 → number_behind n ((48 + d) ∷ ds) ≡ number_behind (n * 10 + d) ds
behind_digit n d ds h =
    let same : (48 + d) - 48 ≡ d = omega arith in
    rw (digit_passes d h, same) refl

behind_append : (n : ℕ) (xs ys : List ℕ) → number_behind n (xs ++ ys) ≡ option_and_then (λ m. number_behind m ys) (number_behind n xs)
behind_append n [] ys = refl
behind_append n (x ∷ xs) ys =
    elim (is_digit x) as (λ b. cond b (number_behind (n * 10 + (x - 48)) (xs ++ ys)) None ≡ option_and_then (λ m. number_behind m ys) (cond b (number_behind (n * 10 + (x - 48)) xs) None))
    [ true ↦ behind_append (n * 10 + (x - 48)) xs ys | false ↦ refl ]

one_more : (n m : ℕ) (ds : List ℕ) → number_of ds ≡ Some n → m < 10 → number_of (ds ++ (48 + m) ∷ []) ≡ Some (n * 10 + m)
one_more n m [] h k = absurd cc
one_more n m (d ∷ ds) h k =
    behind_append 0 (d ∷ ds) ((48 + m) ∷ []) ∙ rw (h, behind_digit n m [] k) refl

pub number_again : (n : ℕ) → n < 2 ^ 64 → number_of (decimal n) ≡ Some n
number_again = decimal_by_steps (λ n ds. number_of ds ≡ Some n)
    (λ n h. let same : 0 * 10 + n ≡ n = omega arith in behind_digit 0 n [] h ∙ ap (λ (m : ℕ). Some m) same)
    (λ n ds h k. let small : n % 10 < 10 = omega arith in let whole : n / 10 * 10 + n % 10 ≡ n = omega arith in one_more (n / 10) (n % 10) ds k small ∙ ap (λ (m : ℕ). Some m) whole)

-- a test that passes the digits passes what `decimal` writes
pub decimal_all : (p : ℕ → Bool) → ((b : ℕ) → 48 ≤ b → b ≤ 57 → p b ≡ true) → (n : ℕ) → n < 2 ^ 64 → list_all p (decimal n) ≡ true
decimal_all p f = decimal_by_steps (λ n ds. list_all p ds ≡ true)
    (λ n h. rw (f (48 + n) (omega arith) (omega arith)) refl)
    (λ n ds h k. all_append p ds ((48 + n % 10) ∷ []) k (rw (f (48 + n % 10) (omega arith) (omega arith)) refl))

pub up_to_again : (most n : ℕ) → n ≤ most → n < 2 ^ 64 → number_up_to most (decimal n) ≡ Some n
up_to_again most n h k = rw (number_again n k, le-leb n most h) refl

-- Signs

-- digits before anything are no minus
pub unsigned_front : (n : ℕ) (xs rest : List ℕ) → number_of xs ≡ Some n → list_all is_digit xs ≡ true → (is_negative (xs ++ rest) ≡ false) × (without_sign (xs ++ rest) ≡ xs ++ rest)
unsigned_front n [] rest h k = absurd cc
unsigned_front n (x ∷ xs) rest h k =
    let a = both (is_digit x) (list_all is_digit xs) k in
    let apart : eqb x 45 ≡ false = grind (arith, common_steps, a) in
    (apart, rw apart refl)

pub decimal_digits : (n : ℕ) → n < 2 ^ 64 → list_all is_digit (decimal n) ≡ true
decimal_digits n h = decimal_all is_digit (λ b low high. rw (le-leb 48 b low, le-leb b 57 high) refl) n h

bare_front : (n : ℕ) → n < 2 ^ 64 → (is_negative (decimal n) ≡ false) × (without_sign (decimal n) ≡ decimal n)
bare_front n h = rw append-nil at (unsigned_front n (decimal n) [] (number_again n h) (decimal_digits n h))

digit_no_point : (b : ℕ) → is_digit b ≡ true → not (is_point b) ≡ true
digit_no_point b h = grind (arith, common_steps, both (leb 48 b) (leb b 57) h)

-- Parts at the first of a byte

pub position_behind : (p : ℕ → Bool) (xs : List ℕ) (y : ℕ) (ys : List ℕ) → list_all (λ b. not (p b)) xs ≡ true → p y ≡ true → position_or_len p (xs ++ y ∷ ys) ≡ length xs
position_behind p [] y ys h k = rw k refl
position_behind p (x ∷ xs) y ys h k =
    let a = both (not (p x)) (list_all (λ b. not (p b)) xs) h in
    rw (a.0, position_behind p xs y ys a.1 k) (omega arith)

pub before_again : (p : ℕ → Bool) (xs : List ℕ) (y : ℕ) (ys : List ℕ) → list_all (λ b. not (p b)) xs ≡ true → p y ≡ true → before_first p (xs ++ y ∷ ys) ≡ xs
before_again p xs y ys h k = rw (position_behind p xs y ys h k) (take_at xs (y ∷ ys) (length xs) refl)

pub after_again : (p : ℕ → Bool) (xs : List ℕ) (y : ℕ) (ys : List ℕ) → list_all (λ b. not (p b)) xs ≡ true → p y ≡ true → after_first p (xs ++ y ∷ ys) ≡ ys
after_again p xs y ys h k =
    rw (position_behind p xs y ys h k)
    (sym (drop-drop 1 (length xs) (xs ++ y ∷ ys)) ∙ ap (drop 1) (drop_at xs (y ∷ ys) (length xs) refl))

-- Times

pub length_last : (k n : ℕ) → length (last_digits k n) ≡ k
length_last zero n = refl
length_last (suc k) n = ap suc (length_last k n)

behind_last : (k m n : ℕ) → number_behind m (last_digits k n) ≡ Some (m * 10 ^ k + n % 10 ^ k)
behind_last zero m n = ap (λ (x : ℕ). Some x) (omega arith)
behind_last (suc k) m n =
    let digit = n / 10 ^ k % 10 in
    let small : digit < 10 = omega arith in
    let positive : 0 < 10 ^ k = one-le-pow k 10 (omega arith) in
    let parts : n % (10 * 10 ^ k) ≡ digit * 10 ^ k + n % 10 ^ k = mod-mul n (omega arith) positive in
    let power : 10 ^ suc k ≡ 10 * 10 ^ k = pow-succ' 10 k in
    let whole : (m * 10 + digit) * 10 ^ k + n % 10 ^ k ≡ m * 10 ^ suc k + n % 10 ^ suc k =
    rw power (rw parts (grind arith)) in
    behind_digit m digit (last_digits k n) small ∙ (behind_last k (m * 10 + digit) n ∙ ap (λ (x : ℕ). Some x) whole)

last_again : (k n : ℕ) → n < 10 ^ k → number_behind 0 (last_digits k n) ≡ Some n
last_again k n h =
    let same : n % 10 ^ k ≡ n = mod-eq_of_lt h in
    behind_last k 0 n ∙ ap (λ (x : ℕ). Some x) (omega (arith, same))

fraction_by : (k n : ℕ) → k ≤ 9 → n < 10 ^ k → fraction_of (last_digits k n) ≡ Some (n * 10 ^ (9 - k))
fraction_by k n few h = rw (length_last k n, le-leb k 9 few, last_again k n h) refl

-- a fraction of nanoseconds reads back from six digits or nine
pub fraction_again : (n : ℕ) → n < 10 ^ 9 → fraction_of (fraction_text n) ≡ Some n
fraction_again n h =
    elim (cases_Bool (eqb (n % 1000) 0)) [
      | inl six ↦
          let zero_rest = eqb-true (n % 1000) 0 six in
          let back : n / 1000 * 1000 ≡ n = omega arith in
          ap fraction_of (cond-true (eqb (n % 1000) 0) (last_digits 6 (n / 1000)) (last_digits 9 n) six)
          ∙ (fraction_by 6 (n / 1000) (omega arith) (omega arith) ∙ ap (λ (x : ℕ). Some x) back)
      | inr nine ↦
          let back : n * 1 ≡ n = omega arith in
          ap fraction_of (cond-false (eqb (n % 1000) 0) (last_digits 6 (n / 1000)) (last_digits 9 n) nine)
          ∙ (fraction_by 9 n (omega arith) h ∙ ap (λ (x : ℕ). Some x) back)
    ]

fraction_whole : (n : ℕ) → number_of (decimal (n / 10 ^ 9)) ≡ Some (n / 10 ^ 9) → list_all is_digit (decimal (n / 10 ^ 9)) ≡ true → nanoseconds_of (seconds_text n) ≡ Some n
fraction_whole n h k =
    let whole = decimal (n / 10 ^ 9) in
    let part = fraction_text (n % 10 ^ 9) in
    let no_point : list_all (λ b. not (is_point b)) whole ≡ true = all_weaker is_digit (λ b. not (is_point b)) digit_no_point whole k in
    let sum : n / 10 ^ 9 * 10 ^ 9 + n % 10 ^ 9 ≡ n = omega arith in
    rw (before_again is_point whole 46 part no_point refl, after_again is_point whole 46 part no_point refl, h, fraction_again (n % 10 ^ 9) (omega arith))
    (ap (λ (x : ℕ). Some x) sum)

pub nanoseconds_again : (n : ℕ) → n < 2 ^ 64 → nanoseconds_of (seconds_text n) ≡ Some n
nanoseconds_again n h = fraction_whole n (number_again (n / 10 ^ 9) (omega arith)) (decimal_digits (n / 10 ^ 9) (omega arith))

seconds_front : (n : ℕ) → n < 2 ^ 64 → (is_negative (seconds_text n) ≡ false) × (without_sign (seconds_text n) ≡ seconds_text n)
seconds_front n h =
    unsigned_front (n / 10 ^ 9) (decimal (n / 10 ^ 9)) (46 ∷ fraction_text (n % 10 ^ 9)) (number_again (n / 10 ^ 9) (omega arith)) (decimal_digits (n / 10 ^ 9) (omega arith))

pub span_again : (z : ℤ) → is_i64 z ≡ true → span_of (span_text z) ≡ Some z
unfolding span_text
span_again (pos n) h =
    let lt = ltb-true n (2 ^ 63) h in
    let front = seconds_front n (omega arith) in
    let few : leb n (2 ^ 63 - 1) ≡ true = le-leb n (2 ^ 63 - 1) (omega arith) in
    rw (front.0, front.1, nanoseconds_again n (omega arith), few) refl
span_again (negsuc n) h =
    let lt = ltb-true n (2 ^ 63) h in
    let few : leb (suc n) (2 ^ 63) ≡ true = le-leb (suc n) (2 ^ 63) (omega arith) in
    rw (nanoseconds_again (suc n) (omega arith), few) refl

pub int_again : (z : ℤ) → is_i64 z ≡ true → int_of (signed_decimal z) ≡ Some z
int_again (pos n) h =
    let lt = ltb-true n (2 ^ 63) h in
    let front = bare_front n (omega arith) in
    let few : leb n (2 ^ 63 - 1) ≡ true = le-leb n (2 ^ 63 - 1) (omega arith) in
    rw (front.0, front.1, number_again n (omega arith), few) refl
int_again (negsuc n) h =
    let lt = ltb-true n (2 ^ 63) h in
    let few : leb (suc n) (2 ^ 63) ≡ true = le-leb (suc n) (2 ^ 63) (omega arith) in
    rw (number_again (suc n) (omega arith), few) refl
