-- Seconds: digits, a point and digits.
use Rattle.std.proofs.Common.{◌≡◌, ℕ, zero, suc, ◌+◌, ◌-◌, ◌*◌, ◌^◌, ◌<◌, ◌≤◌, Bool, true, false, eqb, List, [], ◌∷◌, ◌++◌, None, Some, length, take, drop, get_or, refl, ap, sym, ◌∙◌, subst, arith, inl, inr}
use Rattle.std.specs.Prelude.{IsSome}
use Rattle.std.proofs.Math.Nat.{mul-le-mul_right}
use Rattle.std.proofs.lemmas.Bool.{and_parts, le-leb, ne_eqb, cases_eq, cond-true, or_from, or_parts}
use Rattle.std.proofs.lemmas.List.{take_at, drop_at, drop-drop, drop_more, length-take-le, length-drop}
use Rattle.std.proofs.lemmas.List.Folds.{list_any-append}
use Rattle.std.specs.List.{list_all, list_any, position_or_len, before_first, after_first}
use Rattle.value_reading.specs.Numbers.{is_digit, number_behind, number_of, is_point, fraction_of, nanoseconds_of, span_of}
use Rattle.value_reading.proofs.NumberLemmas.{fraction_fits}
use Rattle.plain_cells.specs.Seconds.{AreSeconds}
use Rattle.plain_cells.proofs.DigitLemmas.{digit_bounds, digits_none, digits_read, ten_pow, no_sign}
use Rattle.plain_cells.proofs.PartLemmas.{take-add}
use Rattle.plain_cells.proofs.ReadableLemmas.{has_none}

-- Parts of a text

-- a byte with what stands before it and behind it
pub parted : (text : List ℕ) (from at to b : ℕ) → from ≤ at → at < to → to ≤ length text → get_or text at 0 ≡ b
    → take (to - from) (drop from text) ≡ take (at - from) (drop from text) ++ b ∷ take (to - (at + 1)) (drop (at + 1) text)
parted text from at to b low high within is =
    let count : to - from ≡ (at - from) + suc (to - (at + 1)) = omega arith in
    let back : drop (at - from) (drop from text) ≡ drop at text = drop-drop (at - from) from text ∙ ap (λ (n : ℕ). drop n text) (omega arith) in
    let here : drop at text ≡ b ∷ drop (at + 1) text = drop_more text at 0 (omega arith) ∙ ap (λ (x : ℕ). x ∷ drop (at + 1) text) is in
    ap (λ (n : ℕ). take n (drop from text)) count ∙ take-add (at - from) (suc (to - (at + 1))) (drop from text)
    ∙ ap (λ (l : List ℕ). take (at - from) (drop from text) ++ take (suc (to - (at + 1))) l) (back ∙ here)

-- the same from the beginning on
parted_front : (text : List ℕ) (at to b : ℕ) → at < to → to ≤ length text → get_or text at 0 ≡ b → take to text ≡ take at text ++ b ∷ take (to - (at + 1)) (drop (at + 1) text)
parted_front text at to b high within is =
    let whole : to ≡ to - 0 = omega arith in
    let front : at - 0 ≡ at = omega arith in
    ap (λ (n : ℕ). take n text) whole ∙ parted text 0 at to b (omega arith) high within is ∙ ap (λ (n : ℕ). take n text ++ b ∷ take (to - (at + 1)) (drop (at + 1) text)) front

position_behind : (p : ℕ → Bool) (xs : List ℕ) (y : ℕ) (ys : List ℕ) → list_any p xs ≡ false → p y ≡ true → position_or_len p (xs ++ y ∷ ys) ≡ length xs
position_behind p [] y ys none here = rw here refl
position_behind p (x ∷ xs) y ys none here =
    let both = or_parts (p x) (list_any p xs) none in
    rw (both.0, position_behind p xs y ys both.1 here) (omega arith)

before-behind : (p : ℕ → Bool) (xs : List ℕ) (y : ℕ) (ys : List ℕ) → list_any p xs ≡ false → p y ≡ true → before_first p (xs ++ y ∷ ys) ≡ xs
before-behind p xs y ys none here = ap (λ (n : ℕ). take n (xs ++ y ∷ ys)) (position_behind p xs y ys none here) ∙ take_at xs (y ∷ ys) (length xs) refl

after-behind : (p : ℕ → Bool) (xs : List ℕ) (y : ℕ) (ys : List ℕ) → list_any p xs ≡ false → p y ≡ true → after_first p (xs ++ y ∷ ys) ≡ ys
after-behind p xs y ys none here =
    ap (λ (n : ℕ). drop (n + 1) (xs ++ y ∷ ys)) (position_behind p xs y ys none here)
    ∙ sym (drop-drop 1 (length xs) (xs ++ y ∷ ys)) ∙ ap (drop 1) (drop_at xs (y ∷ ys) (length xs) refl)

pub no_point : (ds : List ℕ) → list_all is_digit ds ≡ true → list_any is_point ds ≡ false
no_point [] all = refl
no_point (d ∷ ds) all =
    let both = and_parts (is_digit d) (list_all is_digit ds) all in
    let bounds = digit_bounds d both.0 in
    rw (ne_eqb d 46 (λ same. omega arith), no_point ds both.1) refl

-- Whole seconds

record Whole (ds : List ℕ) : Type 0 where
  number : ℕ
  is : number_of ds ≡ Some number
  below : number < 9 * 10 ^ 9

pub number_some : (ds : List ℕ) → 0 < length ds → number_of ds ≡ number_behind 0 ds
number_some [] some = absurd (omega arith)
number_some (d ∷ ds) some = refl

nine_digits : (ds : List ℕ) → list_all is_digit ds ≡ true → 0 < length ds → length ds ≤ 9 → Whole ds
nine_digits ds all some few =
    let read = digits_read 0 ds all in
    let power : 10 ^ length ds ≤ 10 ^ 9 = ten_pow (length ds) 9 few in
    record { number = read.number; is = number_some ds some ∙ read.is; below = omega (arith, read.below) }

ten_digits : (ds : List ℕ) → list_all is_digit ds ≡ true → length ds ≡ 10 → get_or ds 0 0 < 57 → Whole ds
ten_digits [] all long first = absurd (omega arith)
ten_digits (d ∷ ds) all long first =
    let both = and_parts (is_digit d) (list_all is_digit ds) all in
    let bounds = digit_bounds d both.0 in
    let read = digits_read (0 * 10 + (d - 48)) ds both.1 in
    let nine : length ds ≡ 9 = omega arith in
    let power : 10 ^ length ds ≡ 10 ^ 9 = ap (λ (n : ℕ). 10 ^ n) nine in
    let wide : (0 * 10 + (d - 48) + 1) * 10 ^ length ds ≤ 9 * 10 ^ length ds = mul-le-mul_right (10 ^ length ds) (omega arith) in
    record { number = read.number; is = cond-true (is_digit d) (number_behind (0 * 10 + (d - 48)) ds) None both.0 ∙ read.is; below = omega (arith, read.below, wide, power) }

whole_of : (ds : List ℕ) → list_all is_digit ds ≡ true → 0 < length ds → length ds ≤ 10 → (length ds ≡ 10 → get_or ds 0 0 < 57) → Whole ds
whole_of ds all some few first =
    elim (cases_eq (length ds) 10) [
      | inl long ↦ ten_digits ds all long (first long)
      | inr short ↦ nine_digits ds all some (omega (arith, short))
    ]

record Part (ds : List ℕ) : Type 0 where
  number : ℕ
  is : fraction_of ds ≡ Some number
  below : number < 10 ^ 9

part_of : (ds : List ℕ) → list_all is_digit ds ≡ true → length ds ≤ 9 → Part ds
part_of ds all few =
    let read = digits_read 0 ds all in
    record {
      number = read.number * 10 ^ (9 - length ds);
      is = rw (le-leb (length ds) 9 few, read.is) refl;
      below = fraction_fits read.number (length ds) (omega (arith, read.below)) few;
    }

-- the nanoseconds of both parts
pub nano_parts : (ds fs : List ℕ) (w p : ℕ) → list_all is_digit ds ≡ true → number_of ds ≡ Some w → fraction_of fs ≡ Some p → nanoseconds_of (ds ++ 46 ∷ fs) ≡ Some (w * 10 ^ 9 + p)
nano_parts ds fs w p all whole part =
    let none : list_any is_point ds ≡ false = no_point ds all in
    rw (before-behind is_point ds 46 fs none refl, after-behind is_point ds 46 fs none refl, whole, part) refl

seconds_some : (ds fs : List ℕ) → list_all is_digit ds ≡ true → 0 < length ds → length ds ≤ 10 → (length ds ≡ 10 → get_or ds 0 0 < 57)
    → list_all is_digit fs ≡ true → length fs ≤ 9 → IsSome (span_of (ds ++ 46 ∷ fs))
seconds_some ds fs all some few first behind short =
    let whole = whole_of ds all some few first in
    let part = part_of fs behind short in
    let sum : ℕ = whole.number * 10 ^ 9 + part.number in
    let sign = no_sign ds (46 ∷ fs) all some in
    let nano : nanoseconds_of (ds ++ 46 ∷ fs) ≡ Some sum = nano_parts ds fs whole.number part.number all whole.is part.is in
    let within : sum ≤ 2 ^ 63 - 1 = omega (arith, whole.below, part.below) in
    rw (sign.0, sign.1, nano, le-leb sum (2 ^ 63 - 1) within) refl

no_backslash : (ds fs : List ℕ) → list_all is_digit ds ≡ true → list_all is_digit fs ≡ true → has_none (ds ++ 46 ∷ fs)
no_backslash ds fs all behind =
    list_any-append (λ b. eqb b 92) ds (46 ∷ fs) ∙ or_from (list_any (λ b. eqb b 92) ds) (list_any (λ b. eqb b 92) (46 ∷ fs)) (digits_none 92 ds (omega arith) all) (digits_none 92 fs (omega arith) behind)

first_taken : (n : ℕ) (xs : List ℕ) → 0 < n → get_or (take n xs) 0 0 ≡ get_or xs 0 0
first_taken zero xs some = absurd (omega arith)
first_taken (suc n) [] some = refl
first_taken (suc n) (x ∷ xs) some = refl

-- both parts of seconds in a text
pub record Parts (text : List ℕ) (whole count : ℕ) : Type 0 where
  pub long : length (take whole text) ≡ whole
  pub rest : length (take (count - (whole + 1)) (drop (whole + 1) text)) ≡ count - (whole + 1)
  pub is : take count text ≡ take whole text ++ 46 ∷ take (count - (whole + 1)) (drop (whole + 1) text)

pub seconds_parts : (text : List ℕ) (whole count : ℕ) → AreSeconds text whole count → Parts text whole count
seconds_parts text whole count s =
    let more : whole < count = s.more in
    let within : count ≤ length text = s.within in
    record {
      long = length-take-le whole text (omega arith);
      rest = length-take-le (count - (whole + 1)) (drop (whole + 1) text) (omega (arith, length-drop (whole + 1) text));
      is = parted_front text whole count 46 more within s.point;
    }

pub seconds_read : (text : List ℕ) (whole count : ℕ) → AreSeconds text whole count → IsSome (span_of (take count text)) × has_none (take count text)
seconds_read text whole count s =
    let ds : List ℕ = take whole text in
    let fs : List ℕ = take (count - (whole + 1)) (drop (whole + 1) text) in
    let few : whole ≤ 10 = s.few in
    let short : count - (whole + 1) ≤ 9 = s.short in
    let parts = seconds_parts text whole count s in
    let some : 0 < length ds = omega (arith, parts.long, s.some) in
    let first : length ds ≡ 10 → get_or ds 0 0 < 57 = λ ten. subst (λ (b : ℕ). b < 57) (sym (first_taken whole text s.some)) (s.first (sym parts.long ∙ ten)) in (
      subst (λ (l : List ℕ). IsSome (span_of l)) (sym parts.is) (seconds_some ds fs s.digits some (omega (arith, parts.long)) first s.decimals (omega (arith, parts.rest))),
      subst (λ (l : List ℕ). has_none l) (sym parts.is) (no_backslash ds fs s.digits s.decimals),
    )
