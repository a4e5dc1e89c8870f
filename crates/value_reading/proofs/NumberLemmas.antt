-- Digits and the numbers that they give.
use Rattle.std.proofs.Common.{◌≡◌, ℕ, ◌+◌, ◌-◌, ◌*◌, ◌^◌, ◌<◌, ◌≤◌, true, false, if◌then◌else◌, nat_le, List, [], ◌∷◌, Option, None, Some, take, drop, refl, ap, sym, ◌∙◌, arith, subst}
use Rattle.std.proofs.Math.Nat.{pow-le-pow_right, one-le-pow, mul-lt-mul_of_pos_right}
use Rattle.std.proofs.lemmas.Nat.{pow-add}
use Rattle.std.proofs.lemmas.List.{drop-drop}
use Rattle.std.proofs.lemmas.Grind.{pow_more}
use Rattle.std.proofs.lemmas.Bool.Decides.{nat_tests}
use Rattle.std.specs.List.{position_or_len, before_first, after_first}
use Rattle.std.specs.Option.{option_map, option_and_then}
use Rattle.value_reading.specs.Numbers.{is_digit, number_behind, number_of, if_at_most, number_up_to, is_point, fraction_of, nanoseconds_of}

ten_pow : (i j : ℕ) → i ≤ j → 10 ^ i ≤ 10 ^ j
ten_pow i j h = pow-le-pow_right (omega arith) h

digit_below : (d : ℕ) → is_digit d ≡ true → d ≤ 57
digit_below d digit = grind (arith, nat_tests)

-- one more digit behind fewer than 19
pub digit_fits : (n i d : ℕ) → n < 10 ^ i → i < 19 → is_digit d ≡ true → (n * 10 + (d - 48) < 2 ^ 64) × (n * 10 + (d - 48) < 10 ^ (i + 1))
digit_fits n i d below few digit =
    let p : 10 ^ (i + 1) ≡ 10 ^ i * 10 = pow_more 10 i in
    let q : 10 ^ (i + 1) ≤ 10 ^ 19 = ten_pow (i + 1) 19 (omega arith) in
    let e : d ≤ 57 = digit_below d digit in
    (omega arith, omega arith)

not_within : (most n : ℕ) → if_at_most most n ≡ None → nat_le n most ≡ false
not_within most n none =
    elim (nat_le n most) as (λ b. (if b then Some n else None) ≡ None → b ≡ false) [
      | true ↦ λ e. cc
      | false ↦ λ e. refl
    ] none

-- digits behind a number that is too large give none that is not
pub too_large : (most n : ℕ) (ds : List ℕ) → nat_le n most ≡ false → option_and_then (if_at_most most) (number_behind n ds) ≡ None
too_large most n [] large = grind (arith, nat_tests)
too_large most n (d ∷ ds) large =
    let next : nat_le (n * 10 + (d - 48)) most ≡ false = grind (arith, nat_tests) in
    elim (is_digit d) as (λ b. option_and_then (if_at_most most) (if b then number_behind (n * 10 + (d - 48)) ds else None) ≡ None) [
      | true ↦ too_large most (n * 10 + (d - 48)) ds next
      | false ↦ refl
    ]

-- where the next digit gives nothing, the rest gives nothing
pub digit_too_large : (most n d : ℕ) (ds : List ℕ) → (if is_digit d then if_at_most most (n * 10 + (d - 48)) else None) ≡ None → option_and_then (if_at_most most) (number_behind n (d ∷ ds)) ≡ None
digit_too_large most n d ds none =
    elim (is_digit d) as (λ b. (if b then if_at_most most (n * 10 + (d - 48)) else None) ≡ None → option_and_then (if_at_most most) (if b then number_behind (n * 10 + (d - 48)) ds else None) ≡ None) [
      | true ↦ λ e. too_large most (n * 10 + (d - 48)) ds (not_within most (n * 10 + (d - 48)) e)
      | false ↦ λ e. refl
    ] none

-- with so few digits a fraction is below a second
pub fraction_fits : (n i : ℕ) → n < 10 ^ i → i ≤ 9 → n * 10 ^ (9 - i) < 10 ^ 9
fraction_fits n i below few =
    let e : 10 ^ (i + (9 - i)) ≡ 10 ^ i * 10 ^ (9 - i) = pow-add 10 i (9 - i) in
    let f : i + (9 - i) ≡ 9 = omega arith in
    let g : 10 ^ 9 ≡ 10 ^ i * 10 ^ (9 - i) = ap (λ k. 10 ^ k) (sym f) ∙ e in
    let some : 0 < 10 ^ (9 - i) = one-le-pow (9 - i) 10 (omega arith) in
    subst (λ m. n * 10 ^ (9 - i) < m) (sym g) (mul-lt-mul_of_pos_right below some)

-- the parts of a time, each bounded by what fits
nanoseconds_bounded : (w : Option ℕ) (f : Option ℕ)
    → option_and_then (λ w. option_and_then (λ p. if_at_most (2 ^ 63) (w * 10 ^ 9 + p)) f) (option_and_then (if_at_most (2 ^ 64 - 1)) w)
    ≡ option_and_then (if_at_most (2 ^ 63)) (option_and_then (λ w. option_map (λ p. w * 10 ^ 9 + p) f) w)
nanoseconds_bounded None f = refl
nanoseconds_bounded (Some w) None =
    elim (nat_le w (2 ^ 64 - 1)) as (λ b. option_and_then (λ w. option_and_then (λ p. if_at_most (2 ^ 63) (w * 10 ^ 9 + p)) None) (if b then Some w else None) ≡ None) [
      | true ↦ refl
      | false ↦ refl
    ]
nanoseconds_bounded (Some w) (Some p) = grind (arith, nat_tests)

pub nanoseconds_cut : (text whole rest digits : List ℕ) (k : ℕ) → k ≡ position_or_len is_point text → whole ≡ take k text → rest ≡ drop k text → digits ≡ drop 1 rest
    → option_and_then (λ w. option_and_then (λ p. if_at_most (2 ^ 63) (w * 10 ^ 9 + p)) (fraction_of digits)) (number_up_to (2 ^ 64 - 1) whole)
    ≡ option_and_then (if_at_most (2 ^ 63)) (nanoseconds_of text)
nanoseconds_cut text whole rest digits k at front back behind =
    let e : digits ≡ after_first is_point text = behind ∙ ap (drop 1) back ∙ drop-drop 1 k text ∙ ap (λ j. drop j text) (omega arith) in
    let f : whole ≡ before_first is_point text = front ∙ ap (λ j. take j text) at in
    nanoseconds_bounded (number_of whole) (fraction_of digits)
    ∙ ap (λ xs. option_and_then (if_at_most (2 ^ 63)) (option_and_then (λ w. option_map (λ p. w * 10 ^ 9 + p) (fraction_of xs)) (number_of whole))) e
    ∙ ap (λ xs. option_and_then (if_at_most (2 ^ 63)) (option_and_then (λ w. option_map (λ p. w * 10 ^ 9 + p) (fraction_of (after_first is_point text))) (number_of xs))) f

-- a number of at most four digits
pub four_digits : (n i : ℕ) → n < 10 ^ i → i ≤ 4 → n ≤ 9999
four_digits n i below few = let q : 10 ^ i ≤ 10 ^ 4 = ten_pow i 4 few in omega arith
