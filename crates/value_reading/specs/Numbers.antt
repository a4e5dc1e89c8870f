-- Numbers in decimal digits, and times in seconds.
use Rattle.std.specs.Prelude.{ℕ, ℤ, pos, ◌+◌, ◌-◌, ◌*◌, ◌^◌, neg_ℤ, Bool, true, false, ◌&&◌, ◌==◌, if◌then◌else◌, List, [], ◌∷◌, Option, None, Some, length, nat_le}
use Rattle.std.specs.List.{before_first, after_first}
use Rattle.std.specs.Option.{option_map, option_and_then}

abbrev pub is_digit : ℕ → Bool
is_digit b = nat_le 48 b && nat_le b 57

-- the number that digits give behind those that gave n
abbrev pub number_behind : ℕ → List ℕ → Option ℕ
number_behind n [] = Some n
number_behind n (d ∷ ds) = if is_digit d then number_behind (n * 10 + (d - 48)) ds else None

-- one or more decimal digits; leading zeros are allowed
abbrev pub number_of : List ℕ → Option ℕ
number_of [] = None
number_of (d ∷ ds) = number_behind 0 (d ∷ ds)

abbrev pub if_at_most : ℕ → ℕ → Option ℕ
if_at_most most n = if nat_le n most then Some n else None

-- digits of a number that is at most so much
abbrev pub number_up_to : ℕ → List ℕ → Option ℕ
number_up_to most text = option_and_then (if_at_most most) (number_of text)

abbrev pub begins_with : ℕ → List ℕ → Bool
begins_with byte [] = false
begins_with byte (b ∷ bs) = b == byte

abbrev pub is_negative : List ℕ → Bool
is_negative text = begins_with 45 text

-- what stands behind a minus, or all where there is none
abbrev pub without_sign : List ℕ → List ℕ
without_sign [] = []
without_sign (b ∷ bs) = if b == 45 then bs else b ∷ bs

-- the number with its sign, where it is in the range of 64 bits
abbrev pub if_i64 : Bool → ℕ → Option ℤ
if_i64 true n = if nat_le n (2 ^ 63) then Some (neg_ℤ (pos n)) else None
if_i64 false n = if nat_le n (2 ^ 63 - 1) then Some (pos n) else None

-- digits with or without a minus
abbrev pub int_of : List ℕ → Option ℤ
int_of text = option_and_then (if_i64 (is_negative text)) (number_of (without_sign text))

abbrev pub is_point : ℕ → Bool
is_point b = b == 46

-- none to nine digits behind the point, in billionths
abbrev pub fraction_of : List ℕ → Option ℕ
fraction_of digits =
    if nat_le (length digits) 9 then option_map (λ n. n * 10 ^ (9 - length digits)) (number_behind 0 digits) else None

-- digits, and a point and none to nine digits where there is a point: seconds, in nanoseconds
abbrev pub nanoseconds_of : List ℕ → Option ℕ
nanoseconds_of text =
    option_and_then (λ whole. option_map (λ part. whole * 10 ^ 9 + part) (fraction_of (after_first is_point text)))
    (number_of (before_first is_point text))

-- seconds with or without a minus, in nanoseconds in the range of 64 bits
abbrev pub span_of : List ℕ → Option ℤ
span_of text = option_and_then (if_i64 (is_negative text)) (nanoseconds_of (without_sign text))
