-- Digits and the numbers that they give.
use Rattle.std.proofs.Common.{◌≡◌, ℕ, suc, ◌+◌, ◌-◌, ◌*◌, ◌^◌, ◌<◌, ◌≤◌, true, false, eqb, leb, List, [], ◌∷◌, ◌++◌, Option, None, Some, length, take, drop, get_or, refl, ap, ap₂, sym, ◌∙◌, arith}
use Rattle.std.specs.Prelude.{IsSome}
use Rattle.std.proofs.Math.Nat.{pow-succ', pow-le-pow_right, mul-le-mul_right, mul_assoc}
use Rattle.std.proofs.lemmas.Bool.{and_parts, leb-true, le-leb, ne_eqb, cond-true}
use Rattle.std.proofs.lemmas.List.{take_all, drop_all, length-take-le}
use Rattle.std.specs.List.{list_all, list_any, position_or_len, prefix_len, before_first}
use Rattle.std.specs.Option.{option_and_then, is_some}
use Rattle.vast_value.specs.declared.transport.Transport.{Transport}
use Rattle.vast_value.specs.declared.transport.Transport.TheVariants.{Unknown}
use Rattle.value_reading.specs.Addresses.{is_slash}
use Rattle.value_reading.specs.Numbers.{is_digit, number_behind, if_at_most, number_up_to, is_negative, without_sign, int_of}
use Rattle.value_reading.specs.Ports.{port_of, port_by, transport_behind, from_slash}
use Rattle.plain_cells.proofs.LaneLemmas.{all_before}

pub digit_bounds : (d : ℕ) → is_digit d ≡ true → (48 ≤ d) × (d ≤ 57)
digit_bounds d digit =
    let both = and_parts (leb 48 d) (leb d 57) digit in
    (leb-true 48 d both.0, leb-true d 57 both.1)

-- none of some digits is another byte
pub digits_none : (b : ℕ) (ds : List ℕ) → 57 < b → list_all is_digit ds ≡ true → list_any (λ d. eqb d b) ds ≡ false
digits_none b [] high all = refl
digits_none b (d ∷ ds) high all =
    let both = and_parts (is_digit d) (list_all is_digit ds) all in
    let bounds = digit_bounds d both.0 in
    rw (ne_eqb d b (λ same. omega arith), digits_none b ds high both.1) refl

-- the number that digits give behind others
pub record Reads (n : ℕ) (ds : List ℕ) : Type 0 where
  pub number : ℕ
  pub is : number_behind n ds ≡ Some number
  pub below : number < (n + 1) * 10 ^ length ds
  pub above : n ≤ number
  pub from : n * 10 ^ length ds ≤ number

pub digits_read : (n : ℕ) (ds : List ℕ) → list_all is_digit ds ≡ true → Reads n ds
digits_read n [] all = record { number = n; is = refl; below = omega arith; above = omega arith; from = omega arith }
digits_read n (d ∷ ds) all =
    let both = and_parts (is_digit d) (list_all is_digit ds) all in
    let bounds = digit_bounds d both.0 in
    let more : Reads (n * 10 + (d - 48)) ds = digits_read (n * 10 + (d - 48)) ds both.1 in
    let whole : (n + 1) * 10 ^ suc (length ds) ≡ (n + 1) * 10 * 10 ^ length ds = ap (λ (p : ℕ). (n + 1) * p) (pow-succ' 10 (length ds)) ∙ sym (mul_assoc (n + 1) 10 (10 ^ length ds)) in
    let wide : (n * 10 + (d - 48) + 1) * 10 ^ length ds ≤ (n + 1) * 10 * 10 ^ length ds = mul-le-mul_right (10 ^ length ds) (omega arith) in
    let part : n * 10 ^ suc (length ds) ≡ n * 10 * 10 ^ length ds = ap (λ (p : ℕ). n * p) (pow-succ' 10 (length ds)) ∙ sym (mul_assoc n 10 (10 ^ length ds)) in
    let low : n * 10 * 10 ^ length ds ≤ (n * 10 + (d - 48)) * 10 ^ length ds = mul-le-mul_right (10 ^ length ds) (omega arith) in
    record {
      number = more.number;
      is = cond-true (is_digit d) (number_behind (n * 10 + (d - 48)) ds) None both.0 ∙ more.is;
      below = omega (arith, more.below, wide, whole);
      above = omega (arith, more.above);
      from = omega (arith, more.from, part, low);
    }

at_most_some : (most n : ℕ) → n ≤ most → IsSome (if_at_most most n)
at_most_some most n within = rw (le-leb n most within) refl

-- digits whose number is at most so much
pub number_within : (most : ℕ) (ds : List ℕ) (number : ℕ) → 0 < length ds → number_behind 0 ds ≡ Some number → number ≤ most → IsSome (number_up_to most ds)
number_within most [] number some is within = absurd (omega arith)
number_within most (d ∷ ds) number some is within = rw is (at_most_some most number within)

pub few_within : (most : ℕ) (ds : List ℕ) → list_all is_digit ds ≡ true → 0 < length ds → 10 ^ length ds ≤ most + 1 → IsSome (number_up_to most ds)
few_within most ds all some few =
    let read = digits_read 0 ds all in
    number_within most ds read.number some read.is (omega (arith, read.below))

pub ten_pow : (i j : ℕ) → i ≤ j → 10 ^ i ≤ 10 ^ j
ten_pow i j low = pow-le-pow_right (omega arith) low

pub sixteen_within : (ds : List ℕ) → list_all is_digit ds ≡ true → 0 < length ds → length ds ≤ 16 → IsSome (number_up_to (2 ^ 64 - 1) ds)
sixteen_within ds all some few =
    let power : 10 ^ length ds ≤ 10 ^ 16 = ten_pow (length ds) 16 few in
    few_within (2 ^ 64 - 1) ds all some (omega arith)

-- digits have no minus
pub no_sign : (ds rest : List ℕ) → list_all is_digit ds ≡ true → 0 < length ds → (is_negative (ds ++ rest) ≡ false) × (without_sign (ds ++ rest) ≡ ds ++ rest)
no_sign [] rest all some = absurd (omega arith)
no_sign (d ∷ ds) rest all some =
    let both = and_parts (is_digit d) (list_all is_digit ds) all in
    let bounds = digit_bounds d both.0 in
    let other : eqb d 45 ≡ false = ne_eqb d 45 (λ same. omega arith) in
    (other, rw other refl)

pub int_sixteen : (ds : List ℕ) → list_all is_digit ds ≡ true → 0 < length ds → length ds ≤ 16 → IsSome (int_of ds)
int_sixteen [] all some few = absurd (omega arith)
int_sixteen (d ∷ ds) all some few =
    let read = digits_read 0 (d ∷ ds) all in
    let power : 10 ^ length (d ∷ ds) ≤ 10 ^ 16 = ten_pow (length (d ∷ ds)) 16 few in
    let sign = no_sign (d ∷ ds) [] all some in
    let other : eqb d 45 ≡ false = sign.0 in
    let within : read.number ≤ 2 ^ 63 - 1 = omega (arith, read.below) in
    rw (other, read.is, le-leb read.number (2 ^ 63 - 1) within) refl

-- Ports

no_slash : (ds : List ℕ) → list_all is_digit ds ≡ true → position_or_len is_slash ds ≡ length ds
no_slash [] all = refl
no_slash (d ∷ ds) all =
    let both = and_parts (is_digit d) (list_all is_digit ds) all in
    let bounds = digit_bounds d both.0 in
    rw (ne_eqb d 47 (λ same. omega arith), no_slash ds both.1) (omega arith)

port_some : (o : Option ℕ) → IsSome o → IsSome {T = ℕ × Transport} (option_and_then (λ (number : ℕ). Some (number, Unknown)) o)
port_some None some = some
port_some (Some number) some = refl

-- digits of a port without a transport
pub port_is : (ds : List ℕ) → list_all is_digit ds ≡ true → port_of ds ≡ option_and_then (λ (number : ℕ). Some (number, Unknown)) (number_up_to 65535 ds)
port_is ds all =
    let at : position_or_len is_slash ds ≡ length ds = no_slash ds all in
    let front : before_first is_slash ds ≡ ds = ap (λ (n : ℕ). take n ds) at ∙ take_all (length ds) ds (omega arith) in
    let back : from_slash ds ≡ [] = ap (λ (n : ℕ). drop n ds) at ∙ drop_all (length ds) ds (omega arith) in
    ap₂ (λ (a b : List ℕ). port_by a (transport_behind b)) front back

pub port_digits : (ds : List ℕ) → list_all is_digit ds ≡ true → IsSome (number_up_to 65535 ds) → IsSome (port_of ds)
port_digits ds all some = ap is_some (port_is ds all) ∙ port_some (number_up_to 65535 ds) some

pub four_within : (ds : List ℕ) → list_all is_digit ds ≡ true → 0 < length ds → length ds ≤ 4 → IsSome (number_up_to 65535 ds)
four_within ds all some few =
    let power : 10 ^ length ds ≤ 10 ^ 4 = ten_pow (length ds) 4 few in
    few_within 65535 ds all some (omega arith)

-- five digits, by the sum of their bytes
pub five_within : (text : List ℕ) → 5 ≤ length text → list_all is_digit (take 5 text) ≡ true
    → (((get_or text 0 0 * 10 + get_or text 1 0) * 10 + get_or text 2 0) * 10 + get_or text 3 0) * 10 + get_or text 4 0 ≤ 598863 → IsSome (number_up_to 65535 (take 5 text))
five_within [] long all low = absurd (omega arith)
five_within (a ∷ []) long all low = absurd (omega arith)
five_within (a ∷ (b ∷ [])) long all low = absurd (omega arith)
five_within (a ∷ (b ∷ (c ∷ []))) long all low = absurd (omega arith)
five_within (a ∷ (b ∷ (c ∷ (d ∷ [])))) long all low = absurd (omega arith)
five_within (a ∷ (b ∷ (c ∷ (d ∷ (e ∷ rest))))) long all low =
    let is_a = and_parts (is_digit a) (list_all is_digit (b ∷ (c ∷ (d ∷ (e ∷ []))))) all in
    let is_b = and_parts (is_digit b) (list_all is_digit (c ∷ (d ∷ (e ∷ [])))) is_a.1 in
    let is_c = and_parts (is_digit c) (list_all is_digit (d ∷ (e ∷ []))) is_b.1 in
    let is_d = and_parts (is_digit d) (list_all is_digit (e ∷ [])) is_c.1 in
    let is_e = and_parts (is_digit e) true is_d.1 in
    let from_a = digit_bounds a is_a.0 in
    let from_b = digit_bounds b is_b.0 in
    let from_c = digit_bounds c is_c.0 in
    let from_d = digit_bounds d is_d.0 in
    let from_e = digit_bounds e is_e.0 in
    number_within 65535 (a ∷ (b ∷ (c ∷ (d ∷ (e ∷ [])))))
    (((((0 * 10 + (a - 48)) * 10 + (b - 48)) * 10 + (c - 48)) * 10 + (d - 48)) * 10 + (e - 48)) (omega arith)
    (rw (is_a.0, is_b.0, is_c.0, is_d.0, is_e.0) refl) (omega arith)

-- Digits at the front of a text

pub record AreDigits (text : List ℕ) (count : ℕ) : Type 0 where
  pub digits : list_all is_digit (take count text) ≡ true
  pub long : length (take count text) ≡ count

pub digits_led : (text : List ℕ) (count led : ℕ) → 16 ≤ length text → led ≡ prefix_len is_digit (take 16 text) → led ≤ 16 → count ≤ led → AreDigits text count
digits_led text count led room is few low = record {
  digits = all_before is_digit 16 count text (omega arith);
  long = length-take-le count text (omega arith);
}
