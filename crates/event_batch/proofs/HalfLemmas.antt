-- A number of 16 bytes is two of 8, the low half first.
use Rattle.std.proofs.Common.{◌≡◌, ℕ, zero, suc, ◌+◌, ◌-◌, ◌*◌, ◌/◌, ◌%◌, ◌<◌, ◌≤◌, ◌^◌, List, ◌++◌, drop, slice_index, refl, sym, ap, ◌∙◌, arith}
use Rattle.std.proofs.Math.Nat.{div-add-mod, div-div-eq-div-mul, div-one, mul-add-div, mul-add-mod_self_left, mul_assoc, mul_comm, one-le-pow, pow-suc}
use Rattle.std.proofs.lemmas.List.{get_or-drop}
use Rattle.std.proofs.lemmas.Nat.{pow-add}
use Rattle.std.specs.Int.{byte_at as low_byte, bytes_low_first}
use Rattle.byteorder.specs.Endian.{little_number, little_from}
use Rattle.vast_value.specs.ValueBytes.{number}

byte_is : (i n : ℕ) → low_byte i n ≡ n / 256 ^ i % 256
byte_is zero n = ap (λ (m : ℕ). m % 256) (sym (div-one n))
byte_is (suc i) n = refl

-- a byte of a number lies in its low part
in_low_part : (a c n : ℕ) → 0 < a → n % (a * (256 * c)) / a % 256 ≡ n / a % 256
in_low_part a c n lt =
    let q = n / (a * (256 * c)) in
    let r = n % (a * (256 * c)) in
    let grouped : a * (256 * c) * q ≡ a * (256 * (c * q)) = mul_assoc a (256 * c) q ∙ ap (λ (m : ℕ). a * m) (mul_assoc 256 c q) in
    let whole : n ≡ a * (256 * (c * q)) + r = sym (div-add-mod n (a * (256 * c))) ∙ ap (λ (m : ℕ). m + r) grouped in
    let over : n / a ≡ 256 * (c * q) + r / a = ap (λ (m : ℕ). m / a) whole ∙ mul-add-div lt (256 * (c * q)) r in
    sym (ap (λ (m : ℕ). m % 256) over ∙ mul-add-mod_self_left 256 (c * q) (r / a))

power_parts : (i j : ℕ) → i < j → 256 ^ j ≡ 256 ^ i * (256 * 256 ^ (j - i - 1))
power_parts i j lt =
    let k : j ≡ i + suc (j - i - 1) = omega arith in
    ap (λ (m : ℕ). 256 ^ m) k ∙ pow-add 256 i (suc (j - i - 1)) ∙ ap (λ (m : ℕ). 256 ^ i * m) (pow-suc 256 (j - i - 1) ∙ mul_comm _ _)

low : (i j n : ℕ) → i < j → low_byte i (n % 256 ^ j) ≡ low_byte i n
low i j n lt =
    let positive = one-le-pow i 256 (omega arith) in
    let part : n % 256 ^ j / 256 ^ i % 256 ≡ n / 256 ^ i % 256 = rw (power_parts i j lt) (in_low_part (256 ^ i) (256 ^ (j - i - 1)) n (omega arith)) in
    byte_is i (n % 256 ^ j) ∙ part ∙ sym (byte_is i n)

low_bytes : (i k j n : ℕ) → i + k ≤ j → bytes_low_first i k (n % 256 ^ j) ≡ bytes_low_first i k n
low_bytes i zero j n le = refl
low_bytes i (suc k) j n le = rw (low i j n (omega arith), low_bytes (suc i) k j n (omega arith)) refl

high : (i j n : ℕ) → low_byte i (n / 256 ^ j) ≡ low_byte (j + i) n
high i j n =
    let over : n / 256 ^ j / 256 ^ i ≡ n / 256 ^ (j + i) = div-div-eq-div-mul n (256 ^ j) (256 ^ i) ∙ ap (λ (m : ℕ). n / m) (sym (pow-add 256 j i)) in
    byte_is i (n / 256 ^ j) ∙ ap (λ (m : ℕ). m % 256) over ∙ sym (byte_is (j + i) n)

high_bytes : (i k j n : ℕ) → bytes_low_first i k (n / 256 ^ j) ≡ bytes_low_first (j + i) k n
high_bytes i zero j n = refl
high_bytes i (suc k) j n =
    let next : j + suc i ≡ suc (j + i) = omega arith in
    rw (high i j n, high_bytes (suc i) k j n, next) refl

pub of_halves : (n : ℕ) → number 8 (n % 2 ^ 64) ++ number 8 (n / 2 ^ 64) ≡ number 16 n
unfolding number
of_halves n = ap (λ (bytes : List ℕ). bytes ++ bytes_low_first 0 8 (n / 2 ^ 64)) (low_bytes 0 8 8 n (omega arith)) ∙ ap (λ (bytes : List ℕ). bytes_low_first 0 8 n ++ bytes) (high_bytes 0 8 8 n)

moved : (j i n : ℕ) (bytes : List ℕ) → little_from i n (drop j bytes) ≡ little_from (j + i) n bytes
moved j i zero bytes = refl
moved j i (suc n) bytes =
    let next : j + suc i ≡ suc (j + i) = omega arith in
    let here : slice_index (drop j bytes) i ≡ slice_index bytes (j + i) = get_or-drop j bytes i 0 in
    rw (here, moved j (suc i) n bytes, next) refl

pub from_halves : (bytes : List ℕ) → little_number 8 bytes + little_number 8 (drop 8 bytes) * 2 ^ 64 ≡ little_number 16 bytes
from_halves bytes = rw (moved 8 0 8 bytes) (omega arith)
