-- Subnets that were written are read again.
use Rattle.std.proofs.Common.{◌≡◌, ℕ, ◌+◌, ◌-◌, ◌*◌, ◌/◌, ◌%◌, ◌^◌, ◌<◌, ◌≤◌, Bool, true, false, not, ◌&&◌, cond, leb, eqb, List, ◌∷◌, ◌++◌, Some, refl, ap, ◌∙◌, arith, inl, inr}
use Rattle.std.specs.Fmt.{decimal}
use Rattle.std.specs.List.{list_all}
use Rattle.std.proofs.lemmas.Bool.{cases_Bool, cond-true, cond-false, le-leb, leb-true, eq-eqb, ne_eqb}
use Rattle.std.proofs.lemmas.Nat.{div-add-mod'}
use Rattle.vast_value.specs.declared.net.Net.{Net}
use Rattle.vast_value.specs.Nets.{net_of}
use Rattle.vast_value.proofs.NetLemmas.{net_of_itself}
use Rattle.value_reading.specs.Addresses.{is_slash, dotted_of, grouped_of, mapped, subnet, subnet_from, subnet_of}
use Rattle.value_writing.specs.Writing.{groups_of, grouped_text, dotted_text, is_mapped, subnet_text}
use Rattle.value_writing.proofs.WritingNumbers.{both, all_append, decimal_all, before_again, after_again}
use Rattle.value_writing.proofs.WritingDotted.{short_again, dotted_again, dotted_all}
use Rattle.value_writing.proofs.WritingAddresses.{grouped_passes, grouped_again, grouped_no_dots, mapped_again}

nothing_left : (q r n : ℕ) → q + r ≡ n → r ≡ 0 → q ≡ n
nothing_left q r n h k = omega arith

subnet_is : (n : Net) → subnet n.base n.bits ≡ Some n
subnet_is n =
    let same : n.base / 2 ^ (128 - n.bits) * 2 ^ (128 - n.bits) ≡ n.base = nothing_left _ (n.base % 2 ^ (128 - n.bits)) n.base (div-add-mod' n.base (2 ^ (128 - n.bits))) n.masked in
    ap (λ (base : ℕ). net_of base n.bits) same ∙ net_of_itself n

abbrev with_bits : List ℕ → ℕ → List ℕ
with_bits address bits = address ++ 47 ∷ decimal bits

no_slash_low : (b : ℕ) → 48 ≤ b → b ≤ 57 → not (is_slash b) ≡ true
no_slash_low b low high = rw (ne_eqb b 47 (λ e. omega arith)) refl

no_slash_high : (b : ℕ) → 97 ≤ b → b ≤ 102 → not (is_slash b) ≡ true
no_slash_high b low high = rw (ne_eqb b 47 (λ e. omega arith)) refl

-- what is read before the slash and behind it
parts_again : (address : List ℕ) (bits : ℕ) → list_all (λ b. not (is_slash b)) address ≡ true
    → subnet_of (with_bits address bits) ≡ subnet_from (dotted_of address) (grouped_of address) (decimal bits)
parts_again address bits h = rw (before_again is_slash address 47 (decimal bits) h refl, after_again is_slash address 47 (decimal bits) h refl) refl

dotted_net : (n : Net) → leb 96 n.bits ≡ true → is_mapped n.base ≡ true → subnet_of (with_bits (dotted_text (n.base % 2 ^ 32)) (n.bits - 96)) ≡ Some n
dotted_net n h k =
    let most = n.narrow in
    let least = leb-true 96 n.bits h in
    let bits : 96 + (n.bits - 96) ≡ n.bits = omega arith in
    let base : mapped (n.base % 2 ^ 32) ≡ n.base = mapped_again n.base k in
    parts_again (dotted_text (n.base % 2 ^ 32)) (n.bits - 96) (dotted_all (λ b. not (is_slash b)) no_slash_low refl (n.base % 2 ^ 32))
    ∙ (rw (dotted_again (n.base % 2 ^ 32) (omega arith), short_again 32 (n.bits - 96) (omega arith) (omega arith))
    (ap (λ (a : ℕ). subnet a (96 + (n.bits - 96))) base ∙ (ap (subnet n.base) bits ∙ subnet_is n)))

grouped_net : (n : Net) → n.base < 2 ^ 128 → subnet_of (with_bits (grouped_text (groups_of n.base)) n.bits) ≡ Some n
grouped_net n h =
    let most = n.narrow in
    parts_again (grouped_text (groups_of n.base)) n.bits (grouped_passes (λ b. not (is_slash b)) no_slash_low no_slash_high refl n.base)
    ∙ (rw (grouped_no_dots n.base, grouped_again n.base h, short_again 128 n.bits (omega arith) (omega arith)) (subnet_is n))

pub subnet_again : (n : Net) → n.base < 2 ^ 128 → subnet_of (subnet_text n) ≡ Some n
subnet_again n h = elim (cases_Bool (leb 96 n.bits && is_mapped n.base)) [
  | inl v4 ↦
      let a = both (leb 96 n.bits) (is_mapped n.base) v4 in
      ap subnet_of (cond-true (leb 96 n.bits && is_mapped n.base) (with_bits (dotted_text (n.base % 2 ^ 32)) (n.bits - 96)) (with_bits (grouped_text (groups_of n.base)) n.bits) v4)
      ∙ dotted_net n a.0 a.1
  | inr v6 ↦
      ap subnet_of (cond-false (leb 96 n.bits && is_mapped n.base) (with_bits (dotted_text (n.base % 2 ^ 32)) (n.bits - 96)) (with_bits (grouped_text (groups_of n.base)) n.bits) v6)
      ∙ grouped_net n h
]

-- a test that passes hexadecimal digits, the colon, the point and the slash passes subnets
pub subnet_passes : (p : ℕ → Bool) → ((b : ℕ) → 48 ≤ b → b ≤ 57 → p b ≡ true) → ((b : ℕ) → 97 ≤ b → b ≤ 102 → p b ≡ true) → p 58 ≡ true → p 46 ≡ true → p 47 ≡ true → (n : Net) → list_all p (subnet_text n) ≡ true
subnet_passes p low high colon point slash n =
    let narrow = n.narrow in
    elim (leb 96 n.bits && is_mapped n.base) as (λ t. list_all p (cond t (with_bits (dotted_text (n.base % 2 ^ 32)) (n.bits - 96)) (with_bits (grouped_text (groups_of n.base)) n.bits)) ≡ true) [
      | true ↦ all_append p (dotted_text (n.base % 2 ^ 32)) (47 ∷ decimal (n.bits - 96)) (dotted_all p low point (n.base % 2 ^ 32)) (rw (slash, decimal_all p low (n.bits - 96) (omega arith)) refl)
      | false ↦ all_append p (grouped_text (groups_of n.base)) (47 ∷ decimal n.bits) (grouped_passes p low high colon n.base) (rw (slash, decimal_all p low n.bits (omega arith)) refl)
    ]
