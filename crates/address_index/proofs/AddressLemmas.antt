-- What an address index answers.
use Rattle.std.proofs.Common.{◌≡◌, ℕ, ◌+◌, ◌-◌, ◌*◌, ◌/◌, ◌%◌, ◌^◌, ◌<◌, ◌≤◌, Bool, true, eqb, ltb, ◌&&◌, List, [], get_or, take, drop, Option, Result, Ok, Err, IfOk, refl, ap, sym, ◌∙◌, subst, inl, inr, arith}
use Rattle.std.proofs.Math.Nat.{div-one, mod-eq_of_lt}
use Rattle.std.proofs.Math.Nat.{div-lt_iff_lt-mul, div-add-mod, mul_comm, mul-le-mul_left, div-eq_of_lt}
use Rattle.std.proofs.lemmas.Nat.{pow-add, pow_pos, shr-shr}
use Rattle.std.proofs.lemmas.Bool.Decides.{nat_tests}
use Rattle.std.proofs.lemmas.Bool.{cases_eq}
use Rattle.bits_law.specs.Keys.{answers}
use Rattle.bits_law.specs.Numbers.{number_at, has_bit, IsAnswer}
use Rattle.bits_law.specs.Contents.{Contents}
use Rattle.bits_law.proofs.AnswerLemmas.{asked_slices, answers-same}
use Rattle.bits_law.proofs.WordBits.{bit-low, down}
use Rattle.address_index.specs.Addresses.{address_bit, within, HasAddresses, Holds}

-- a column of the 128
pub in_address : (j : ℕ) (b : Bool) → j < 128 → (ltb j 128 && b) ≡ b
in_address j b l = let less : ltb j 128 ≡ true = grind (arith, nat_tests) in ap (λ x. x && b) less

-- the bits of an address in two words, the highest first
pub high_part : (address part j : ℕ) → part ≡ 0 → j < 64 → has_bit (address / 2 ^ 64) (63 - j) ≡ (ltb (64 * part + j) 128 && address_bit (64 * part + j) address)
high_part address part j e l =
    let less : ltb (64 * part + j) 128 ≡ true = grind (arith, nat_tests) in
    let place : 64 + (63 - j) ≡ 127 - (64 * part + j) = omega arith in
    down address 64 (63 - j) ∙ ap (has_bit address) place ∙ ap (λ b. b && address_bit (64 * part + j) address) (sym less)

pub low_part : (address part j : ℕ) → part ≡ 1 → j < 64 → has_bit (address % 2 ^ 64) (63 - j) ≡ (ltb (64 * part + j) 128 && address_bit (64 * part + j) address)
low_part address part j e l =
    let less : ltb (64 * part + j) 128 ≡ true = grind (arith, nat_tests) in
    let place : 63 - j ≡ 127 - (64 * part + j) = omega arith in
    bit-low address (63 - j) (omega arith) ∙ ap (has_bit address) place ∙ ap (λ b. b && address_bit (64 * part + j) address) (sym less)

-- the columns from `from` on, as bits of the address
address_bits : (keys : List (Option ℕ)) (table : Contents) (from n m j : ℕ) → from + n + m ≡ 128 → j < n → HasAddresses table keys → get_or table.columns (from + j) [] ≡ answers (λ key. eqb (key / 2 ^ (m + (n - 1 - j)) % 2) 1) keys
address_bits keys table from n m j e u h =
    let at : 127 - (from + j) ≡ m + (n - 1 - j) = omega arith in
    h.column (from + j) (omega arith)
    ∙ answers-same (address_bit (from + j)) (λ key. eqb (key / 2 ^ (m + (n - 1 - j)) % 2) 1) keys (λ row key l q. ap (λ i. eqb (key / 2 ^ i % 2) 1) at)

-- what is asked of `n` columns from `from` on, among the rows that pass a test
pub asked_part : (keys : List (Option ℕ)) (table : Contents) (from n m bits : ℕ) (p : ℕ → Bool) (answer among : List Bool) → from + n + m ≡ 128 → HasAddresses table keys → among ≡ answers p keys → IsAnswer answer among (λ row. eqb (number_at (take n (drop from table.columns)) row) bits) → answer ≡ answers (λ key. p key && eqb (key / 2 ^ m % 2 ^ n) bits) keys
asked_part keys table from n m bits p answer among s h e a =
    asked_slices keys table.columns from m n (λ key. key) p (λ number. eqb number bits) answer among (omega (arith, h.wide)) (λ j u. address_bits keys table from n m j s u h) e a

-- the first bits of an address
first_bits : (key n : ℕ) → n ≤ 128 → key < 2 ^ 128 → key / 2 ^ (128 - n) % 2 ^ n ≡ key / 2 ^ (128 - n)
first_bits key n l u =
    let whole : 128 - n + n ≡ 128 = omega arith in
    let p : 2 ^ (128 - n) * 2 ^ n ≡ 2 ^ 128 = sym (pow-add 2 (128 - n) n) ∙ ap (λ i. 2 ^ i) whole in
    mod-eq_of_lt ((div-lt_iff_lt-mul {k = 2 ^ (128 - n)} {x = key} {y = 2 ^ n} (pow_pos (128 - n))).1 (subst (λ x. key < x) (sym p ∙ mul_comm (2 ^ (128 - n)) (2 ^ n)) u))

-- at most 64 bits are compared at once
pub within_few : (keys : List (Option ℕ)) (table : Contents) (base bits : ℕ) (answer : List Bool) → bits ≤ 128 → HasAddresses table keys → IsAnswer answer table.present (λ row. eqb (number_at (take bits (drop 0 table.columns)) row) (base / 2 ^ (128 - bits))) → answer ≡ answers (within base bits) keys
within_few keys table base bits answer l h a =
    asked_part keys table 0 bits (128 - bits) (base / 2 ^ (128 - bits)) (λ _. true) answer table.present (omega arith) h h.present a
    ∙ answers-same (λ key. eqb (key / 2 ^ (128 - bits) % 2 ^ bits) (base / 2 ^ (128 - bits))) (within base bits) keys (λ row key u q. ap (λ n. eqb n (base / 2 ^ (128 - bits))) (first_bits key bits l (h.each row key q)))

-- two numbers are equal where their parts are
pub same_parts : (a c p : ℕ) → (eqb (a / p) (c / p) && eqb (a % p) (c % p)) ≡ eqb a c
same_parts a c p =
    let x = div-add-mod a p in
    let y = div-add-mod c p in
    elim (cases_eq a c) [
      | inl same ↦ rw same (grind (arith, nat_tests))
      | inr differ ↦ elim (cases_eq (a / p) (c / p)) [
        | inl high ↦ elim (cases_eq (a % p) (c % p)) [
          | inl low ↦ absurd (differ (sym x ∙ ap (λ q. p * q + a % p) high ∙ ap (λ r. p * (c / p) + r) low ∙ y))
          | inr low ↦ grind (arith, nat_tests)
        ]
        | inr high ↦ grind (arith, nat_tests)
      ]
    ]

-- more than 64 bits are compared in two parts
pub within_many : (keys : List (Option ℕ)) (table : Contents) (base bits : ℕ) (high answer : List Bool) → 64 < bits → bits ≤ 128 → HasAddresses table keys → IsAnswer high table.present (λ row. eqb (number_at (take 64 (drop 0 table.columns)) row) (base / 2 ^ 64)) → IsAnswer answer high (λ row. eqb (number_at (take (bits - 64) (drop 64 table.columns)) row) (base / 2 ^ (128 - bits) % 2 ^ (bits - 64))) → answer ≡ answers (within base bits) keys
within_many keys table base bits high answer more l h a b =
    asked_part keys table 64 (bits - 64) (128 - bits) (base / 2 ^ (128 - bits) % 2 ^ (bits - 64)) (within base 64) answer high (omega arith) h (within_few keys table base 64 high (omega arith) h a) b
    ∙ answers-same (λ key. within base 64 key && eqb (key / 2 ^ (128 - bits) % 2 ^ (bits - 64)) (base / 2 ^ (128 - bits) % 2 ^ (bits - 64))) (within base bits) keys (λ row key u q. both key)
  where
    up : 128 - bits + (bits - 64) ≡ 64
    up = omega arith

    higher : (n : ℕ) → n / 2 ^ (128 - bits) / 2 ^ (bits - 64) ≡ n / 2 ^ 64
    higher n = shr-shr n (128 - bits) (bits - 64) ∙ ap (λ i. n / 2 ^ i) up

    both : (key : ℕ) → (eqb (key / 2 ^ 64) (base / 2 ^ 64) && eqb (key / 2 ^ (128 - bits) % 2 ^ (bits - 64)) (base / 2 ^ (128 - bits) % 2 ^ (bits - 64))) ≡ eqb (key / 2 ^ (128 - bits)) (base / 2 ^ (128 - bits))
    both key =
        ap (λ n. eqb n (base / 2 ^ 64) && eqb (key / 2 ^ (128 - bits) % 2 ^ (bits - 64)) (base / 2 ^ (128 - bits) % 2 ^ (bits - 64))) (sym (higher key))
        ∙ ap (λ n. eqb (key / 2 ^ (128 - bits) / 2 ^ (bits - 64)) n && eqb (key / 2 ^ (128 - bits) % 2 ^ (bits - 64)) (base / 2 ^ (128 - bits) % 2 ^ (bits - 64))) (sym (higher base))
        ∙ same_parts (key / 2 ^ (128 - bits)) (base / 2 ^ (128 - bits)) (2 ^ (bits - 64))

-- a prefix of at most 64 bits is a number of 64 bits
pub prefix_fits : (base bits : ℕ) → bits ≤ 64 → base < 2 ^ 128 → base / 2 ^ (128 - bits) < 2 ^ 64
prefix_fits base bits l u =
    let whole : 64 + (128 - bits) ≡ 128 + (64 - bits) = omega arith in
    let p : 2 ^ 64 * 2 ^ (128 - bits) ≡ 2 ^ 128 * 2 ^ (64 - bits) = sym (pow-add 2 64 (128 - bits)) ∙ ap (λ i. 2 ^ i) whole ∙ pow-add 2 128 (64 - bits) in
    let big : 2 ^ 128 * 1 ≤ 2 ^ 128 * 2 ^ (64 - bits) = mul-le-mul_left (2 ^ 128) (pow_pos (64 - bits)) in
    (div-lt_iff_lt-mul {k = 2 ^ (128 - bits)} {x = base} {y = 2 ^ 64} (pow_pos (128 - bits))).1 (subst (λ x. base < x) (sym p) (omega (arith, big)))

pub within_ok : {B E : Type 0} (bits_of : B → List Bool) (table : Contents) (base bits : ℕ) (result : Result B E) → bits ≤ 128 → IfOk result (λ b. IsAnswer (bits_of b) table.present (λ row. eqb (number_at (take bits (drop 0 table.columns)) row) (base / 2 ^ (128 - bits)))) → IfOk result (λ b. (keys : List (Option ℕ)) → HasAddresses table keys → bits_of b ≡ answers (within base bits) keys)
within_ok bits_of table base bits (Ok b) l a = λ keys h. within_few keys table base bits (bits_of b) l h a
within_ok bits_of table base bits (Err x) l a = tt

pub within_both : {B E : Type 0} (bits_of : B → List Bool) (table : Contents) (base bits : ℕ) (high : List Bool) (result : Result B E) → 64 < bits → bits ≤ 128 → IsAnswer high table.present (λ row. eqb (number_at (take 64 (drop 0 table.columns)) row) (base / 2 ^ 64)) → IfOk result (λ b. IsAnswer (bits_of b) high (λ row. eqb (number_at (take (bits - 64) (drop 64 table.columns)) row) (base / 2 ^ (128 - bits) % 2 ^ (bits - 64)))) → IfOk result (λ b. (keys : List (Option ℕ)) → HasAddresses table keys → bits_of b ≡ answers (within base bits) keys)
within_both bits_of table base bits high (Ok b) more l f a = λ keys h. within_many keys table base bits high (bits_of b) more l h f a
within_both bits_of table base bits high (Err x) more l f a = tt

-- every address has a prefix of no bits
pub within_none : {B E : Type 0} (bits_of : B → List Bool) (table : Contents) (base bits : ℕ) (result : Result B E) → bits ≡ 0 → base < 2 ^ 128 → IfOk result (λ b. bits_of b ≡ table.present) → IfOk result (λ b. (keys : List (Option ℕ)) → HasAddresses table keys → bits_of b ≡ answers (within base bits) keys)
within_none bits_of table base bits (Ok b) z u a = λ keys h.
    a ∙ h.present ∙ answers-same (λ _. true) (within base bits) keys (λ row key l q.
    let top : 128 - bits ≡ 128 = omega arith in
    let one = div-eq_of_lt {n = key} {m = 2 ^ 128} (h.each row key q) in
    let two = div-eq_of_lt {n = base} {m = 2 ^ 128} u in
    rw (top, one, two) refl)
within_none bits_of table base bits (Err x) z u a = tt

pub equal_ok : {B E : Type 0} (bits_of : B → List Bool) (table : Contents) (address : ℕ) (result : Result B E) → IfOk result (λ b. (keys : List (Option ℕ)) → HasAddresses table keys → bits_of b ≡ answers (within address 128) keys) → IfOk result (λ b. (keys : List (Option ℕ)) → HasAddresses table keys → bits_of b ≡ answers (λ key. eqb key address) keys)
equal_ok bits_of table address (Ok b) a = λ keys h.
    a keys h ∙ answers-same (within address 128) (λ key. eqb key address) keys (λ row key l q. ap (λ n. eqb n (address / 1)) (div-one key) ∙ ap (eqb key) (div-one address))
equal_ok bits_of table address (Err x) a = tt

-- a table of addresses alone
has_addresses : (keys : List (Option ℕ)) (table : Contents) → Holds table keys → HasAddresses table keys
has_addresses keys table h = record {
  wide = omega (arith, h.stands.wide);
  present = h.stands.present;
  column = h.stands.column;
  each = h.each;
}

pub alone_ok : {B E : Type 0} (bits_of : B → List Bool) (table : Contents) (test : ℕ → Bool) (result : Result B E) → IfOk result (λ b. (keys : List (Option ℕ)) → HasAddresses table keys → bits_of b ≡ answers test keys) → IfOk result (λ b. (keys : List (Option ℕ)) → Holds table keys → bits_of b ≡ answers test keys)
alone_ok bits_of table test (Ok b) a = λ keys h. a keys (has_addresses keys table h)
alone_ok bits_of table test (Err x) a = tt
