-- How a subnet index grows, and what it answers.
use Rattle.std.proofs.Common.{◌≡◌, ℕ, zero, suc, ◌+◌, ◌-◌, ◌*◌, ◌/◌, ◌%◌, ◌^◌, ◌<◌, ◌≤◌, Bool, true, false, eqb, ltb, leb, ◌&&◌, ◌||◌, List, [], ◌∷◌, get_or, take, drop, Option, None, Some, Result, Ok, Err, IfOk, refl, ap, sym, ◌∙◌, subst, inl, inr, arith}
use Rattle.std.proofs.Math.Nat.{div-one, mod-eq_of_lt, div-eq_of_lt}
use Rattle.std.proofs.lemmas.Nat.{shr-shr}
use Rattle.std.proofs.lemmas.Bool.Decides.{nat_tests}
use Rattle.std.proofs.lemmas.Bool.{cases_eq, cases_lt}
use Rattle.bits_law.specs.Bitwise.{bitwise}
use Rattle.bits_law.specs.Keys.{answers, EachKey}
use Rattle.bits_law.specs.Numbers.{number_at, has_bit, holds, IsAnswer}
use Rattle.bits_law.specs.Contents.{Contents}
use Rattle.bits_law.specs.declared.slices.Order.{Order}
use Rattle.bits_law.specs.declared.slices.Order.TheVariants.{Eq}
use Rattle.bits_law.proofs.AnswerLemmas.{asked_slices, answers-same, answers-or}
use Rattle.bits_law.proofs.WordBits.{up_low, up_high}
use Rattle.address_index.specs.Addresses.{address_bit, IsAddress, within, HasAddresses}
use Rattle.address_index.specs.Subnets.{Subnet, IsSubnet, net_bit, net_covers, HoldsNets}
use Rattle.address_index.proofs.AddressLemmas.{same_parts, in_address, high_part, low_part}

-- a column of the 136
pub in_net : (j : ℕ) (b : Bool) → j < 136 → (ltb j 136 && b) ≡ b
in_net j b l = let less : ltb j 136 ≡ true = grind (arith, nat_tests) in ap (λ x. x && b) less

-- the first 128 columns are the base's, and the others the length's
net_base : (j : ℕ) (net : Subnet) → j < 128 → net_bit j net ≡ address_bit j net.base
net_base j net l = let less : ltb j 128 ≡ true = grind (arith, nat_tests) in rw less refl

net_size : (j : ℕ) (net : Subnet) → j < 8 → net_bit (128 + j) net ≡ has_bit net.bits (7 - j)
net_size j net l =
    let more : ltb (128 + j) 128 ≡ false = grind (arith, nat_tests) in
    let place : 135 - (128 + j) ≡ 7 - j = omega arith in
    rw more (ap (has_bit net.bits) place)

-- the bits of a subnet in three words
base_column : (j : ℕ) (net : Subnet) → j < 128 → (ltb j 128 && address_bit j net.base) ≡ (ltb j 136 && net_bit j net)
base_column j net l = in_address j (address_bit j net.base) l ∙ sym (net_base j net l) ∙ sym (in_net j (net_bit j net) (omega arith))

pub base_high : (net : Subnet) (part j : ℕ) → part ≡ 0 → j < 64 → has_bit (net.base / 2 ^ 64) (63 - j) ≡ (ltb (64 * part + j) 136 && net_bit (64 * part + j) net)
base_high net part j e l = high_part net.base part j e l ∙ base_column (64 * part + j) net (omega arith)

pub base_low : (net : Subnet) (part j : ℕ) → part ≡ 1 → j < 64 → has_bit (net.base % 2 ^ 64) (63 - j) ≡ (ltb (64 * part + j) 136 && net_bit (64 * part + j) net)
base_low net part j e l = low_part net.base part j e l ∙ base_column (64 * part + j) net (omega arith)

pub size_part : (net : Subnet) (part j : ℕ) → part ≡ 2 → j < 64 → has_bit (net.bits * 2 ^ 56 % 2 ^ 64) (63 - j) ≡ (ltb (64 * part + j) 136 && net_bit (64 * part + j) net)
size_part net part j e l =
    let at : 128 + j ≡ 64 * part + j = omega arith in
    elim (cases_lt j 8) [
      | inl less ↦
          let place : 63 - j - 56 ≡ 7 - j = omega arith in
          up_high net.bits 56 (63 - j) (omega arith) (omega arith)
          ∙ ap (has_bit net.bits) place
          ∙ sym (net_size j net less)
          ∙ sym (in_net (128 + j) (net_bit (128 + j) net) (omega arith))
          ∙ ap (λ i. ltb i 136 && net_bit i net) at
      | inr more ↦
          let is_more : ltb (128 + j) 136 ≡ false = grind (arith, nat_tests) in
          up_low net.bits 56 (63 - j) (omega arith) (omega arith)
          ∙ ap (λ b. b && net_bit (128 + j) net) (sym is_more)
          ∙ ap (λ i. ltb i 136 && net_bit i net) at
    ]

-- the bases alone
abbrev pub bases : List (Option Subnet) → List (Option ℕ)
bases [] = []
bases (None ∷ keys) = None ∷ bases keys
bases (Some net ∷ keys) = Some net.base ∷ bases keys

answers-bases : (test : ℕ → Bool) (keys : List (Option Subnet)) → answers test (bases keys) ≡ answers (λ net. test net.base) keys
answers-bases test [] = refl
answers-bases test (None ∷ keys) = ap (λ bits. false ∷ bits) (answers-bases test keys)
answers-bases test (Some net ∷ keys) = ap (λ bits. test net.base ∷ bits) (answers-bases test keys)

EachKey-bases : (keys : List (Option Subnet)) → EachKey IsSubnet keys → EachKey IsAddress (bases keys)
EachKey-bases [] h row key e = cc
EachKey-bases (None ∷ keys) h zero key e = cc
EachKey-bases (None ∷ keys) h (suc row) key e = EachKey-bases keys (λ i q d. h (suc i) q d) row key e
EachKey-bases (Some net ∷ keys) h zero key e =
    let same : net.base ≡ key = cc in
    subst (λ x. x < 2 ^ 128) same (h zero net refl).small
EachKey-bases (Some net ∷ keys) h (suc row) key e = EachKey-bases keys (λ i q d. h (suc i) q d) row key e

-- a column of the bases
base_columns : (keys : List (Option Subnet)) (table : Contents) (j : ℕ) → j < 128 → HoldsNets table keys → get_or table.columns j [] ≡ answers (λ net. address_bit j net.base) keys
base_columns keys table j u h =
    h.stands.column j (omega arith)
    ∙ answers-same (net_bit j) (λ net. address_bit j net.base) keys (λ row net l q. net_base j net u)

holds_bases : (keys : List (Option Subnet)) (table : Contents) → HoldsNets table keys → HasAddresses table (bases keys)
holds_bases keys table h = record {
  wide = omega (arith, h.stands.wide);
  present = h.stands.present ∙ sym (answers-bases (λ _. true) keys);
  column = λ j u. base_columns keys table j u h ∙ sym (answers-bases (address_bit j) keys);
  each = EachKey-bases keys h.each;
}

-- what is asked of the bases
asked_bases : (keys : List (Option Subnet)) (table : Contents) (test : ℕ → Bool) (answer : List Bool) → HoldsNets table keys → ((keys : List (Option ℕ)) → HasAddresses table keys → answer ≡ answers test keys) → answer ≡ answers (λ net. test net.base) keys
asked_bases keys table test answer h a = a (bases keys) (holds_bases keys table h) ∙ answers-bases test keys

-- what is asked of the lengths, among the rows that pass a test
asked_length : (keys : List (Option Subnet)) (table : Contents) (p : Subnet → Bool) (rel : Order) (bits : ℕ) (answer among : List Bool) → HoldsNets table keys → among ≡ answers p keys → IsAnswer answer among (λ row. holds rel (number_at (take 8 (drop 128 table.columns)) row) bits) → answer ≡ answers (λ net. p net && holds rel net.bits bits) keys
asked_length keys table p rel bits answer among h e a =
    asked_slices keys table.columns 128 0 8 (λ net. net.bits) p (λ number. holds rel number bits) answer among (omega (arith, h.stands.wide)) column e a
    ∙ answers-same (λ net. p net && holds rel (net.bits / 2 ^ 0 % 2 ^ 8) bits) (λ net. p net && holds rel net.bits bits) keys (λ row net l q. ap (λ n. p net && holds rel n bits) (whole row net q))
  where
    column : (j : ℕ) → j < 8 → get_or table.columns (128 + j) [] ≡ answers (λ net. eqb (net.bits / 2 ^ (0 + (8 - 1 - j)) % 2) 1) keys
    column j u =
        let place : 7 - j ≡ 0 + (8 - 1 - j) = omega arith in
        h.stands.column (128 + j) (omega arith)
        ∙ answers-same (net_bit (128 + j)) (λ net. eqb (net.bits / 2 ^ (0 + (8 - 1 - j)) % 2) 1) keys (λ row net l q. net_size j net u ∙ ap (has_bit net.bits) place)

    whole : (row : ℕ) (net : Subnet) → get_or keys row None ≡ Some net → net.bits / 2 ^ 0 % 2 ^ 8 ≡ net.bits
    whole row net q =
        let narrow : net.bits ≤ 128 = (h.each row net q).narrow in
        ap (λ n. n % 2 ^ 8) (div-one net.bits) ∙ mod-eq_of_lt (omega (arith, narrow))

pub length_ok : {B E : Type 0} (bits_of : B → List Bool) (table : Contents) (test : ℕ → Bool) (rel : Order) (bits : ℕ) (among : List Bool) (result : Result B E) → ((keys : List (Option ℕ)) → HasAddresses table keys → among ≡ answers test keys) → IfOk result (λ b. IsAnswer (bits_of b) among (λ row. holds rel (number_at (take 8 (drop 128 table.columns)) row) bits)) → IfOk result (λ b. (keys : List (Option Subnet)) → HoldsNets table keys → bits_of b ≡ answers (λ net. test net.base && holds rel net.bits bits) keys)
length_ok bits_of table test rel bits among (Ok b) h a = λ keys n. asked_length keys table (λ net. test net.base) rel bits (bits_of b) among n (asked_bases keys table test among n h) a
length_ok bits_of table test rel bits among (Err x) h a = tt

-- the rows that agree in one more bit
pub agree_more : (keys : List (Option Subnet)) (table : Contents) (base at : ℕ) (answer among : List Bool) → at < 128 → HoldsNets table keys → among ≡ answers (λ net. within base at net.base) keys → IsAnswer answer among (λ row. eqb (number_at (take 1 (drop at table.columns)) row) (base / 2 ^ (127 - at) % 2)) → answer ≡ answers (λ net. within base (at + 1) net.base) keys
agree_more keys table base at answer among l h e a =
    asked_slices keys table.columns at (127 - at) 1 (λ net. net.base) (λ net. within base at net.base) (λ number. eqb number (base / 2 ^ (127 - at) % 2)) answer among (omega (arith, h.stands.wide)) column e a
    ∙ answers-same (λ net. within base at net.base && eqb (net.base / 2 ^ (127 - at) % 2 ^ 1) (base / 2 ^ (127 - at) % 2)) (λ net. within base (at + 1) net.base) keys (λ row net u q. both net.base)
  where
    column : (j : ℕ) → j < 1 → get_or table.columns (at + j) [] ≡ answers (λ net. eqb (net.base / 2 ^ (127 - at + (1 - 1 - j)) % 2) 1) keys
    column j u =
        let place : 127 - (at + j) ≡ 127 - at + (1 - 1 - j) = omega arith in
        base_columns keys table (at + j) (omega arith) h
        ∙ ap (λ i. answers (λ net. eqb (net.base / 2 ^ i % 2) 1) keys) place

    higher : (n : ℕ) → n / 2 ^ (127 - at) / 2 ≡ n / 2 ^ (128 - at)
    higher n =
        let up : 127 - at + 1 ≡ 128 - at = omega arith in
        shr-shr n (127 - at) 1 ∙ ap (λ i. n / 2 ^ i) up

    both : (n : ℕ) → (eqb (n / 2 ^ (128 - at)) (base / 2 ^ (128 - at)) && eqb (n / 2 ^ (127 - at) % 2) (base / 2 ^ (127 - at) % 2)) ≡ eqb (n / 2 ^ (128 - (at + 1))) (base / 2 ^ (128 - (at + 1)))
    both n =
        let lower : 127 - at ≡ 128 - (at + 1) = omega arith in
        ap (λ x. eqb x (base / 2 ^ (128 - at)) && eqb (n / 2 ^ (127 - at) % 2) (base / 2 ^ (127 - at) % 2)) (sym (higher n))
        ∙ ap (λ x. eqb (n / 2 ^ (127 - at) / 2) x && eqb (n / 2 ^ (127 - at) % 2) (base / 2 ^ (127 - at) % 2)) (sym (higher base))
        ∙ same_parts (n / 2 ^ (127 - at)) (base / 2 ^ (127 - at)) 2
        ∙ ap (λ i. eqb (n / 2 ^ i) (base / 2 ^ i)) lower

-- every base has the first 0 bits
pub agree_none : (keys : List (Option Subnet)) (table : Contents) (base : ℕ) (answer : List Bool) → base < 2 ^ 128 → HoldsNets table keys → answer ≡ table.present → answer ≡ answers (λ net. within base 0 net.base) keys
agree_none keys table base answer u h e =
    e ∙ h.stands.present ∙ answers-same (λ _. true) (λ net. within base 0 net.base) keys (λ row net l q.
    let one = div-eq_of_lt {n = net.base} {m = 2 ^ 128} (h.each row net q).small in
    let two = div-eq_of_lt {n = base} {m = 2 ^ 128} u in
    rw (one, two) refl)

-- the subnets of no bits hold every subnet
pub covers_none : (keys : List (Option Subnet)) (table : Contents) (base : ℕ) (answer among : List Bool) → HoldsNets table keys → among ≡ answers (λ net. within base 0 net.base) keys → IsAnswer answer among (λ row. holds Eq (number_at (take 8 (drop 128 table.columns)) row) 0) → answer ≡ answers (net_covers base 0) keys
covers_none keys table base answer among h e a =
    asked_length keys table (λ net. within base 0 net.base) Eq 0 answer among h e a
    ∙ answers-same (λ net. within base 0 net.base && eqb net.bits 0) (net_covers base 0) keys (λ row net l q. same net.base net.bits)
  where
    same : (x bits : ℕ) → (within base 0 x && eqb bits 0) ≡ (leb bits 0 && within base bits x)
    same x zero = grind (arith, nat_tests)
    same x (suc bits) = grind (arith, nat_tests)

-- and those of one more bit
pub covers_more : (keys : List (Option Subnet)) (table : Contents) (base at : ℕ) (before here among answer : List Bool) → HoldsNets table keys → among ≡ answers (λ net. within base (at + 1) net.base) keys → IsAnswer here among (λ row. holds Eq (number_at (take 8 (drop 128 table.columns)) row) (at + 1)) → before ≡ answers (net_covers base at) keys → answer ≡ bitwise ◌||◌ before here → answer ≡ answers (net_covers base (at + 1)) keys
covers_more keys table base at before here among answer h e a b o =
    o ∙ ap (λ xs. bitwise ◌||◌ xs here) b
    ∙ ap (λ xs. bitwise ◌||◌ (answers (net_covers base at) keys) xs) (asked_length keys table (λ net. within base (at + 1) net.base) Eq (at + 1) here among h e a)
    ∙ answers-or (net_covers base at) (λ net. within base (at + 1) net.base && eqb net.bits (at + 1)) keys
    ∙ answers-same (λ net. net_covers base at net || (within base (at + 1) net.base && eqb net.bits (at + 1))) (net_covers base (at + 1)) keys (λ row net l q. same net.base net.bits)
  where
    same : (x bits : ℕ) → ((leb bits at && within base bits x) || (within base (at + 1) x && eqb bits (at + 1))) ≡ (leb bits (at + 1) && within base bits x)
    same x bits = elim (cases_eq bits (at + 1)) [
      | inl is ↦ rw is (grind (arith, nat_tests))
      | inr other ↦ grind (arith, nat_tests)
    ]
