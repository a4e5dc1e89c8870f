-- What a string index answers.
use Rattle.std.proofs.Common.{◌≡◌, ◌≢◌, ℕ, zero, suc, ◌+◌, ◌-◌, ◌*◌, ◌/◌, ◌%◌, ◌^◌, ◌<◌, ◌≤◌, Bool, true, false, eqb, leb, ◌&&◌, List, [], length, get_or, take, drop, Option, Result, Ok, Err, IfOk, refl, ap, sym, ◌∙◌, subst, inl, inr, arith}
use Rattle.std.proofs.Math.Nat.{div-one, mod-eq_of_lt, pow-le-pow_right}
use Rattle.std.proofs.lemmas.Bool.{cases_lt, cases_eq}
use Rattle.std.proofs.lemmas.Bool.Decides.{nat_tests}
use Rattle.std.proofs.lemmas.List.{get_or-take, get_or_past, length-take}
use Rattle.std.proofs.lemmas.Nat.{pow-add}
use Rattle.std.proofs.lemmas.Nat.Bits.{bit_at_cat_low, bit_at_cat_high}
use Rattle.bits_law.specs.Keys.{answers}
use Rattle.bits_law.specs.Numbers.{number_at, holds, has_bit, IsAnswer}
use Rattle.bits_law.specs.Contents.{Contents}
use Rattle.bits_law.specs.declared.slices.Order.{Order}
use Rattle.bits_law.specs.declared.slices.Order.TheVariants.{Ge}
use Rattle.bits_law.proofs.AnswerLemmas.{asked_slices, answers-same, answers-and_not}
use Rattle.std.proofs.Common.{cond, not}
use Rattle.bits_law.specs.Bitwise.{bitwise, and_not}
use Rattle.string_index.specs.Texts.{short_length, text_unit, units, text_bit, agree, IsText, same_start, Holds}

-- the eight columns of a unit
unit_bits : (keys : List (Option (List ℕ))) (table : Contents) (unit j : ℕ) → unit < 9 → j < 8 → Holds table keys → get_or table.columns (8 * unit + j) [] ≡ answers (λ key. eqb (text_unit unit key / 2 ^ (0 + (8 - 1 - j)) % 2) 1) keys
unit_bits keys table unit j w u h =
    let which : (8 * unit + j) / 8 ≡ unit = omega arith in
    let place : 7 - (8 * unit + j) % 8 ≡ 0 + (8 - 1 - j) = omega arith in
    h.stands.column (8 * unit + j) (omega arith)
    ∙ answers-same (text_bit (8 * unit + j)) (λ key. eqb (text_unit unit key / 2 ^ (0 + (8 - 1 - j)) % 2) 1) keys (λ row key l e.
    ap (λ n. eqb (text_unit n key / 2 ^ (7 - (8 * unit + j) % 8) % 2) 1) which ∙ ap (λ i. eqb (text_unit unit key / 2 ^ i % 2) 1) place)

-- the eight columns of the length, and those of a byte
pub length_bits : (keys : List (Option (List ℕ))) (table : Contents) (j : ℕ) → j < 8 → Holds table keys → get_or table.columns (0 + j) [] ≡ answers (λ key. eqb (short_length key / 2 ^ (0 + (8 - 1 - j)) % 2) 1) keys
length_bits keys table j u h =
    let at : 0 + j ≡ 8 * 0 + j = omega arith in
    ap (λ i. get_or table.columns i []) at ∙ unit_bits keys table 0 j (omega arith) u h

pub byte_bits : (keys : List (Option (List ℕ))) (table : Contents) (at j : ℕ) → at < 8 → j < 8 → Holds table keys → get_or table.columns (8 + 8 * at + j) [] ≡ answers (λ key. eqb (get_or key at 0 / 2 ^ (0 + (8 - 1 - j)) % 2) 1) keys
byte_bits keys table at j w u h =
    let place : 8 + 8 * at + j ≡ 8 * suc at + j = omega arith in
    ap (λ i. get_or table.columns i []) place ∙ unit_bits keys table (suc at) j (omega arith) u h
    ∙ answers-same (λ key. eqb (get_or (take 8 key) at 0 / 2 ^ (0 + (8 - 1 - j)) % 2) 1) (λ key. eqb (get_or key at 0 / 2 ^ (0 + (8 - 1 - j)) % 2) 1) keys (λ row key l e.
    ap (λ n. eqb (n / 2 ^ (0 + (8 - 1 - j)) % 2) 1) (get_or-take 8 key at 0 w))

-- a byte among the first eight, and past them
pub near_byte : (text : List ℕ) (unit at : ℕ) → unit ≡ at + 1 → at < 8 → get_or text at 0 ≡ text_unit unit text
near_byte text unit at is l = sym (get_or-take 8 text at 0 l) ∙ ap (λ n. text_unit n text) (one_more at ∙ sym is)
  where
    one_more : (n : ℕ) → suc n ≡ n + 1
    one_more n = omega arith

pub far_byte : (text : List ℕ) (unit : ℕ) → 8 < unit → 0 ≡ text_unit unit text
far_byte text unit l =
    let at : suc (unit - 1) ≡ unit = omega (arith, l) in
    sym (get_or_past (take 8 text) (unit - 1) 0 (omega (arith, l, length-take 8 text))) ∙ ap (λ n. text_unit n text) at

-- eight units in a word, the first one highest
pub unit_more_small : (word unit k : ℕ) → word < 2 ^ (8 * k) → unit < 256 → k < 8 → (word * 256 + unit < 2 ^ (8 * (k + 1))) × (word * 256 + unit < 2 ^ 64)
unit_more_small word unit k l u v =
    let more : 8 * k + 8 ≡ 8 * (k + 1) = omega arith in
    let power : 2 ^ (8 * (k + 1)) ≡ 2 ^ (8 * k) * 256 = ap (λ i. 2 ^ i) (sym more) ∙ pow-add 2 (8 * k) 8 in
    let top : 2 ^ (8 * (k + 1)) ≤ 2 ^ 64 = pow_le (8 * (k + 1)) 64 (omega arith) in
    (omega (arith, power), omega (arith, power, top))
  where
    pow_le : (i j : ℕ) → i ≤ j → 2 ^ i ≤ 2 ^ j
    pow_le i j h = pow-le-pow_right (omega arith) h

pub unit_more : (text : List ℕ) (part word unit k j : ℕ) → unit < 256 → unit ≡ text_unit (8 * part + k) text → ((j : ℕ) → j < 8 * k → has_bit word (8 * k - 1 - j) ≡ has_bit (text_unit (8 * part + j / 8) text) (7 - j % 8)) → j < 8 * (k + 1) → has_bit (word * 256 + unit) (8 * (k + 1) - 1 - j) ≡ has_bit (text_unit (8 * part + j / 8) text) (7 - j % 8)
unit_more text part word unit k j u is before l = elim (cases_lt j (8 * k)) [
  | inl less ↦
      let up : 8 * (k + 1) - 1 - j - 8 ≡ 8 * k - 1 - j = omega arith in
      ap (λ x. eqb x 1) (bit_at_cat_high word 8 unit (8 * (k + 1) - 1 - j) u (omega arith))
      ∙ ap (has_bit word) up ∙ before j less
  | inr more ↦
      let low : 8 * (k + 1) - 1 - j ≡ 7 - j % 8 = omega arith in
      let which : 8 * part + k ≡ 8 * part + j / 8 = omega arith in
      ap (λ x. eqb x 1) (bit_at_cat_low word 8 unit (8 * (k + 1) - 1 - j) (omega arith))
      ∙ ap (has_bit unit) low ∙ ap (λ n. has_bit n (7 - j % 8)) (is ∙ ap (λ i. text_unit i text) which)
]

pub unit_all : (text : List ℕ) (part word k j : ℕ) → k ≡ 8 → j < 64 → ((j : ℕ) → j < 8 * k → has_bit word (8 * k - 1 - j) ≡ has_bit (text_unit (8 * part + j / 8) text) (7 - j % 8)) → has_bit word (63 - j) ≡ text_bit (64 * part + j) text
unit_all text part word k j e l h =
    let at : 63 - j ≡ 8 * k - 1 - j = omega arith in
    let which : 8 * part + j / 8 ≡ (64 * part + j) / 8 = omega arith in
    let place : 7 - j % 8 ≡ 7 - (64 * part + j) % 8 = omega arith in
    ap (has_bit word) at ∙ h j (omega arith) ∙ ap (λ i. has_bit (text_unit i text) (7 - j % 8)) which ∙ ap (has_bit (text_unit ((64 * part + j) / 8) text)) place

-- a byte is the number of its eight bits
byte_is : (n : ℕ) → n < 256 → n / 2 ^ 0 % 2 ^ 8 ≡ n
byte_is n l = ap (λ m. m % 256) (div-one n) ∙ mod-eq_of_lt l

pub asked_length : (keys : List (Option (List ℕ))) (table : Contents) (rel : Order) (key : ℕ) (answer : List Bool) → length table.columns ≡ 72 → Holds table keys → IsAnswer answer table.present (λ row. holds rel (number_at (take 8 (drop 0 table.columns)) row) key) → answer ≡ answers (λ text. holds rel (short_length text) key) keys
asked_length keys table rel key answer w h a =
    asked_slices keys table.columns 0 0 8 short_length (λ _. true) (λ n. holds rel n key) answer table.present (omega (arith, w)) (λ j u. length_bits keys table j u h) h.stands.present a
    ∙ answers-same (λ text. holds rel (short_length text / 2 ^ 0 % 2 ^ 8) key) (λ text. holds rel (short_length text) key) keys (λ row text l e. ap (λ n. holds rel n key) (byte_is (short_length text) (omega arith)))

pub asked_byte : (keys : List (Option (List ℕ))) (table : Contents) (at key : ℕ) (p : List ℕ → Bool) (answer among : List Bool) → at < 8 → length table.columns ≡ 72 → Holds table keys → among ≡ answers p keys → IsAnswer answer among (λ row. eqb (number_at (take 8 (drop (8 + 8 * at) table.columns)) row) key) → answer ≡ answers (λ text. p text && eqb (get_or text at 0) key) keys
asked_byte keys table at key p answer among u w h e a =
    asked_slices keys table.columns (8 + 8 * at) 0 8 (λ text. get_or text at 0) p (λ n. eqb n key) answer among (omega (arith, w)) (λ j v. byte_bits keys table at j u v h) e a
    ∙ answers-same (λ text. p text && eqb (get_or text at 0 / 2 ^ 0 % 2 ^ 8) key) (λ text. p text && eqb (get_or text at 0) key) keys (λ row text l q. ap (λ n. p text && eqb n key) (byte_is (get_or text at 0) (h.each row text q at)))

pub long_ok : {B E : Type 0} (bits : B → List Bool) (table : Contents) (key : ℕ) (result : Result B E) → length table.columns ≡ 72 → IfOk result (λ b. IsAnswer (bits b) table.present (λ row. leb key (number_at (take 8 (drop 0 table.columns)) row))) → IfOk result (λ b. (keys : List (Option (List ℕ))) → Holds table keys → bits b ≡ answers (λ text. leb key (short_length text)) keys)
long_ok bits table key (Ok b) w a = λ keys h. asked_length keys table Ge key (bits b) w h a
long_ok bits table key (Err x) w a = tt

and_true : (b : Bool) → b ≡ (b && true)
and_true true = refl
and_true false = refl

and_assoc : (x y z : Bool) → ((x && y) && z) ≡ (x && (y && z))
and_assoc true y z = refl
and_assoc false y z = refl

-- the first units as one number
unit_small : (text : List ℕ) (k : ℕ) → k < 8 → IsText text → text_unit k text < 256
unit_small text zero l is = omega arith
unit_small text (suc k) l is = omega (arith, get_or-take 8 text k 0 (omega arith), is k)

units_small : (text : List ℕ) (k : ℕ) → k ≤ 8 → IsText text → units k text < 2 ^ (8 * k)
units_small text zero l is = omega arith
units_small text (suc k) l is =
    let more : k + 1 ≡ suc k = omega arith in
    subst (λ n. units (suc k) text < 2 ^ (8 * n)) more (unit_more_small (units k text) (text_unit k text) k (units_small text k (omega arith) is) (unit_small text k (omega arith) is) (omega arith)).0

units_bits : (text : List ℕ) (k : ℕ) → k ≤ 8 → IsText text → (j : ℕ) → j < 8 * k → has_bit (units k text) (8 * k - 1 - j) ≡ has_bit (text_unit (8 * 0 + j / 8) text) (7 - j % 8)
units_bits text zero l is j u = absurd (omega arith)
units_bits text (suc k) l is j u =
    let more : k + 1 ≡ suc k = omega arith in
    ap (λ n. has_bit (units (suc k) text) (8 * n - 1 - j)) (sym more)
    ∙ unit_more text 0 (units k text) (text_unit k text) k j (unit_small text k (omega arith) is) (ap (λ n. text_unit n text) (let at : k ≡ 8 * 0 + k = omega arith in at)) (units_bits text k (omega arith) is) (omega (arith, u))

units_bit : (text : List ℕ) (j : ℕ) → j < 64 → IsText text → has_bit (units 8 text) (63 - j) ≡ text_bit j text
units_bit text j l is = unit_all text 0 (units 8 text) 8 j refl l (units_bits text 8 (omega arith) is) ∙ ap (λ n. text_bit n text) (let at : 64 * 0 + j ≡ j = omega arith in at)

pair_equal : (x y u v : ℕ) → u < 256 → v < 256 → eqb (x * 256 + u) (y * 256 + v) ≡ (eqb x y && eqb u v)
pair_equal x y u v l m = elim (cases_eq x y) [
  | inl same ↦ elim (cases_eq u v) [
    | inl too ↦ grind (arith, nat_tests)
    | inr other ↦ grind (arith, nat_tests)
  ]
  | inr other ↦
      let differ : x * 256 + u ≢ y * 256 + v = λ e. other (omega arith) in
      grind (arith, nat_tests)
]

units_equal : (a b : List ℕ) (k : ℕ) → k < 8 → IsText a → IsText b → eqb (units (suc k) a) (units (suc k) b) ≡ (eqb (short_length a) (short_length b) && agree k a b)
units_equal a b zero l p q = pair_equal 0 0 (short_length a) (short_length b) (omega arith) (omega arith) ∙ and_true (eqb (short_length a) (short_length b))
units_equal a b (suc k) l p q =
    pair_equal (units (suc k) a) (units (suc k) b) (text_unit (suc k) a) (text_unit (suc k) b) (unit_small a (suc k) l p) (unit_small b (suc k) l q)
    ∙ ap (λ x. x && eqb (text_unit (suc k) a) (text_unit (suc k) b)) (units_equal a b k (omega arith) p q)
    ∙ ap (λ n. (eqb (short_length a) (short_length b) && agree k a b) && eqb n (text_unit (suc k) b)) (get_or-take 8 a k 0 (omega arith))
    ∙ ap (λ n. (eqb (short_length a) (short_length b) && agree k a b) && eqb (get_or a k 0) n) (get_or-take 8 b k 0 (omega arith))
    ∙ and_assoc (eqb (short_length a) (short_length b)) (agree k a b) (eqb (get_or a k 0) (get_or b k 0))

-- the rows whose length and first seven bytes agree
pub start_seven : (keys : List (Option (List ℕ))) (table : Contents) (text : List ℕ) (key : ℕ) (answer : List Bool) → length table.columns ≡ 72 → IsText text → key ≡ units 8 text → Holds table keys → IsAnswer answer table.present (λ row. eqb (number_at (take 64 (drop 0 table.columns)) row) key) → answer ≡ answers (λ t. eqb (short_length t) (short_length text) && agree 7 t text) keys
start_seven keys table text key answer w is e h a =
    asked_slices keys table.columns 0 0 64 (units 8) (λ _. true) (λ n. eqb n key) answer table.present (omega (arith, w)) column h.stands.present a
    ∙ answers-same (λ t. eqb (units 8 t / 2 ^ 0 % 2 ^ 64) key) (λ t. eqb (short_length t) (short_length text) && agree 7 t text) keys (λ row t l q.
    ap (λ n. eqb n key) (word_is (units 8 t) (units_small t 8 (omega arith) (h.each row t q))) ∙ ap (eqb (units 8 t)) e ∙ units_equal t text 7 (omega arith) (h.each row t q) is)
  where
    word_is : (n : ℕ) → n < 2 ^ 64 → n / 2 ^ 0 % 2 ^ 64 ≡ n
    word_is n l = ap (λ m. m % 2 ^ 64) (div-one n) ∙ mod-eq_of_lt l

    column : (j : ℕ) → j < 64 → get_or table.columns (0 + j) [] ≡ answers (λ t. eqb (units 8 t / 2 ^ (0 + (64 - 1 - j)) % 2) 1) keys
    column j l =
        let at : 0 + j ≡ j = omega arith in
        let place : 63 - j ≡ 0 + (64 - 1 - j) = omega arith in
        ap (λ i. get_or table.columns i []) at ∙ h.stands.column j (omega arith)
        ∙ answers-same (text_bit j) (λ t. eqb (units 8 t / 2 ^ (0 + (64 - 1 - j)) % 2) 1) keys (λ row t u q.
        sym (units_bit t j l (h.each row t q)) ∙ ap (has_bit (units 8 t)) place)

-- and once one more byte is compared
pub start_more : (keys : List (Option (List ℕ))) (table : Contents) (text : List ℕ) (at key : ℕ) (answer among : List Bool) → at < 8 → length table.columns ≡ 72 → key ≡ get_or text at 0 → Holds table keys → among ≡ answers (λ t. eqb (short_length t) (short_length text) && agree at t text) keys → IsAnswer answer among (λ row. eqb (number_at (take 8 (drop (8 + 8 * at) table.columns)) row) key) → answer ≡ answers (λ t. eqb (short_length t) (short_length text) && agree (at + 1) t text) keys
start_more keys table text at key answer among u w e h before a =
    asked_byte keys table at key (λ t. eqb (short_length t) (short_length text) && agree at t text) answer among u w h before a
    ∙ answers-same (λ t. (eqb (short_length t) (short_length text) && agree at t text) && eqb (get_or t at 0) key) (λ t. eqb (short_length t) (short_length text) && agree (at + 1) t text) keys (λ row t l q.
    let next : suc at ≡ at + 1 = omega arith in
    ap (λ k. (eqb (short_length t) (short_length text) && agree at t text) && eqb (get_or t at 0) k) e
    ∙ and_assoc (eqb (short_length t) (short_length text)) (agree at t text) (eqb (get_or t at 0) (get_or text at 0))
    ∙ ap (λ n. eqb (short_length t) (short_length text) && agree n t text) next)

-- all bytes are compared
pub start_all : (keys : List (Option (List ℕ))) (text : List ℕ) (at : ℕ) (answer : List Bool) → at ≡ 8 → answer ≡ answers (λ t. eqb (short_length t) (short_length text) && agree at t text) keys → answer ≡ answers (λ t. same_start t text) keys
unfolding same_start
start_all keys text at answer e a = a ∙ ap (λ n. answers (λ t. eqb (short_length t) (short_length text) && agree n t text) keys) e

-- the answer where a condition holds, and none where it doesn't
pub when_answers : (p : List ℕ → Bool) (keys : List (Option (List ℕ))) (holds : Bool) → cond holds (answers p keys) (bitwise and_not (answers p keys) (answers p keys)) ≡ answers (λ t. p t && holds) keys
when_answers p keys true = answers-same p (λ t. p t && true) keys (λ row t l q. and_true (p t))
when_answers p keys false = answers-and_not p p keys ∙ answers-same (λ t. p t && not (p t)) (λ t. p t && false) keys (λ row t l q. never (p t))
  where
    never : (b : Bool) → (b && not b) ≡ (b && false)
    never true = refl
    never false = refl
