-- Digits in mixed bases, and what is asked of them.
use Rattle.std.proofs.Common.{◌≡◌, ℕ, zero, suc, ◌+◌, ◌-◌, ◌*◌, ◌/◌, ◌%◌, ◌^◌, ◌<◌, ◌≤◌, Bool, true, false, cond, eqb, ltb, leb, not, ◌&&◌, ◌||◌, List, [], ◌∷◌, length, get_or, set, min, max, take, drop, Option, Result, Ok, Err, IfOk, refl, ap, sym, ◌∙◌, subst, inl, inr, arith}
use Rattle.std.proofs.Math.Nat.{div-one, mod-one, mod-eq_of_lt, mod-lt, div-div-eq-div-mul, mul_assoc, mul_comm, mul-le-mul_right}
use Rattle.std.proofs.Math.Arith.{mod-mul}
use Rattle.std.proofs.lemmas.Bool.Decides.{nat_tests}
use Rattle.std.proofs.lemmas.Bool.{cases_eq, cases_lt}
use Rattle.std.proofs.lemmas.List.{get_or-take, get_or-drop, get_or-set_same, get_or-set_other, take_all}
use Rattle.bits_law.specs.Bitwise.{bitwise, and_not}
use Rattle.bits_law.specs.Keys.{answers}
use Rattle.std.specs.Prelude.{bit_or}
use Rattle.std.proofs.lemmas.Nat.Bits.{bit_at_ones, bit_at_ones_above, ones_shr}
use Rattle.bits_law.specs.Numbers.{has_bit, holds}
use Rattle.bits_law.specs.Contents.{Contents}
use Rattle.bits_law.specs.declared.slices.Order.{Order}
use Rattle.bits_law.proofs.AnswerLemmas.{answers-same, answers-and, answers-or, answers-and_not}
use Rattle.bits_law.proofs.BitwiseLemmas.{length-bitwise}
use Rattle.bits_law.proofs.WordBits.{bit-none, bit-all, bit-or}
use Rattle.digit_index.specs.declared.coding.Coding.{Coding}
use Rattle.digit_index.specs.declared.coding.Coding.TheVariants.{Equality, Range}
use Rattle.digit_index.specs.Digits.{AreBases, product, columns_of, is_coded, width, digit_bit, Holds, HoldsDigit}

-- one base more
pub product-more : (bases : List ℕ) (j : ℕ) → j < length bases → product (take (suc j) bases) ≡ get_or bases j 0 * product (take j bases)
product-more [] j l = absurd (omega arith)
product-more (b ∷ bs) zero l = refl
product-more (b ∷ bs) (suc j) l =
    ap (λ n. b * n) (product-more bs j (omega arith))
    ∙ sym (mul_assoc b (get_or bs j 0) (product (take j bs)))
    ∙ ap (λ n. n * product (take j bs)) (mul_comm b (get_or bs j 0))
    ∙ mul_assoc (get_or bs j 0) b (product (take j bs))

pub width-more : (coding : Coding) (bases : List ℕ) (j : ℕ) → j < length bases → width coding (take (suc j) bases) ≡ width coding (take j bases) + columns_of coding (get_or bases j 0)
width-more coding [] j l = absurd (omega arith)
width-more coding (b ∷ bs) zero l = omega arith
width-more coding (b ∷ bs) (suc j) l = let h = width-more coding bs j (omega arith) in omega (arith, h)

pub width-within : (coding : Coding) (bases : List ℕ) (j : ℕ) → j < length bases → width coding (take j bases) + columns_of coding (get_or bases j 0) ≤ width coding bases
width-within coding [] j l = absurd (omega arith)
width-within coding (b ∷ bs) zero l = omega arith
width-within coding (b ∷ bs) (suc j) l = let h = width-within coding bs j (omega arith) in omega (arith, h)

pub columns-most : (coding : Coding) (base : ℕ) → columns_of coding base ≤ base
columns-most Equality base = omega arith
columns-most Range base = omega arith

pub product-positive : (bases : List ℕ) (j : ℕ) → AreBases bases → j ≤ length bases → 0 < product (take j bases)
product-positive bases zero a l = omega arith
product-positive bases (suc j) a l =
    let more = product-more bases j (omega arith) in
    let least : 1 ≤ get_or bases j 0 = omega (arith, a.least j (omega arith)) in
    let before : 0 < product (take j bases) = product-positive bases j a (omega arith) in
    let big : 1 * product (take j bases) ≤ get_or bases j 0 * product (take j bases) = mul-le-mul_right (product (take j bases)) least in
    omega (arith, more, before, big)

-- the columns after those of the first digits are the next digit's
pub bit_of : (coding : Coding) (bases : List ℕ) (j value key : ℕ) → j < length bases → value < columns_of coding (get_or bases j 0) → digit_bit coding bases (width coding (take j bases) + value) key ≡ is_coded coding value (key / product (take j bases) % get_or bases j 0)
bit_of coding [] j value key l u = absurd (omega arith)
bit_of coding (b ∷ bs) zero value key l u =
    let at : 0 + value ≡ value = omega arith in
    ap (λ i. digit_bit coding (b ∷ bs) i key) at
    ∙ here value (grind (arith, nat_tests))
    ∙ ap (λ n. is_coded coding value (n % b)) (sym (div-one key))
  where
    here : (i : ℕ) → ltb i (columns_of coding b) ≡ true → digit_bit coding (b ∷ bs) i key ≡ is_coded coding i (key % b)
    here i first = rw first refl
bit_of coding (b ∷ bs) (suc j) value key l u =
    let past : columns_of coding b + width coding (take j bs) + value - columns_of coding b ≡ width coding (take j bs) + value = omega arith in
    there (columns_of coding b + width coding (take j bs) + value) (grind (arith, nat_tests))
    ∙ ap (λ i. digit_bit coding bs i (key / b)) past
    ∙ bit_of coding bs j value (key / b) (omega arith) u
    ∙ ap (λ n. is_coded coding value (n % get_or bs j 0)) (div-div-eq-div-mul key b (product (take j bs)))
  where
    there : (i : ℕ) → ltb i (columns_of coding b) ≡ false → digit_bit coding (b ∷ bs) i key ≡ digit_bit coding bs (i - columns_of coding b) (key / b)
    there i later = rw later refl

pub digit_is : (coding : Coding) (bases : List ℕ) (table : Contents) (keys : List (Option ℕ)) (j : ℕ) → AreBases bases → j < length bases → Holds coding bases table keys → HoldsDigit coding (get_or bases j 0) (λ key. key / product (take j bases) % get_or bases j 0) table.present (take (columns_of coding (get_or bases j 0)) (drop (width coding (take j bases)) table.columns)) keys
digit_is coding bases table keys j a l h = record {
  rows = h.stands.present;
  column = λ value u.
      let in_width = width-within coding bases j l in
      get_or-take (columns_of coding (get_or bases j 0)) (drop (width coding (take j bases)) table.columns) value [] u
      ∙ get_or-drop (width coding (take j bases)) table.columns value []
      ∙ h.stands.column (width coding (take j bases) + value) (omega (arith, in_width, u))
      ∙ answers-same (digit_bit coding bases (width coding (take j bases) + value)) (λ key. is_coded coding value (key / product (take j bases) % get_or bases j 0)) keys (λ row key i q. bit_of coding bases j value key l u);
  small = λ key. mod-lt (key / product (take j bases)) (omega (arith, a.least j l));
}

-- numbers of one digit more
lt_more : (w d e r s : ℕ) → r < w → s < w → (ltb d e || (ltb d (e + 1) && ltb r s)) ≡ ltb (d * w + r) (e * w + s)
lt_more w d e r s l m = elim (cases_lt d e) [
  | inl less ↦
      let big : (d + 1) * w ≤ e * w = mul-le-mul_right w (omega arith) in
      let one : (d + 1) * w ≡ d * w + w = grind arith in
      grind (arith, nat_tests)
  | inr not_less ↦ elim (cases_lt e d) [
    | inl more ↦
        let big : (e + 1) * w ≤ d * w = mul-le-mul_right w (omega arith) in
        let one : (e + 1) * w ≡ e * w + w = grind arith in
        grind (arith, nat_tests)
    | inr not_more ↦
        let same : d ≡ e = omega arith in
        rw same (grind (arith, nat_tests))
  ]
]

le_more : (w d e r s : ℕ) → r < w → s < w → (ltb d e || (ltb d (e + 1) && leb r s)) ≡ leb (d * w + r) (e * w + s)
le_more w d e r s l m = elim (cases_lt d e) [
  | inl less ↦
      let big : (d + 1) * w ≤ e * w = mul-le-mul_right w (omega arith) in
      let one : (d + 1) * w ≡ d * w + w = grind arith in
      grind (arith, nat_tests)
  | inr not_less ↦ elim (cases_lt e d) [
    | inl more ↦
        let big : (e + 1) * w ≤ d * w = mul-le-mul_right w (omega arith) in
        let one : (e + 1) * w ≡ e * w + w = grind arith in
        grind (arith, nat_tests)
    | inr not_more ↦
        let same : d ≡ e = omega arith in
        rw same (grind (arith, nat_tests))
  ]
]

eq_more : (w d e r s : ℕ) → r < w → s < w → (eqb r s && eqb d e) ≡ eqb (d * w + r) (e * w + s)
eq_more w d e r s l m = elim (cases_lt d e) [
  | inl less ↦
      let big : (d + 1) * w ≤ e * w = mul-le-mul_right w (omega arith) in
      let one : (d + 1) * w ≡ d * w + w = grind arith in
      grind (arith, nat_tests)
  | inr not_less ↦ elim (cases_lt e d) [
    | inl more ↦
        let big : (e + 1) * w ≤ d * w = mul-le-mul_right w (omega arith) in
        let one : (e + 1) * w ≡ e * w + w = grind arith in
        grind (arith, nat_tests)
    | inr not_more ↦
        let same : d ≡ e = omega arith in
        rw same (grind (arith, nat_tests))
  ]
]

-- whether a number is below another, or at most it
abbrev pub is_before : Bool → ℕ → ℕ → Bool
is_before or_equal n key = cond or_equal (leb n key) (ltb n key)

before_more : (or_equal : Bool) (w d e r s : ℕ) → r < w → s < w → (ltb d e || (ltb d (e + 1) && is_before or_equal r s)) ≡ is_before or_equal (d * w + r) (e * w + s)
before_more true w d e r s l m = le_more w d e r s l m
before_more false w d e r s l m = lt_more w d e r s l m

-- the rows before a key, by one digit more
pub ordered_more : (bases : List ℕ) (keys : List (Option ℕ)) (j key : ℕ) (or_equal : Bool) (answer : List Bool) → AreBases bases → j < length bases → answer ≡ answers (λ k. ltb (k / product (take j bases) % get_or bases j 0) (key / product (take j bases) % get_or bases j 0) || (ltb (k / product (take j bases) % get_or bases j 0) (key / product (take j bases) % get_or bases j 0 + 1) && is_before or_equal (k % product (take j bases)) (key % product (take j bases)))) keys → answer ≡ answers (λ k. is_before or_equal (k % product (take (suc j) bases)) (key % product (take (suc j) bases))) keys
ordered_more bases keys j key or_equal answer a l e =
    e ∙ answers-same (λ k. ltb (k / w % b) (key / w % b) || (ltb (k / w % b) (key / w % b + 1) && is_before or_equal (k % w) (key % w))) (λ k. is_before or_equal (k % product (take (suc j) bases)) (key % product (take (suc j) bases))) keys (λ row k u q.
    before_more or_equal w (k / w % b) (key / w % b) (k % w) (key % w) (mod-lt k positive) (mod-lt key positive)
    ∙ ap (λ n. is_before or_equal n (key / w % b * w + key % w)) (sym (parts k))
    ∙ ap (λ n. is_before or_equal (k % product (take (suc j) bases)) n) (sym (parts key)))
  where
    w : ℕ
    w = product (take j bases)

    b : ℕ
    b = get_or bases j 0

    positive : 0 < w
    positive = product-positive bases j a (omega arith)

    parts : (n : ℕ) → n % product (take (suc j) bases) ≡ n / w % b * w + n % w
    parts n = ap (λ p. n % p) (product-more bases j l) ∙ mod-mul n (omega (arith, a.least j l)) positive

-- the rows of a key, by one digit more
pub equal_more : (bases : List ℕ) (keys : List (Option ℕ)) (j key : ℕ) (answer : List Bool) → AreBases bases → j < length bases → answer ≡ answers (λ k. eqb (k % product (take j bases)) (key % product (take j bases)) && eqb (k / product (take j bases) % get_or bases j 0) (key / product (take j bases) % get_or bases j 0)) keys → answer ≡ answers (λ k. eqb (k % product (take (suc j) bases)) (key % product (take (suc j) bases))) keys
equal_more bases keys j key answer a l e =
    e ∙ answers-same (λ k. eqb (k % w) (key % w) && eqb (k / w % b) (key / w % b)) (λ k. eqb (k % product (take (suc j) bases)) (key % product (take (suc j) bases))) keys (λ row k u q.
    eq_more w (k / w % b) (key / w % b) (k % w) (key % w) (mod-lt k positive) (mod-lt key positive)
    ∙ ap (λ n. eqb n (key / w % b * w + key % w)) (sym (parts k))
    ∙ ap (λ n. eqb (k % product (take (suc j) bases)) n) (sym (parts key)))
  where
    w : ℕ
    w = product (take j bases)

    b : ℕ
    b = get_or bases j 0

    positive : 0 < w
    positive = product-positive bases j a (omega arith)

    parts : (n : ℕ) → n % product (take (suc j) bases) ≡ n / w % b * w + n % w
    parts n = ap (λ p. n % p) (product-more bases j l) ∙ mod-mul n (omega (arith, a.least j l)) positive

-- no rows
pub none_even : {B E : Type 0} (bits : B → List Bool) (present : List Bool) (result : Result B E) → IfOk result (λ b. bits b ≡ bitwise and_not present present) → IfOk result (λ b. length (bits b) ≡ length present)
none_even bits present (Ok b) e = ap length e ∙ length-bitwise and_not present present refl
none_even bits present (Err x) e = tt

pub none_keys : {B E : Type 0} (bits : B → List Bool) (present : List Bool) (all : Bool) (result : Result B E) → all ≡ false → IfOk result (λ b. bits b ≡ bitwise and_not present present) → IfOk result (λ b. (keys : List (Option ℕ)) → present ≡ answers (λ _. true) keys → bits b ≡ answers (λ _. all) keys)
none_keys bits present all (Ok b) none e = λ keys h.
    e ∙ ap (λ xs. bitwise and_not xs xs) h ∙ answers-and_not (λ _. true) (λ _. true) keys ∙ answers-same (λ _. false) (λ _. all) keys (λ row key l q. sym none)
none_keys bits present all (Err x) none e = tt

-- a column of a digit
pub column_is : (columns : List (List Bool)) (from n value : ℕ) (column : List Bool) → value < n → column ≡ get_or columns (from + value) [] → column ≡ get_or (take n (drop from columns)) value []
column_is columns from n value column l e = e ∙ sym (get_or-take n (drop from columns) value [] l ∙ get_or-drop from columns value [])

pub columns_inside : (coding other : Coding) (base n : ℕ) → coding ≡ other → n ≡ columns_of coding base → n ≡ columns_of other base
columns_inside coding other base n is e = e ∙ ap (λ c. columns_of c base) is

-- an equality-coded digit has a column for each value
pub below_equality : {B E : Type 0} (bits : B → List Bool) (present : List Bool) (columns : List (List Bool)) (coding : Coding) (base value : ℕ) (result : Result B E) → coding ≡ Equality → IfOk result (λ b. (keys : List (Option ℕ)) (digit : ℕ → ℕ) → HoldsDigit Equality base digit present (take base columns) keys → bits b ≡ answers (λ key. ltb (digit key) value) keys) → IfOk result (λ b. (keys : List (Option ℕ)) (digit : ℕ → ℕ) → HoldsDigit coding base digit present (take (columns_of coding base) columns) keys → bits b ≡ answers (λ key. ltb (digit key) value) keys)
below_equality bits present columns coding base value (Ok b) is e = λ keys digit h.
    e keys digit (subst (λ c. HoldsDigit c base digit present (take (columns_of c base) columns) keys) is h)
below_equality bits present columns coding base value (Err x) is e = tt

-- the rows of the values so far
pub any_none : (keys : List (Option ℕ)) (digit : ℕ → ℕ) (answer : List Bool) → answer ≡ answers (λ _. false) keys → answer ≡ answers (λ key. ltb (digit key) 0) keys
any_none keys digit answer e = e ∙ answers-same (λ _. false) (λ key. ltb (digit key) 0) keys (λ row key l q. none (digit key))
  where
    none : (n : ℕ) → false ≡ ltb n 0
    none n = grind (arith, nat_tests)

pub any_more : (keys : List (Option ℕ)) (digit : ℕ → ℕ) (present : List Bool) (columns : List (List Bool)) (n j : ℕ) (rows column answer : List Bool) → HoldsDigit Equality n digit present columns keys → j < n → column ≡ get_or columns j [] → rows ≡ answers (λ key. ltb (digit key) j) keys → answer ≡ bitwise ◌||◌ rows column → answer ≡ answers (λ key. ltb (digit key) (j + 1)) keys
any_more keys digit present columns n j rows column answer h l c r e =
    e ∙ ap (λ xs. bitwise ◌||◌ xs column) r ∙ ap (λ xs. bitwise ◌||◌ (answers (λ key. ltb (digit key) j) keys) xs) (c ∙ h.column j l)
    ∙ answers-or (λ key. ltb (digit key) j) (λ key. eqb (digit key) j) keys
    ∙ answers-same (λ key. ltb (digit key) j || eqb (digit key) j) (λ key. ltb (digit key) (j + 1)) keys (λ row key u q. more (digit key))
  where
    more : (d : ℕ) → (ltb d j || eqb d j) ≡ ltb d (j + 1)
    more d = grind (arith, nat_tests)

-- the rows below a value
module _ {B E : Type 0} (bits : B → List Bool) (present : List Bool) (columns : List (List Bool)) (coding : Coding) (base value : ℕ) where
  pub below_none : (result : Result B E) → value ≡ 0 → IfOk result (λ b. (keys : List (Option ℕ)) → present ≡ answers (λ _. true) keys → bits b ≡ answers (λ _. false) keys) → IfOk result (λ b. (keys : List (Option ℕ)) (digit : ℕ → ℕ) → HoldsDigit coding base digit present columns keys → bits b ≡ answers (λ key. ltb (digit key) value) keys)
  below_none (Ok b) zero_is e = λ keys digit h. e keys h.rows ∙ answers-same (λ _. false) (λ key. ltb (digit key) value) keys (λ row key l q. none (digit key))
    where
      none : (d : ℕ) → false ≡ ltb d value
      none d = grind (arith, nat_tests)
  below_none (Err x) zero_is e = tt

  pub below_all : (result : Result B E) → value ≡ base → IfOk result (λ b. (keys : List (Option ℕ)) → present ≡ answers (λ _. true) keys → bits b ≡ answers (λ _. true) keys) → IfOk result (λ b. (keys : List (Option ℕ)) (digit : ℕ → ℕ) → HoldsDigit coding base digit present columns keys → bits b ≡ answers (λ key. ltb (digit key) value) keys)
  below_all (Ok b) same e = λ keys digit h. e keys h.rows ∙ answers-same (λ _. true) (λ key. ltb (digit key) value) keys (λ row key l q. all (digit key) (h.small key))
    where
      all : (d : ℕ) → d < base → true ≡ ltb d value
      all d l = grind (arith, nat_tests)
  below_all (Err x) same e = tt

  pub below_some : (column : List Bool) (result : Result B E) → coding ≡ Range → 0 < value → value < base → column ≡ get_or columns (value - 1) [] → IfOk result (λ b. bits b ≡ column) → IfOk result (λ b. (keys : List (Option ℕ)) (digit : ℕ → ℕ) → HoldsDigit coding base digit present columns keys → bits b ≡ answers (λ key. ltb (digit key) value) keys)
  below_some column (Ok b) is some under c e = λ keys digit h.
      let inside : value - 1 < columns_of coding base = subst (λ c. value - 1 < columns_of c base) (sym is) (omega arith) in
      e ∙ c ∙ h.column (value - 1) inside
      ∙ ap (λ c. answers (λ key. is_coded c (value - 1) (digit key)) keys) is
      ∙ answers-same (λ key. leb (digit key) (value - 1)) (λ key. ltb (digit key) value) keys (λ row key l q. at_most (digit key))
    where
      at_most : (d : ℕ) → leb d (value - 1) ≡ ltb d value
      at_most d = grind (arith, nat_tests)
  below_some column (Err x) is some under c e = tt

  pub equal_column : (column : List Bool) (result : Result B E) → coding ≡ Equality → value < base → column ≡ get_or columns value [] → IfOk result (λ b. bits b ≡ column) → IfOk result (λ b. (keys : List (Option ℕ)) (digit : ℕ → ℕ) → HoldsDigit coding base digit present columns keys → bits b ≡ answers (λ key. eqb (digit key) value) keys)
  equal_column column (Ok b) is under c e = λ keys digit h.
      let inside : value < columns_of coding base = subst (λ c. value < columns_of c base) (sym is) under in
      e ∙ c ∙ h.column value inside ∙ ap (λ c. answers (λ key. is_coded c value (digit key)) keys) is
  equal_column column (Err x) is under c e = tt

  -- the rows at most a value, and not below it
  pub equal_between : (most less : List Bool) (result : Result B E) → ((keys : List (Option ℕ)) (digit : ℕ → ℕ) → HoldsDigit coding base digit present columns keys → most ≡ answers (λ key. ltb (digit key) (value + 1)) keys) → ((keys : List (Option ℕ)) (digit : ℕ → ℕ) → HoldsDigit coding base digit present columns keys → less ≡ answers (λ key. ltb (digit key) value) keys) → IfOk result (λ b. bits b ≡ bitwise and_not most less) → IfOk result (λ b. (keys : List (Option ℕ)) (digit : ℕ → ℕ) → HoldsDigit coding base digit present columns keys → bits b ≡ answers (λ key. eqb (digit key) value) keys)
  equal_between most less (Ok b) m l e = λ keys digit h.
      e ∙ ap (λ xs. bitwise and_not xs less) (m keys digit h) ∙ ap (λ xs. bitwise and_not (answers (λ key. ltb (digit key) (value + 1)) keys) xs) (l keys digit h)
      ∙ answers-and_not (λ key. ltb (digit key) (value + 1)) (λ key. ltb (digit key) value) keys
      ∙ answers-same (λ key. ltb (digit key) (value + 1) && not (ltb (digit key) value)) (λ key. eqb (digit key) value) keys (λ row key u q. between (digit key))
    where
      between : (d : ℕ) → (ltb d (value + 1) && not (ltb d value)) ≡ eqb d value
      between d = grind (arith, nat_tests)
  equal_between most less (Err x) m l e = tt

  pub ordered_rows : (most less lower both : List Bool) (result : Result B E) → ((keys : List (Option ℕ)) (digit : ℕ → ℕ) → HoldsDigit coding base digit present columns keys → most ≡ answers (λ key. ltb (digit key) (value + 1)) keys) → ((keys : List (Option ℕ)) (digit : ℕ → ℕ) → HoldsDigit coding base digit present columns keys → less ≡ answers (λ key. ltb (digit key) value) keys) → both ≡ bitwise ◌&&◌ most lower → IfOk result (λ b. bits b ≡ bitwise ◌||◌ less both) → IfOk result (λ b. (keys : List (Option ℕ)) (digit : ℕ → ℕ) (test : ℕ → Bool) → HoldsDigit coding base digit present columns keys → lower ≡ answers test keys → bits b ≡ answers (λ key. ltb (digit key) value || (ltb (digit key) (value + 1) && test key)) keys)
  ordered_rows most less lower both (Ok b) m l a e = λ keys digit test h w.
      e ∙ ap (λ xs. bitwise ◌||◌ xs both) (l keys digit h)
      ∙ ap (λ xs. bitwise ◌||◌ (answers (λ key. ltb (digit key) value) keys) xs) (a ∙ ap (λ xs. bitwise ◌&&◌ xs lower) (m keys digit h) ∙ ap (λ xs. bitwise ◌&&◌ (answers (λ key. ltb (digit key) (value + 1)) keys) xs) w ∙ answers-and (λ key. ltb (digit key) (value + 1)) test keys)
      ∙ answers-or (λ key. ltb (digit key) value) (λ key. ltb (digit key) (value + 1) && test key) keys
  ordered_rows most less lower both (Err x) m l a e = tt

-- the lengths of the results
pub even_of : {B E : Type 0} (bits : B → List Bool) (column present : List Bool) (result : Result B E) → length column ≡ length present → IfOk result (λ b. bits b ≡ column) → IfOk result (λ b. length (bits b) ≡ length present)
even_of bits column present (Ok b) l e = ap length e ∙ l
even_of bits column present (Err x) l e = tt

pub even_joined : {B E : Type 0} (bits : B → List Bool) (f : Bool → Bool → Bool) (xs ys present : List Bool) (result : Result B E) → length xs ≡ length present → length ys ≡ length present → IfOk result (λ b. bits b ≡ bitwise f xs ys) → IfOk result (λ b. length (bits b) ≡ length present)
even_joined bits f xs ys present (Ok b) l m e = ap length e ∙ length-bitwise f xs ys (l ∙ sym m) ∙ l
even_joined bits f xs ys present (Err x) l m e = tt

-- the columns of one digit, as they are read
pub digit_part : (coding : Coding) (bases : List ℕ) (table : Contents) (keys : List (Option ℕ)) (j from : ℕ) (present : List Bool) (columns : List (List Bool)) → AreBases bases → j < length bases → from ≡ width coding (take j bases) → present ≡ table.present → columns ≡ take (columns_of coding (get_or bases j 0)) (drop from table.columns) → Holds coding bases table keys → HoldsDigit coding (get_or bases j 0) (λ key. key / product (take j bases) % get_or bases j 0) present columns keys
digit_part coding bases table keys j from present columns a l f p c h =
    subst (λ xs. HoldsDigit coding (get_or bases j 0) (λ key. key / product (take j bases) % get_or bases j 0) xs columns keys) (sym p)
    (subst (λ cs. HoldsDigit coding (get_or bases j 0) (λ key. key / product (take j bases) % get_or bases j 0) table.present cs keys) (sym (c ∙ ap (λ i. take (columns_of coding (get_or bases j 0)) (drop i table.columns)) f)) (digit_is coding bases table keys j a l h))

pub equal_init : (keys : List (Option ℕ)) (key : ℕ) (answer : List Bool) → answer ≡ answers (λ _. true) keys → answer ≡ answers (λ k. eqb (k % 1) (key % 1)) keys
equal_init keys key answer e = e ∙ answers-same (λ _. true) (λ k. eqb (k % 1) (key % 1)) keys (λ row k l q. rw (mod-one k, mod-one key) refl)

pub equal_step : (bases : List ℕ) (keys : List (Option ℕ)) (j key rest next : ℕ) (rows here answer : List Bool) → AreBases bases → j < length bases → next ≡ suc j → rest ≡ key / product (take j bases) → rows ≡ answers (λ k. eqb (k % product (take j bases)) (key % product (take j bases))) keys → here ≡ answers (λ k. eqb (k / product (take j bases) % get_or bases j 0) (rest % get_or bases j 0)) keys → answer ≡ bitwise ◌&&◌ rows here → answer ≡ answers (λ k. eqb (k % product (take next bases)) (key % product (take next bases))) keys
equal_step bases keys j key rest next rows here answer a l n r w h e =
    equal_more bases keys j key answer a l
    (e ∙ ap (λ xs. bitwise ◌&&◌ xs here) w
    ∙ ap (λ xs. bitwise ◌&&◌ (answers (λ k. eqb (k % product (take j bases)) (key % product (take j bases))) keys) xs) (h ∙ ap (λ d. answers (λ k. eqb (k / product (take j bases) % get_or bases j 0) (d % get_or bases j 0)) keys) r)
    ∙ answers-and (λ k. eqb (k % product (take j bases)) (key % product (take j bases))) (λ k. eqb (k / product (take j bases) % get_or bases j 0) (key / product (take j bases) % get_or bases j 0)) keys)
    ∙ ap (λ i. answers (λ k. eqb (k % product (take i bases)) (key % product (take i bases))) keys) (sym n)

pub equal_end : (coding : Coding) (bases : List ℕ) (table : Contents) (keys : List (Option ℕ)) (j key : ℕ) (answer : List Bool) → length bases ≤ j → key < product bases → Holds coding bases table keys → answer ≡ answers (λ k. eqb (k % product (take j bases)) (key % product (take j bases))) keys → answer ≡ answers (λ k. eqb k key) keys
equal_end coding bases table keys j key answer l u h e =
    e ∙ ap (λ bs. answers (λ k. eqb (k % product bs) (key % product bs)) keys) (take_all j bases l)
    ∙ answers-same (λ k. eqb (k % product bases) (key % product bases)) (λ k. eqb k key) keys (λ row k i q.
    ap (λ n. eqb n (key % product bases)) (mod-eq_of_lt (h.each row k q)) ∙ ap (λ n. eqb k n) (mod-eq_of_lt u))

pub before_init : (keys : List (Option ℕ)) (key : ℕ) (or_equal : Bool) (answer : List Bool) → answer ≡ answers (λ _. or_equal) keys → answer ≡ answers (λ k. is_before or_equal (k % 1) (key % 1)) keys
before_init keys key true answer e = e ∙ answers-same (λ _. true) (λ k. is_before true (k % 1) (key % 1)) keys (λ row k l q. rw (mod-one k, mod-one key) refl)
before_init keys key false answer e = e ∙ answers-same (λ _. false) (λ k. is_before false (k % 1) (key % 1)) keys (λ row k l q. rw (mod-one k, mod-one key) refl)

pub before_step : (bases : List ℕ) (keys : List (Option ℕ)) (j key rest next : ℕ) (or_equal : Bool) (answer : List Bool) → AreBases bases → j < length bases → next ≡ suc j → rest ≡ key / product (take j bases) → answer ≡ answers (λ k. ltb (k / product (take j bases) % get_or bases j 0) (rest % get_or bases j 0) || (ltb (k / product (take j bases) % get_or bases j 0) (rest % get_or bases j 0 + 1) && is_before or_equal (k % product (take j bases)) (key % product (take j bases)))) keys → answer ≡ answers (λ k. is_before or_equal (k % product (take next bases)) (key % product (take next bases))) keys
before_step bases keys j key rest next or_equal answer a l n r e =
    ordered_more bases keys j key or_equal answer a l
    (e ∙ ap (λ d. answers (λ k. ltb (k / product (take j bases) % get_or bases j 0) (d % get_or bases j 0) || (ltb (k / product (take j bases) % get_or bases j 0) (d % get_or bases j 0 + 1) && is_before or_equal (k % product (take j bases)) (key % product (take j bases)))) keys) r)
    ∙ ap (λ i. answers (λ k. is_before or_equal (k % product (take i bases)) (key % product (take i bases))) keys) (sym n)

pub before_end : (coding : Coding) (bases : List ℕ) (table : Contents) (keys : List (Option ℕ)) (j key : ℕ) (or_equal : Bool) (answer : List Bool) → length bases ≤ j → key < product bases → Holds coding bases table keys → answer ≡ answers (λ k. is_before or_equal (k % product (take j bases)) (key % product (take j bases))) keys → answer ≡ answers (λ k. is_before or_equal k key) keys
before_end coding bases table keys j key or_equal answer l u h e =
    e ∙ ap (λ bs. answers (λ k. is_before or_equal (k % product bs) (key % product bs)) keys) (take_all j bases l)
    ∙ answers-same (λ k. is_before or_equal (k % product bases) (key % product bases)) (λ k. is_before or_equal k key) keys (λ row k i q.
    ap (λ n. is_before or_equal n (key % product bases)) (mod-eq_of_lt (h.each row k q)) ∙ ap (λ n. is_before or_equal k n) (mod-eq_of_lt u))

-- the rest of a key, and the columns so far, after one digit more
pub rest_more : (bases : List ℕ) (j key rest next : ℕ) → j < length bases → next ≡ suc j → rest ≡ key / product (take j bases) → rest / get_or bases j 0 ≡ key / product (take next bases)
rest_more bases j key rest next l n r =
    ap (λ d. d / get_or bases j 0) r ∙ div-div-eq-div-mul key (product (take j bases)) (get_or bases j 0)
    ∙ ap (λ d. key / d) (mul_comm (product (take j bases)) (get_or bases j 0) ∙ sym (product-more bases j l) ∙ ap (λ i. product (take i bases)) (sym n))

pub from_more : (coding : Coding) (bases : List ℕ) (j from next : ℕ) → j < length bases → next ≡ suc j → from ≡ width coding (take j bases) → from + columns_of coding (get_or bases j 0) ≡ width coding (take next bases)
from_more coding bases j from next l n f =
    ap (λ i. i + columns_of coding (get_or bases j 0)) f ∙ sym (width-more coding bases j l) ∙ ap (λ i. width coding (take i bases)) (sym n)

pub from-most : (coding : Coding) (bases : List ℕ) (j : ℕ) → AreBases bases → j < length bases → width coding (take j bases) + columns_of coding (get_or bases j 0) ≤ 4096
from-most coding bases j a l =
    let w = width-within coding bases j l in
    let m = width-most coding bases a.most in
    omega (arith, w, m, a.few)
  where
    width-most : (coding : Coding) (bases : List ℕ) → ((j : ℕ) → j < length bases → get_or bases j 0 ≤ 256) → width coding bases ≤ 256 * length bases
    width-most coding [] h = omega arith
    width-most coding (b ∷ bs) h =
        let first : b ≤ 256 = h 0 (omega arith) in
        let count = columns-most coding b in
        let others = width-most coding bs (λ j l. h (suc j) (omega arith)) in
        omega (arith, first, count, others)

-- what is asked, by the relation
module _ {B E : Type 0} (bits : B → List Bool) (coding : Coding) (bases : List ℕ) (table : Contents) (rel : Order) (key : ℕ) where
  pub ask_directly : (p : ℕ → Bool) (result : Result B E) → ((k : ℕ) → p k ≡ holds rel k key) → IfOk result (λ b. (keys : List (Option ℕ)) → Holds coding bases table keys → bits b ≡ answers p keys) → IfOk result (λ b. (keys : List (Option ℕ)) → Holds coding bases table keys → bits b ≡ answers (λ k. holds rel k key) keys)
  ask_directly p (Ok b) same e = λ keys h. e keys h ∙ answers-same p (λ k. holds rel k key) keys (λ row k l q. same k)
  ask_directly p (Err x) same e = tt

  pub ask_others : (p : ℕ → Bool) (present rows : List Bool) (result : Result B E) → ((k : ℕ) → not (p k) ≡ holds rel k key) → present ≡ table.present → ((keys : List (Option ℕ)) → Holds coding bases table keys → rows ≡ answers p keys) → IfOk result (λ b. bits b ≡ bitwise and_not present rows) → IfOk result (λ b. (keys : List (Option ℕ)) → Holds coding bases table keys → bits b ≡ answers (λ k. holds rel k key) keys)
  ask_others p present rows (Ok b) same t r e = λ keys h.
      e ∙ ap (λ xs. bitwise and_not xs rows) (t ∙ h.stands.present) ∙ ap (λ xs. bitwise and_not (answers (λ _. true) keys) xs) (r keys h)
      ∙ answers-and_not (λ _. true) p keys ∙ answers-same (λ k. not (p k)) (λ k. holds rel k key) keys (λ row k l q. same k)
  ask_others p present rows (Err x) same t r e = tt

pub above : (n key : ℕ) → not (leb n key) ≡ ltb key n
above n key = grind (arith, nat_tests)

pub at_least : (n key : ℕ) → not (ltb n key) ≡ leb key n
at_least n key = grind (arith, nat_tests)

-- the columns of a digit in a word
pub ones_from_bit : (at j : ℕ) → at < 64 → j < 64 → has_bit ((2 ^ 64 - 1) / 2 ^ at) (63 - j) ≡ leb at j
ones_from_bit at j l u = elim (cases_lt j at) [
  | inl less ↦
      let past : leb at j ≡ false = grind (arith, nat_tests) in
      ap (λ n. has_bit n (63 - j)) (ones_shr 64 at (omega arith)) ∙ ap (λ x. eqb x 1) (bit_at_ones_above (64 - at) (63 - j) (omega arith)) ∙ sym past
  | inr more ↦
      let reached : leb at j ≡ true = grind (arith, nat_tests) in
      ap (λ n. has_bit n (63 - j)) (ones_shr 64 at (omega arith)) ∙ ap (λ x. eqb x 1) (bit_at_ones (64 - at) (63 - j) (omega arith)) ∙ sym reached
]

pub ones_from_none : (at j : ℕ) → 64 ≤ at → j < 64 → has_bit 0 (63 - j) ≡ leb at j
ones_from_none at j l u =
    let past : leb at j ≡ false = grind (arith, nat_tests) in
    bit-none (63 - j) ∙ sym past

-- which column ends a digit's run of ones
abbrev pub cond_of : Coding → ℕ → ℕ → ℕ
cond_of Equality one all = one
cond_of Range one all = all

-- a digit's run of ones
pub digit_run : (coding : Coding) (from count digit first end column : ℕ) → (coding ≡ Equality → digit < count) → first ≡ from + digit → end ≡ cond_of coding (first + 1) (from + count) → (leb first column && ltb column end) ≡ (leb from column && ltb column (from + count) && is_coded coding (column - from) digit)
digit_run coding from count digit first end column w f e =
    ap (λ n. leb first column && ltb column n) e
    ∙ ap (λ n. leb n column && ltb column (cond_of coding (n + 1) (from + count))) f
    ∙ by_coding coding w
  where
    by_coding : (coding : Coding) → (coding ≡ Equality → digit < count) → (leb (from + digit) column && ltb column (cond_of coding (from + digit + 1) (from + count))) ≡ (leb from column && ltb column (from + count) && is_coded coding (column - from) digit)
    by_coding Equality w = let h : digit < count = w refl in grind (arith, nat_tests)
    by_coding Range w = grind (arith, nat_tests)

-- a run of columns that begins and ends in one word
pub run_in_word : (old ones : Bool) (at first end part j : ℕ) → j < 64 → at ≡ first / 64 → at ≡ end / 64 → ones ≡ (leb (first % 64) j && ltb j (end % 64)) → (old || (eqb part at && ones)) ≡ (old || (leb first (64 * part + j) && ltb (64 * part + j) end))
run_in_word old ones at first end part j u a b e =
    ap (λ x. old || (eqb part at && x)) e ∙ ap (λ x. old || x) same
  where
    same : (eqb part at && (leb (first % 64) j && ltb j (end % 64))) ≡ (leb first (64 * part + j) && ltb (64 * part + j) end)
    same = grind (arith, nat_tests)

-- a run of columns over more words
pub run_over_words : (old start behind : Bool) (at last first end part j : ℕ) → j < 64 → at ≡ first / 64 → last ≡ end / 64 → at < last → start ≡ leb (first % 64) j → behind ≡ ltb j (end % 64) → (((old || (eqb part at && start)) || (leb (at + 1) part && ltb part last)) || (eqb part last && behind)) ≡ (old || (leb first (64 * part + j) && ltb (64 * part + j) end))
run_over_words old start behind at last first end part j u a b l e f =
    ap (λ x. ((old || (eqb part at && x)) || (leb (at + 1) part && ltb part last)) || (eqb part last && behind)) e
    ∙ ap (λ x. ((old || (eqb part at && leb (first % 64) j)) || (leb (at + 1) part && ltb part last)) || (eqb part last && x)) f
    ∙ all old
  where
    all : (old : Bool) → (((old || (eqb part at && leb (first % 64) j)) || (leb (at + 1) part && ltb part last)) || (eqb part last && ltb j (end % 64))) ≡ (old || (leb first (64 * part + j) && ltb (64 * part + j) end))
    all true = refl
    all false = grind (arith, nat_tests)

or_false : (x y : Bool) → y ≡ false → x ≡ (x || y)
or_false true y e = refl
or_false false y e = sym e

or_true : (x y : Bool) → y ≡ true → true ≡ (x || y)
or_true true y e = refl
or_true false y e = sym e

-- a word with more ones
pub word_with : (words : List ℕ) (at ones part i : ℕ) → at < length words → has_bit (get_or (set words at (bit_or (get_or words at 0) ones)) part 0) i ≡ (has_bit (get_or words part 0) i || (eqb part at && has_bit ones i))
word_with words at ones part i l = elim (cases_eq part at) [
  | inl same ↦
      let yes : eqb part at ≡ true = grind (arith, nat_tests) in
      ap (λ n. has_bit (get_or (set words at (bit_or (get_or words at 0) ones)) n 0) i) same
      ∙ ap (λ n. has_bit n i) (get_or-set_same words at (bit_or (get_or words at 0) ones) 0 l)
      ∙ bit-or (get_or words at 0) ones i
      ∙ ap (λ n. has_bit (get_or words n 0) i || has_bit ones i) (sym same)
      ∙ ap (λ b. has_bit (get_or words part 0) i || (b && has_bit ones i)) (sym yes)
  | inr other ↦
      let never : eqb part at ≡ false = grind (arith, nat_tests) in
      ap (λ n. has_bit n i) (get_or-set_other words at part (bit_or (get_or words at 0) ones) 0 other)
      ∙ or_false (has_bit (get_or words part 0) i) (eqb part at && has_bit ones i) (ap (λ b. b && has_bit ones i) never)
]

pub word_without : (words : List ℕ) (at part : ℕ) (one : Bool) (i : ℕ) → part < length words → length words ≤ at → has_bit (get_or words part 0) i ≡ (has_bit (get_or words part 0) i || (eqb part at && one))
word_without words at part one i l past =
    let never : eqb part at ≡ false = grind (arith, nat_tests) in
    or_false (has_bit (get_or words part 0) i) (eqb part at && one) (ap (λ b. b && one) never)

-- full words
pub none_filled : (old : Bool) (from k : ℕ) → old ≡ (old || (leb from k && ltb k from))
none_filled old from k = or_false old (leb from k && ltb k from) (grind (arith, nat_tests))

pub one_filled : (words : List ℕ) (from part k i : ℕ) (old : Bool) → k < length words → i < 64 → from ≤ part → has_bit (get_or words k 0) i ≡ (old || (leb from k && ltb k part)) → has_bit (get_or (set words part (2 ^ 64 - 1)) k 0) i ≡ (old || (leb from k && ltb k (part + 1)))
one_filled words from part k i old l u f e = elim (cases_eq k part) [
  | inl same ↦
      let yes : (leb from k && ltb k (part + 1)) ≡ true = grind (arith, nat_tests) in
      ap (λ n. has_bit (get_or (set words part (2 ^ 64 - 1)) n 0) i) same
      ∙ ap (λ n. has_bit n i) (get_or-set_same words part (2 ^ 64 - 1) 0 (omega (arith, l, same)))
      ∙ bit-all i u
      ∙ or_true old (leb from k && ltb k (part + 1)) yes
  | inr other ↦
      let even : (leb from k && ltb k part) ≡ (leb from k && ltb k (part + 1)) = grind (arith, nat_tests) in
      ap (λ n. has_bit n i) (get_or-set_other words part k (2 ^ 64 - 1) 0 other) ∙ e ∙ ap (λ b. old || b) even
]

pub filled_to : (from to part long k most : ℕ) → k < long → most ≡ min long to → most ≤ part → part ≤ max from most → (leb from k && ltb k part) ≡ (leb from k && ltb k to)
filled_to from to part long k most l e least up = elim (cases_lt k from) [
  | inl before ↦
      let never : leb from k ≡ false = grind (arith, nat_tests) in
      ap (λ b. b && ltb k part) never ∙ sym (ap (λ b. b && ltb k to) never)
  | inr behind ↦
      ap (λ b. leb from k && b) (elim (cases_lt k to) [
        | inl inside ↦
            let h : k < part = omega (arith, l, e, least, inside) in
            let yes : ltb k part ≡ true = grind (arith, nat_tests) in
            let also : ltb k to ≡ true = grind (arith, nat_tests) in
            yes ∙ sym also
        | inr past ↦
            let h : part ≤ k = omega (arith, e, up, past, behind) in
            let never : ltb k part ≡ false = grind (arith, nat_tests) in
            let nor : ltb k to ≡ false = grind (arith, nat_tests) in
            never ∙ sym nor
      ])
]

pub digit_bit-past : (coding : Coding) (bases : List ℕ) (j key : ℕ) → width coding bases ≤ j → digit_bit coding bases j key ≡ false
digit_bit-past coding [] j key l = refl
digit_bit-past coding (b ∷ bs) j key l =
    there (grind (arith, nat_tests)) ∙ digit_bit-past coding bs (j - columns_of coding b) (key / b) (omega arith)
  where
    there : ltb j (columns_of coding b) ≡ false → digit_bit coding (b ∷ bs) j key ≡ digit_bit coding bs (j - columns_of coding b) (key / b)
    there later = rw later refl

-- the columns of one digit more
pub word_more : (coding : Coding) (bases : List ℕ) (k key from rest column : ℕ) (old more : Bool) → k < length bases → from ≡ width coding (take k bases) → rest ≡ key / product (take k bases) → old ≡ (ltb column from && digit_bit coding bases column key) → more ≡ (leb from column && ltb column (from + columns_of coding (get_or bases k 0)) && is_coded coding (column - from) (rest % get_or bases k 0)) → (old || more) ≡ (ltb column (from + columns_of coding (get_or bases k 0)) && digit_bit coding bases column key)
word_more coding bases k key from rest column old more l f r w m =
    ap (λ x. x || more) w ∙ ap (λ x. (ltb column from && digit_bit coding bases column key) || x) m
    ∙ elim (cases_lt column from) [
      | inl less ↦
          let yes_before : ltb column from ≡ true = grind (arith, nat_tests) in
          let not_from : leb from column ≡ false = grind (arith, nat_tests) in
          let yes_after : ltb column (from + columns_of coding (get_or bases k 0)) ≡ true = grind (arith, nat_tests) in
          rw (yes_before, not_from, yes_after) (or_none (digit_bit coding bases column key))
      | inr past ↦
          let not_before : ltb column from ≡ false = grind (arith, nat_tests) in
          let yes_from : leb from column ≡ true = grind (arith, nat_tests) in
          rw (not_before, yes_from) (elim (cases_lt column (from + columns_of coding (get_or bases k 0))) [
            | inl inside ↦
                let in_digit : ltb column (from + columns_of coding (get_or bases k 0)) ≡ true = grind (arith, nat_tests) in
                let back : width coding (take k bases) + (column - from) ≡ column = omega (arith, f) in
                rw in_digit (ap (λ d. is_coded coding (column - from) (d % get_or bases k 0)) r
                ∙ sym (bit_of coding bases k (column - from) key l (omega arith))
                ∙ ap (λ i. digit_bit coding bases i key) back)
            | inr outside ↦
                let not_in : ltb column (from + columns_of coding (get_or bases k 0)) ≡ false = grind (arith, nat_tests) in
                rw not_in refl
          ])
    ]
  where
    or_none : (x : Bool) → (x || false) ≡ x
    or_none true = refl
    or_none false = refl

pub word_all : (coding : Coding) (bases : List ℕ) (k key from column : ℕ) (old : Bool) → length bases ≤ k → from ≡ width coding (take k bases) → old ≡ (ltb column from && digit_bit coding bases column key) → old ≡ digit_bit coding bases column key
word_all coding bases k key from column old l f w =
    w ∙ elim (cases_lt column from) [
      | inl less ↦ let before : ltb column from ≡ true = grind (arith, nat_tests) in ap (λ x. x && digit_bit coding bases column key) before
      | inr past ↦
          let all : width coding bases ≤ column = omega (arith, f ∙ ap (width coding) (take_all k bases l)) in
          let after : ltb column from ≡ false = grind (arith, nat_tests) in
          ap (λ x. x && digit_bit coding bases column key) after ∙ sym (digit_bit-past coding bases column key all)
    ]
