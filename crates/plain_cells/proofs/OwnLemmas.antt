-- Texts that are written as they were read.
use Rattle.std.proofs.Common.{◌≡◌, ◌⊎◌, ℕ, ℤ, zero, suc, ◌+◌, ◌-◌, ◌*◌, ◌/◌, ◌%◌, ◌^◌, ◌<◌, ◌≤◌, Bool, true, false, cond, eqb, leb, List, [], ◌∷◌, ◌++◌, Option, None, Some, length, take, drop, get_or, refl, ap, ap₂, sym, ◌∙◌, subst, arith, inl, inr}
use Rattle.std.specs.Prelude.{codes, pos}
use Rattle.std.specs.Fmt.{decimal, signed_decimal}
use Rattle.std.proofs.lemmas.Fmt.{decimal_digit, decimal_step}
use Rattle.std.proofs.lemmas.Bool.{and_parts, cases_eq, cases_Bool, cond-true, eq-eqb, leb-true, le-leb}
use Rattle.std.proofs.lemmas.Nat.{le-div, div_below}
use Rattle.std.proofs.Math.Nat.{one-le-pow}
use Rattle.std.proofs.lemmas.List.{append-nil, append_assoc, length-take-le}
use Rattle.std.proofs.lemmas.Slice.Eq.{bytes_eq-Decides}
use Rattle.std.specs.List.{list_all}
use Rattle.std.specs.Option.{option_map, option_and_then}
use Rattle.std.specs.Str.{bytes_eq}
use Rattle.vast_value.specs.declared.kind.Elem.{Elem}
use Rattle.vast_value.specs.declared.kind.Elem.TheVariants as elem
use Rattle.vast_value.specs.declared.kind.Kind.TheVariants as kind
use Rattle.vast_value.specs.declared.transport.Transport.{Transport}
use Rattle.vast_value.specs.declared.transport.Transport.TheVariants.{Unknown}
use Rattle.vast_value.specs.declared.value.Value.{Value}
use Rattle.vast_value.specs.declared.value.Value.TheVariants as value
use Rattle.vast_value.specs.declared.cell.Cell.{Cell}
use Rattle.vast_value.specs.declared.cell.Cell.TheVariants as cell
use Rattle.value_reading.specs.Numbers.{is_digit, number_behind, number_of, number_up_to, if_at_most, if_i64, int_of, fraction_of, nanoseconds_of, span_of}
use Rattle.value_reading.specs.Ports.{port_of}
use Rattle.value_reading.specs.Reading.{bool_of, is_text, value_read, set_read, cell_read}
use Rattle.value_writing.specs.Writing.{last_digits, fraction_text, seconds_text, span_text, cell_text, value_text, port_text}
use Rattle.plain_cells.specs.Seconds.{AreSeconds}
use Rattle.plain_cells.specs.Own.{IsOwnText, HasNoLeadingZero}
use Rattle.plain_cells.proofs.DigitLemmas.{digit_bounds, digits_none, digits_read, ten_pow, no_sign, port_is}
use Rattle.plain_cells.proofs.ReadableLemmas.{has_none, set_plain}
use Rattle.plain_cells.proofs.SecondLemmas.{number_some, nano_parts, seconds_parts, seconds_read}

-- Decimal numbers

next_decimal : (n d : ℕ) → 0 < n → is_digit d ≡ true → n * 10 + (d - 48) < 2 ^ 64 → decimal (n * 10 + (d - 48)) ≡ decimal n ++ d ∷ []
next_decimal n d some digit small =
    let bounds = digit_bounds d digit in
    let high : (n * 10 + (d - 48)) / 10 ≡ n = omega arith in
    let low : 48 + (n * 10 + (d - 48)) % 10 ≡ d = omega arith in
    decimal_step (n * 10 + (d - 48)) (omega arith) small ∙ ap₂ (λ (h l : ℕ). decimal h ++ l ∷ []) high low

some_same : {a b : ℕ} → Some a ≡ Some b → a ≡ b
some_same e = cc

-- the decimal of digits behind a number that is not zero
decimal-behind : (n : ℕ) (ds : List ℕ) (m : ℕ) → 0 < n → list_all is_digit ds ≡ true → number_behind n ds ≡ Some m → m < 2 ^ 64 → decimal m ≡ decimal n ++ ds
decimal-behind n [] m some all is small = let same : n ≡ m = cc in ap decimal (sym same) ∙ sym (append-nil (decimal n))
decimal-behind n (d ∷ ds) m some all is small =
    let both = and_parts (is_digit d) (list_all is_digit ds) all in
    let next : number_behind (n * 10 + (d - 48)) ds ≡ Some m = rw both.0 at is in
    let read = digits_read (n * 10 + (d - 48)) ds both.1 in
    let same : read.number ≡ m = some_same (sym read.is ∙ next) in
    decimal-behind (n * 10 + (d - 48)) ds m (omega arith) both.1 next small
    ∙ ap (λ (l : List ℕ). l ++ ds) (next_decimal n d some both.0 (omega (arith, read.above, same)))
    ∙ append_assoc (decimal n) (d ∷ []) ds

-- digits without a leading zero are the decimal of their number
pub decimal-digits : (ds : List ℕ) (m : ℕ) → list_all is_digit ds ≡ true → HasNoLeadingZero ds → number_of ds ≡ Some m → m < 2 ^ 64 → decimal m ≡ ds
decimal-digits [] m all lone is small = absurd cc
decimal-digits (d ∷ ds) m all lone is small =
    let both = and_parts (is_digit d) (list_all is_digit ds) all in
    let bounds = digit_bounds d both.0 in
    let value : 0 * 10 + (d - 48) ≡ d - 48 = omega arith in
    let next : number_behind (d - 48) ds ≡ Some m = ap (λ (n : ℕ). number_behind n ds) (sym value) ∙ rw both.0 at is in
    let digit : decimal (d - 48) ≡ d ∷ [] = decimal_digit (d - 48) (omega arith) ∙ ap (λ (b : ℕ). b ∷ []) (omega arith) in
    elim (cases_eq d 48) [
      | inl low ↦ lone_zero d ds m low (lone low) next digit
      | inr other ↦ decimal-behind (d - 48) ds m (omega (arith, other)) both.1 next small ∙ ap (λ (l : List ℕ). l ++ ds) digit
    ]
  where
    lone_zero : (d : ℕ) (ds : List ℕ) (m : ℕ) → d ≡ 48 → length (d ∷ ds) ≡ 1 → number_behind (d - 48) ds ≡ Some m → decimal (d - 48) ≡ d ∷ [] → decimal m ≡ d ∷ ds
    lone_zero d [] m low one is digit = let same : d - 48 ≡ m = cc in ap decimal (sym same) ∙ digit
    lone_zero d (x ∷ xs) m low one is digit = absurd (omega arith)

-- Cells

pub own_by : (t : Bool) (o : Option Value) (x : Cell) (raw : List ℕ) → (t ≡ true → codes "-" ≡ raw) → (t ≡ false → (v : Value) → o ≡ Some v → cell_text (cell.One v) ≡ raw)
    → cond t (Some cell.Unset) (option_map cell.One o) ≡ Some x → cell_text x ≡ raw
unfolding cell_text
own_by true o x raw unset one is = let same : cell.Unset ≡ x = cc in subst (λ (y : Cell). cell_text y ≡ raw) same (unset refl)
own_by false None x raw unset one is = absurd cc
own_by false (Some v) x raw unset one is = let same : cell.One v ≡ x = cc in subst (λ (y : Cell). cell_text y ≡ raw) same (one refl v refl)

pub own_one : (e : Elem) (raw : List ℕ) → is_text e ≡ false → has_none raw → ((v : Value) → value_read e raw ≡ Some v → cell_text (cell.One v) ≡ raw) → IsOwnText (kind.One e) raw
unfolding cell_read
own_one e raw plain none own marks usual x is =
    own_by (bytes_eq raw marks.unset) (set_read marks e raw) x raw
    (λ same. sym ((bytes_eq-Decides raw marks.unset).0 same ∙ usual.unset))
    (λ set v read. own v (sym (set_plain marks e raw plain none) ∙ read)) is

pub mapped_by : {X : Type 0} (f : X → Value) (o : Option X) (v : Value) (raw : List ℕ) → ((x : X) → o ≡ Some x → cell_text (cell.One (f x)) ≡ raw) → option_map f o ≡ Some v → cell_text (cell.One v) ≡ raw
mapped_by f None v raw own is = absurd cc
mapped_by f (Some x) v raw own is = let same : f x ≡ v = cc in subst (λ (y : Value). cell_text (cell.One y) ≡ raw) same (own x refl)

-- Numbers

pub up_to_number : (most : ℕ) (o : Option ℕ) (x : ℕ) → option_and_then (if_at_most most) o ≡ Some x → (o ≡ Some x) × (x ≤ most)
up_to_number most None x is = absurd cc
up_to_number most (Some y) x is =
    elim (cases_Bool (leb y most)) [
      | inl within ↦ let same : Some y ≡ Some x = rw within at is in (same, (let e : y ≡ x = cc in subst (λ (n : ℕ). n ≤ most) e (leb-true y most within)))
      | inr over ↦ let none : None ≡ Some x = rw over at is in absurd cc
    ]

-- a number that was read of digits without a leading zero
pub read_own : (most : ℕ) (ds : List ℕ) (x : ℕ) → most < 2 ^ 64 → list_all is_digit ds ≡ true → HasNoLeadingZero ds → number_up_to most ds ≡ Some x → decimal x ≡ ds
read_own most ds x few all lone is =
    let read = up_to_number most (number_of ds) x is in
    decimal-digits ds x all lone read.0 (omega (arith, read.1, few))

pub count_own : (ds : List ℕ) → list_all is_digit ds ≡ true → HasNoLeadingZero ds → IsOwnText (kind.One elem.Count) ds
unfolding value_read value_text cell_text
count_own ds all lone =
    own_one elem.Count ds refl (digits_none 92 ds (omega arith) all)
    (λ v is. mapped_by value.Count (number_up_to (2 ^ 64 - 1) ds) v ds (λ x read. read_own (2 ^ 64 - 1) ds x (omega arith) all lone read) is)

signed_number : (o : Option ℕ) (z : ℤ) → option_and_then (if_i64 false) o ≡ Some z → (x : ℕ) × ((o ≡ Some x) × ((x ≤ 2 ^ 63 - 1) × (z ≡ pos x)))
signed_number None z is = absurd cc
signed_number (Some x) z is =
    elim (cases_Bool (leb x (2 ^ 63 - 1))) [
      | inl within ↦ let same : Some (pos x) ≡ Some z = rw within at is in (x, (refl, (leb-true x (2 ^ 63 - 1) within, (let e : z ≡ pos x = cc in e))))
      | inr over ↦ let none : None ≡ Some z = rw over at is in absurd cc
    ]

digits_int : (ds : List ℕ) → list_all is_digit ds ≡ true → int_of ds ≡ option_and_then (if_i64 false) (number_of ds)
digits_int [] all = refl
digits_int (d ∷ ds) all =
    let sign = no_sign (d ∷ ds) [] all (omega arith) in
    let other : eqb d 45 ≡ false = sign.0 in
    rw other refl

int_text : (ds : List ℕ) (z : ℤ) → list_all is_digit ds ≡ true → HasNoLeadingZero ds → int_of ds ≡ Some z → signed_decimal z ≡ ds
int_text ds z all lone is =
    let read = signed_number (number_of ds) z (sym (digits_int ds all) ∙ is) in
    ap signed_decimal read.1.1.1 ∙ decimal-digits ds read.0 all lone read.1.0 (omega (arith, read.1.1.0))

pub int_own : (ds : List ℕ) → list_all is_digit ds ≡ true → HasNoLeadingZero ds → IsOwnText (kind.One elem.Int) ds
unfolding value_read value_text cell_text
int_own ds all lone =
    own_one elem.Int ds refl (digits_none 92 ds (omega arith) all)
    (λ v is. mapped_by value.Int (int_of ds) v ds (λ z read. int_text ds z all lone read) is)

port_number : (o : Option ℕ) (p : ℕ × Transport) → option_and_then (λ (number : ℕ). Some (number, Unknown)) o ≡ Some p → (o ≡ Some p.0) × (p.1 ≡ Unknown)
port_number None p is = absurd cc
port_number (Some x) p is = let same : (let pair : ℕ × Transport = (x, Unknown) in pair) ≡ p = cc in (ap (λ (q : ℕ × Transport). Some q.0) same, sym (ap (λ (q : ℕ × Transport). q.1) same))

port_own_text : (ds : List ℕ) (p : ℕ × Transport) → list_all is_digit ds ≡ true → HasNoLeadingZero ds → port_of ds ≡ Some p → port_text p.0 p.1 ≡ ds
port_own_text ds p all lone is =
    let read = port_number (number_up_to 65535 ds) p (sym (port_is ds all) ∙ is) in
    ap (λ (t : Transport). port_text p.0 t) read.1 ∙ append-nil (decimal p.0) ∙ read_own 65535 ds p.0 (omega arith) all lone read.0

pub port_own : (ds : List ℕ) → list_all is_digit ds ≡ true → HasNoLeadingZero ds → IsOwnText (kind.One elem.Port) ds
unfolding value_read value_text cell_text
port_own ds all lone =
    own_one elem.Port ds refl (digits_none 92 ds (omega arith) all)
    (λ v is. mapped_by (λ p. value.Port p.0 p.1) (port_of ds) v ds (λ p read. port_own_text ds p all lone read) is)

pub no_leading : (text : List ℕ) (count : ℕ) → count ≤ length text → (count ≡ 1) ⊎ (get_or text 0 0 ≡ 48 → ⊥) → HasNoLeadingZero (take count text)
no_leading [] zero within is zero_first = absurd cc
no_leading [] (suc count) within is zero_first = absurd (omega arith)
no_leading (b ∷ bs) zero within is zero_first = absurd cc
no_leading (b ∷ bs) (suc count) within (inl one) zero_first = length-take-le (suc count) (b ∷ bs) within ∙ one
no_leading (b ∷ bs) (suc count) within (inr other) zero_first = absurd (other zero_first)

-- Times

last_own : (n : ℕ) (ds : List ℕ) (m : ℕ) → list_all is_digit ds ≡ true → number_behind n ds ≡ Some m → last_digits (length ds) m ≡ ds
last_own n [] m all is = refl
last_own n (d ∷ ds) m all is =
    let both = and_parts (is_digit d) (list_all is_digit ds) all in
    let bounds = digit_bounds d both.0 in
    let next : number_behind (n * 10 + (d - 48)) ds ≡ Some m = sym (cond-true (is_digit d) (number_behind (n * 10 + (d - 48)) ds) None both.0) ∙ is in
    let read = digits_read (n * 10 + (d - 48)) ds both.1 in
    let same : read.number ≡ m = some_same (sym read.is ∙ next) in
    let power : 0 < 10 ^ length ds = one-le-pow (length ds) 10 (omega arith) in
    let low : n * 10 + (d - 48) ≤ m / 10 ^ length ds = le-div (n * 10 + (d - 48)) m (10 ^ length ds) power (subst (λ (k : ℕ). (n * 10 + (d - 48)) * 10 ^ length ds ≤ k) same read.from) in
    let high : m / 10 ^ length ds < n * 10 + (d - 48) + 1 = div_below m (10 ^ length ds) (n * 10 + (d - 48) + 1) power (subst (λ (k : ℕ). k < (n * 10 + (d - 48) + 1) * 10 ^ length ds) same read.below) in
    let digit : 48 + m / 10 ^ length ds % 10 ≡ d = omega (arith, low, high) in
    ap₂ (λ (b : ℕ) (l : List ℕ). b ∷ l) digit (last_own (n * 10 + (d - 48)) ds m both.1 next)

-- the fraction of six decimals
six_text : (f : ℕ) (fs : List ℕ) → list_all is_digit fs ≡ true → length fs ≡ 6 → number_behind 0 fs ≡ Some f → fraction_text (f * 1000) ≡ fs
six_text f fs all six is =
    let whole : f * 1000 % 1000 ≡ 0 = omega arith in
    let back : f * 1000 / 1000 ≡ f = omega arith in
    cond-true (eqb (f * 1000 % 1000) 0) (last_digits 6 (f * 1000 / 1000)) (last_digits 9 (f * 1000)) (eq-eqb (f * 1000 % 1000) 0 whole)
    ∙ ap (last_digits 6) back ∙ ap (λ (k : ℕ). last_digits k f) (sym six) ∙ last_own 0 fs f all is

seconds_own : (w f : ℕ) (ds fs : List ℕ) → decimal w ≡ ds → fraction_text (f * 1000) ≡ fs → f < 10 ^ 6 → seconds_text (w * 10 ^ 9 + f * 1000) ≡ ds ++ 46 ∷ fs
seconds_own w f ds fs whole part small =
    let high : (w * 10 ^ 9 + f * 1000) / 10 ^ 9 ≡ w = omega arith in
    let low : (w * 10 ^ 9 + f * 1000) % 10 ^ 9 ≡ f * 1000 = omega arith in
    ap₂ (λ (h l : ℕ). decimal h ++ 46 ∷ fraction_text l) high low ∙ ap₂ (λ (h l : List ℕ). h ++ 46 ∷ l) whole part

span_own_text : (ds fs : List ℕ) (z : ℤ) → list_all is_digit ds ≡ true → 0 < length ds → length ds ≤ 16 → HasNoLeadingZero ds → list_all is_digit fs ≡ true → length fs ≡ 6 → span_of (ds ++ 46 ∷ fs) ≡ Some z → span_text z ≡ ds ++ 46 ∷ fs
unfolding span_text
span_own_text ds fs z all some few lone behind six is =
    let whole = digits_read 0 ds all in
    let part = digits_read 0 fs behind in
    let power : 10 ^ length ds ≤ 10 ^ 16 = ten_pow (length ds) 16 few in
    let tens : 10 ^ length fs ≡ 10 ^ 6 = ap (λ (n : ℕ). 10 ^ n) six in
    let sum : ℕ = whole.number * 10 ^ 9 + part.number * 1000 in
    let number : number_of ds ≡ Some whole.number = number_some ds some ∙ whole.is in
    let scale : part.number * 10 ^ (9 - length fs) ≡ part.number * 1000 = ap (λ (n : ℕ). part.number * 10 ^ (9 - n)) six in
    let fraction : fraction_of fs ≡ Some (part.number * 1000) = six_fraction fs part.number six part.is ∙ ap (λ (n : ℕ). Some n) scale in
    let nano : nanoseconds_of (ds ++ 46 ∷ fs) ≡ Some sum = nano_parts ds fs whole.number (part.number * 1000) all number fraction in
    let sign = no_sign ds (46 ∷ fs) all some in
    let spelled : option_and_then (if_i64 false) (Some sum) ≡ Some z =
    sym (ap₂ (λ (b : Bool) (t : List ℕ). option_and_then (if_i64 b) (nanoseconds_of t)) sign.0 sign.1 ∙ ap (option_and_then (if_i64 false)) nano) ∙ is in
    let read = signed_number (Some sum) z spelled in
    let same : sum ≡ read.0 = some_same read.1.0 in
    ap span_text (read.1.1.1 ∙ ap pos (sym same))
    ∙ seconds_own whole.number part.number ds fs (decimal-digits ds whole.number all lone number (omega (arith, whole.below, power))) (six_text part.number fs behind six part.is) (omega (arith, part.below, tens))
  where
    six_fraction : (fs : List ℕ) (f : ℕ) → length fs ≡ 6 → number_behind 0 fs ≡ Some f → fraction_of fs ≡ Some (f * 10 ^ (9 - length fs))
    six_fraction fs f six is = rw (le-leb (length fs) 9 (omega arith), is) refl

pub seconds_own_read : (text : List ℕ) (whole count : ℕ) → AreSeconds text whole count → HasNoLeadingZero (take whole text) → count ≡ whole + 7 → IsOwnText (kind.One elem.Time) (take count text) × IsOwnText (kind.One elem.Span) (take count text)
unfolding value_read value_text cell_text
seconds_own_read text whole count s lone six =
    let parts = seconds_parts text whole count s in
    let raw : List ℕ = take count text in
    let ds : List ℕ = take whole text in
    let fs : List ℕ = take (count - (whole + 1)) (drop (whole + 1) text) in
    let read = seconds_read text whole count s in
    let some : 0 < length ds = omega (arith, parts.long, s.some) in
    let few : length ds ≤ 16 = omega (arith, parts.long, s.few) in
    let short : length fs ≡ 6 = omega (arith, parts.rest) in
    let own : (z : ℤ) → span_of raw ≡ Some z → span_text z ≡ raw = λ z is. span_own_text ds fs z s.digits some few lone s.decimals short (sym (ap span_of parts.is) ∙ is) ∙ sym parts.is in (
      own_one elem.Time raw refl read.1 (λ v is. mapped_by value.Time (span_of raw) v raw own is),
      own_one elem.Span raw refl read.1 (λ v is. mapped_by value.Span (span_of raw) v raw own is),
    )

-- Bools

true_own : (v : Value) → option_map value.Bool (bool_of (84 ∷ [])) ≡ Some v → cell_text (cell.One v) ≡ 84 ∷ []
unfolding value_text cell_text
true_own v is = mapped_by value.Bool (Some true) v (84 ∷ []) (λ b read. let same : true ≡ b = cc in subst (λ (t : Bool). cell_text (cell.One (value.Bool t)) ≡ 84 ∷ []) same refl) is

false_own : (v : Value) → option_map value.Bool (bool_of (70 ∷ [])) ≡ Some v → cell_text (cell.One v) ≡ 70 ∷ []
unfolding value_text cell_text
false_own v is = mapped_by value.Bool (Some false) v (70 ∷ []) (λ b read. let same : false ≡ b = cc in subst (λ (t : Bool). cell_text (cell.One (value.Bool t)) ≡ 70 ∷ []) same refl) is

pub bool_own : (text : List ℕ) → 1 ≤ length text → (get_or text 0 0 ≡ 84) ⊎ (get_or text 0 0 ≡ 70) → IsOwnText (kind.One elem.Bool) (take 1 text)
unfolding value_read
bool_own [] some is = absurd (omega arith)
bool_own (b ∷ bs) some (inl is_t) = subst (λ (x : ℕ). IsOwnText (kind.One elem.Bool) (x ∷ [])) (sym is_t) (own_one elem.Bool (84 ∷ []) refl refl true_own)
bool_own (b ∷ bs) some (inr is_f) = subst (λ (x : ℕ). IsOwnText (kind.One elem.Bool) (x ∷ [])) (sym is_f) (own_one elem.Bool (70 ∷ []) refl refl false_own)
