-- Texts that were written are read again.
use Rattle.std.proofs.Common.{◌≡◌, ℕ, ◌+◌, ◌*◌, ◌/◌, ◌%◌, ◌<◌, ◌≤◌, Bool, true, false, not, eqb, List, [], ◌∷◌, ◌++◌, refl, ap, sym, ◌∙◌, subst, arith, inl, inr}
use Rattle.std.specs.Prelude.{codes, ◌==◌}
use Rattle.std.specs.List.{list_all, flat_map}
use Rattle.std.specs.Str.{bytes_eq}
use Rattle.std.proofs.lemmas.Bool.{cases_Bool, le-leb, lt-leb, lt-ltb, le-ltb, ltb-true, eqb-true, ne_eqb, cases_lt, false_from_ne_true, true≢false}
use Rattle.std.proofs.lemmas.Slice.Eq.{bytes_eq-Decides}
use Rattle.vast_value.specs.Fit.{is_byte}
use Rattle.value_writing.specs.declared.place.Place.{Place}
use Rattle.value_writing.specs.declared.place.Place.TheVariants as place
use Rattle.value_reading.specs.Addresses.{is_hexadecimal, digit_value}
use Rattle.value_reading.specs.Escapes.{unescaped}
use Rattle.value_writing.specs.Writing.{is_printable, hexadecimal, byte_escape, escaped_byte, byte_text, text_text}
use Rattle.value_reading.proofs.EscapeLemmas.{other_stays, backslash_twice}
use Rattle.value_writing.proofs.WritingNumbers.{both, all_append}

-- a hexadecimal digit is one, and has its value
pub digit_is : (d : ℕ) → d < 16 → is_hexadecimal (hexadecimal d) ≡ true
digit_is d h = elim (cases_lt d 10) [
  | inl low ↦ rw (lt-ltb d 10 low, le-leb 48 (48 + d) (omega arith), le-leb (48 + d) 57 (omega arith)) refl
  | inr high ↦ rw (le-ltb d 10 high, le-leb 48 (87 + d) (omega arith), lt-leb (87 + d) 57 (omega arith), le-leb 97 (87 + d) (omega arith), le-leb (87 + d) 102 (omega arith)) refl
]

pub digit_again : (d : ℕ) → d < 16 → digit_value (hexadecimal d) ≡ d
digit_again d h = elim (cases_lt d 10) [
  | inl low ↦ rw (lt-ltb d 10 low, le-leb 48 (48 + d) (omega arith), le-leb (48 + d) 57 (omega arith)) (omega arith)
  | inr high ↦ rw (le-ltb d 10 high, le-leb 48 (87 + d) (omega arith), lt-leb (87 + d) 57 (omega arith), le-leb 97 (87 + d) (omega arith)) (omega arith)
]

-- One byte

escape_again : (b : ℕ) (rest : List ℕ) → b < 256 → unescaped (byte_escape b ++ rest) ≡ b ∷ unescaped rest
escape_again b rest h =
    let high : b / 16 < 16 = omega arith in
    let low : b % 16 < 16 = omega arith in
    let whole : b / 16 * 16 + b % 16 ≡ b = omega arith in
    rw (digit_is (b / 16) high, digit_is (b % 16) low, digit_again (b / 16) high, digit_again (b % 16) low, whole) refl

escaped_again : (b : ℕ) (rest : List ℕ) → b < 256 → unescaped (escaped_byte b ++ rest) ≡ b ∷ unescaped rest
escaped_again b rest h = elim (cases_Bool (eqb b 92)) [
  | inl is ↦ rw is (backslash_twice rest ∙ ap (λ (x : ℕ). x ∷ unescaped rest) (sym (eqb-true b 92 is)))
  | inr other ↦ elim (cases_Bool (is_printable b)) [
    | inl shown ↦ rw (other, shown) (other_stays b rest other)
    | inr hidden ↦ rw (other, hidden) (escape_again b rest h)
  ]
]

byte_again : (place : Place) (b : ℕ) (rest : List ℕ) → b < 256 → unescaped (byte_text place b ++ rest) ≡ b ∷ unescaped rest
byte_again place.Whole b rest h = escaped_again b rest h
byte_again place.Element b rest h = elim (cases_Bool (eqb b 44)) [
  | inl is ↦ rw is (escape_again b rest h)
  | inr other ↦ rw other (escaped_again b rest h)
]

pub bytes_again : (place : Place) (t : List ℕ) → list_all is_byte t ≡ true → unescaped (flat_map (byte_text place) t) ≡ t
bytes_again place [] h = refl
bytes_again place (b ∷ bs) h =
    let a = both (is_byte b) (list_all is_byte bs) h in
    byte_again place b (flat_map (byte_text place) bs) (ltb-true b 256 a.0) ∙ ap (λ (x : List ℕ). b ∷ x) (bytes_again place bs a.1)

-- Whole texts

abbrev dash : List ℕ
dash = codes "-"

abbrev empty : List ℕ
empty = codes "(empty)"

-- text_text by its three cases
dash_text : (place : Place) (t : List ℕ) → bytes_eq t dash ≡ true → text_text place t ≡ codes "\\x2d"
dash_text place t h = rw h refl

empty_text : (place : Place) (t : List ℕ) → bytes_eq t dash ≡ false → bytes_eq t empty ≡ true → text_text place t ≡ codes "\\x28empty)"
empty_text place t h k = rw (h, k) refl

other_text : (place : Place) (t : List ℕ) → bytes_eq t dash ≡ false → bytes_eq t empty ≡ false → text_text place t ≡ flat_map (byte_text place) t
other_text place t h k = rw (h, k) refl

-- what holds of the two escaped marks, and of the escapes of any other text, holds of a text as it is written
text_by : (P : List ℕ → Type 0) (place : Place) (t : List ℕ) → P (codes "\\x2d") → P (codes "\\x28empty)")
    → (bytes_eq t dash ≡ false → bytes_eq t empty ≡ false → P (flat_map (byte_text place) t)) → P (text_text place t)
text_by P place t of_dash of_empty of_other = elim (cases_Bool (bytes_eq t dash)) [
  | inl is ↦ subst P (sym (dash_text place t is)) of_dash
  | inr other ↦ elim (cases_Bool (bytes_eq t empty)) [
    | inl is ↦ subst P (sym (empty_text place t other is)) of_empty
    | inr neither ↦ subst P (sym (other_text place t other neither)) (of_other other neither)
  ]
]

pub text_again : (place : Place) (t : List ℕ) → list_all is_byte t ≡ true → unescaped (text_text place t) ≡ t
text_again place t h = elim (cases_Bool (bytes_eq t dash)) [
  | inl is ↦ ap unescaped (dash_text place t is) ∙ sym ((bytes_eq-Decides t dash).0 is)
  | inr other ↦ elim (cases_Bool (bytes_eq t empty)) [
    | inl is ↦ ap unescaped (empty_text place t other is) ∙ sym ((bytes_eq-Decides t empty).0 is)
    | inr neither ↦ ap unescaped (other_text place t other neither) ∙ bytes_again place t h
  ]
]

-- an escape that is some text which escapes leave alone is an escape of that text
apart : (place : Place) (t text : List ℕ) → list_all is_byte t ≡ true → unescaped text ≡ text → bytes_eq t text ≡ false → bytes_eq (flat_map (byte_text place) t) text ≡ false
apart place t text h same differ = false_from_ne_true (bytes_eq (flat_map (byte_text place) t) text) (λ is.
    let e = (bytes_eq-Decides (flat_map (byte_text place) t) text).0 is in
    let back : t ≡ text = sym (bytes_again place t h) ∙ (ap unescaped e ∙ same) in
    true≢false (sym ((bytes_eq-Decides t text).1 back) ∙ differ))

pub text_no_dash : (place : Place) (t : List ℕ) → list_all is_byte t ≡ true → bytes_eq (text_text place t) dash ≡ false
text_no_dash place t h = text_by (λ x. bytes_eq x dash ≡ false) place t refl refl (λ other neither. apart place t dash h refl other)

pub text_no_empty : (place : Place) (t : List ℕ) → list_all is_byte t ≡ true → bytes_eq (text_text place t) empty ≡ false
text_no_empty place t h = text_by (λ x. bytes_eq x empty ≡ false) place t refl refl (λ other neither. apart place t empty h refl neither)

-- Commas

abbrev pub no_comma : ℕ → Bool
no_comma b = not (b == 44)

digit_no_comma : (d : ℕ) → no_comma (hexadecimal d) ≡ true
digit_no_comma d = elim (cases_lt d 10) [
  | inl low ↦ rw (lt-ltb d 10 low, ne_eqb (48 + d) 44 (λ e. omega arith)) refl
  | inr high ↦ rw (le-ltb d 10 high, ne_eqb (87 + d) 44 (λ e. omega arith)) refl
]

escape_no_comma : (b : ℕ) → list_all no_comma (byte_escape b) ≡ true
escape_no_comma b = rw (digit_no_comma (b / 16), digit_no_comma (b % 16)) refl

byte_no_comma : (b : ℕ) → list_all no_comma (byte_text place.Element b) ≡ true
byte_no_comma b = elim (cases_Bool (eqb b 44)) [
  | inl is ↦ rw is (escape_no_comma b)
  | inr other ↦ elim (cases_Bool (eqb b 92)) [
    | inl is ↦ rw (other, is) refl
    | inr plain ↦ elim (cases_Bool (is_printable b)) [
      | inl shown ↦ rw (other, plain, shown, other) refl
      | inr hidden ↦ rw (other, plain, hidden) (escape_no_comma b)
    ]
  ]
]

bytes_no_comma : (t : List ℕ) → list_all no_comma (flat_map (byte_text place.Element) t) ≡ true
bytes_no_comma [] = refl
bytes_no_comma (b ∷ bs) = all_append no_comma (byte_text place.Element b) (flat_map (byte_text place.Element) bs) (byte_no_comma b) (bytes_no_comma bs)

pub text_no_comma : (t : List ℕ) → list_all no_comma (text_text place.Element t) ≡ true
text_no_comma t = text_by (λ x. list_all no_comma x ≡ true) place.Element t refl refl (λ other neither. bytes_no_comma t)

-- Printable ASCII

printable : (b : ℕ) → 32 ≤ b → b < 127 → is_printable b ≡ true
printable b low high = rw (le-leb 32 b low, lt-ltb b 127 high) refl

digit_printable : (d : ℕ) → d < 16 → is_printable (hexadecimal d) ≡ true
digit_printable d h = elim (cases_lt d 10) [
  | inl low ↦ rw (lt-ltb d 10 low) (printable (48 + d) (omega arith) (omega arith))
  | inr high ↦ rw (le-ltb d 10 high) (printable (87 + d) (omega arith) (omega arith))
]

escape_printable : (b : ℕ) → b < 256 → list_all is_printable (byte_escape b) ≡ true
escape_printable b h = rw (digit_printable (b / 16) (omega arith), digit_printable (b % 16) (omega arith)) refl

escaped_printable : (b : ℕ) → b < 256 → list_all is_printable (escaped_byte b) ≡ true
escaped_printable b h = elim (cases_Bool (eqb b 92)) [
  | inl is ↦ rw is refl
  | inr other ↦ elim (cases_Bool (is_printable b)) [
    | inl shown ↦ rw (other, shown, shown) refl
    | inr hidden ↦ rw (other, hidden) (escape_printable b h)
  ]
]

byte_printable : (place : Place) (b : ℕ) → b < 256 → list_all is_printable (byte_text place b) ≡ true
byte_printable place.Whole b h = escaped_printable b h
byte_printable place.Element b h = elim (cases_Bool (eqb b 44)) [
  | inl is ↦ rw is (escape_printable b h)
  | inr other ↦ rw other (escaped_printable b h)
]

pub bytes_printable : (place : Place) (t : List ℕ) → list_all is_byte t ≡ true → list_all is_printable (flat_map (byte_text place) t) ≡ true
bytes_printable place [] h = refl
bytes_printable place (b ∷ bs) h =
    let a = both (is_byte b) (list_all is_byte bs) h in
    all_append is_printable (byte_text place b) (flat_map (byte_text place) bs) (byte_printable place b (ltb-true b 256 a.0)) (bytes_printable place bs a.1)

pub text_printable : (place : Place) (t : List ℕ) → list_all is_byte t ≡ true → list_all is_printable (text_text place t) ≡ true
text_printable place t h = text_by (λ x. list_all is_printable x ≡ true) place t refl refl (λ other neither. bytes_printable place t h)
