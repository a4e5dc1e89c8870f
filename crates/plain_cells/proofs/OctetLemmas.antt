-- Four octets with points between them.
use Rattle.std.proofs.Common.{◌≡◌, ℕ, ◌+◌, ◌-◌, ◌*◌, ◌^◌, ◌<◌, ◌≤◌, Bool, true, false, eqb, List, [], ◌∷◌, ◌++◌, Option, None, Some, length, take, drop, get_or, refl, ap, ap₂, sym, ◌∙◌, subst, arith, inl, inr, zero, suc, ◌/◌, cond, not, map}
use Rattle.std.proofs.Math.Nat.{div-div-eq-div-mul, pow-succ', zero-div}
use Rattle.plain_cells.proofs.LaneLemmas.{all_before, first_other}
use lib.Lanes.{mask_l}
use lib.Count.{count_trailing_zeros}
use Rattle.std.specs.Prelude.{IsSome}
use Rattle.std.proofs.lemmas.Bool.{and_parts, le-leb, cases_eq, or_from, or_parts, cond-false, ne_eqb}
use Rattle.std.proofs.lemmas.List.{length-take-le, length-drop, drop-map, drop-take}
use Rattle.std.proofs.lemmas.List.Folds.{list_any-append}
use Rattle.std.specs.List.{list_all, list_any, slice_split, prefix_len}
use Rattle.std.specs.Option.{option_map, option_and_then, option_or, is_some}
use Rattle.value_reading.specs.Addresses.{short_number, octets, dotted_of, address_of, mapped, grouped_of}
use Rattle.value_reading.specs.Numbers.{is_digit, is_point}
use Rattle.plain_cells.specs.Octets.{IsOctet, AreOctets}
use Rattle.plain_cells.proofs.DigitLemmas.{digit_bounds, digits_none, ten_pow, few_within, number_within, AreDigits}
use Rattle.plain_cells.proofs.ReadableLemmas.{has_none}
use Rattle.plain_cells.proofs.SecondLemmas.{parted, no_point}

-- One octet

two_digits : (ds : List ℕ) → list_all is_digit ds ≡ true → 0 < length ds → length ds ≤ 2 → IsSome (short_number 255 ds)
two_digits ds all some few =
    let power : 10 ^ length ds ≤ 10 ^ 2 = ten_pow (length ds) 2 few in
    rw (le-leb (length ds) 3 (omega arith)) (few_within 255 ds all some (omega arith))

three_digits : (text : List ℕ) → 3 ≤ length text → list_all is_digit (take 3 text) ≡ true → (get_or text 0 0 * 10 + get_or text 1 0) * 10 + get_or text 2 0 ≤ 5583 → IsSome (short_number 255 (take 3 text))
three_digits [] long all low = absurd (omega arith)
three_digits (a ∷ []) long all low = absurd (omega arith)
three_digits (a ∷ (b ∷ [])) long all low = absurd (omega arith)
three_digits (a ∷ (b ∷ (c ∷ rest))) long all low =
    let is_a = and_parts (is_digit a) (list_all is_digit (b ∷ (c ∷ []))) all in
    let is_b = and_parts (is_digit b) (list_all is_digit (c ∷ [])) is_a.1 in
    let is_c = and_parts (is_digit c) true is_b.1 in
    let from_a = digit_bounds a is_a.0 in
    let from_b = digit_bounds b is_b.0 in
    let from_c = digit_bounds c is_c.0 in
    number_within 255 (a ∷ (b ∷ (c ∷ []))) (((0 * 10 + (a - 48)) * 10 + (b - 48)) * 10 + (c - 48)) (omega arith)
    (rw (is_a.0, is_b.0, is_c.0) refl) (omega arith)

pub octet_number : (text : List ℕ) (count : ℕ) → 3 ≤ length text → 0 < count → count ≤ 3 → list_all is_digit (take count text) ≡ true
    → (count ≡ 3 → (get_or text 0 0 * 10 + get_or text 1 0) * 10 + get_or text 2 0 ≤ 5583) → IsSome (short_number 255 (take count text))
octet_number text count long some few all low =
    elim (cases_eq count 3) [
      | inl three ↦
          subst (λ (n : ℕ). IsSome (short_number 255 (take n text))) (sym three)
          (three_digits text long (subst (λ (n : ℕ). list_all is_digit (take n text) ≡ true) three all) (low three))
      | inr other ↦
          let short : length (take count text) ≡ count = length-take-le count text (omega arith) in
          two_digits (take count text) all (omega (arith, short)) (omega (arith, short, other))
    ]

-- Four octets

pub split_front : (p : ℕ → Bool) (xs : List ℕ) (y : ℕ) (ys : List ℕ) → list_any p xs ≡ false → p y ≡ true → slice_split p (xs ++ y ∷ ys) ≡ xs ∷ slice_split p ys
split_front p [] y ys none here = rw here refl
split_front p (x ∷ xs) y ys none here =
    let both = or_parts (p x) (list_any p xs) none in
    rw (both.0, split_front p xs y ys both.1 here) refl

pub split_whole : (p : ℕ → Bool) (xs : List ℕ) → list_any p xs ≡ false → slice_split p xs ≡ xs ∷ []
split_whole p [] none = refl
split_whole p (x ∷ xs) none =
    let both = or_parts (p x) (list_any p xs) none in
    rw (both.0, split_whole p xs both.1) refl

octets_some : (a b c d : Option ℕ) → IsSome a → IsSome b → IsSome c → IsSome d
    → IsSome (option_and_then (λ a. option_and_then (λ b. option_and_then (λ c. option_map (λ d. ((a * 256 + b) * 256 + c) * 256 + d) d) c) b) a)
octets_some None b c d x y z w = x
octets_some (Some a) None c d x y z w = y
octets_some (Some a) (Some b) None d x y z w = z
octets_some (Some a) (Some b) (Some c) None x y z w = w
octets_some (Some a) (Some b) (Some c) (Some d) x y z w = refl

abbrev pub four : List ℕ → List ℕ → List ℕ → List ℕ → List ℕ
four a b c d = a ++ 46 ∷ (b ++ 46 ∷ (c ++ 46 ∷ d))

four_split : (a b c d : List ℕ) → list_all is_digit a ≡ true → list_all is_digit b ≡ true → list_all is_digit c ≡ true → list_all is_digit d ≡ true
    → slice_split is_point (four a b c d) ≡ a ∷ (b ∷ (c ∷ (d ∷ [])))
four_split a b c d is_a is_b is_c is_d =
    split_front is_point a 46 (b ++ 46 ∷ (c ++ 46 ∷ d)) (no_point a is_a) refl
    ∙ ap (λ (l : List (List ℕ)). a ∷ l) (split_front is_point b 46 (c ++ 46 ∷ d) (no_point b is_b) refl
    ∙ ap (λ (l : List (List ℕ)). b ∷ l) (split_front is_point c 46 d (no_point c is_c) refl
    ∙ ap (λ (l : List (List ℕ)). c ∷ l) (split_whole is_point d (no_point d is_d))))

address_some : (n g : Option ℕ) → IsSome n → IsSome (option_or (option_map mapped n) g)
address_some None g some = absurd cc
address_some (Some n) g some = refl

no_backslash : (ds rest : List ℕ) → list_all is_digit ds ≡ true → has_none rest → has_none (ds ++ 46 ∷ rest)
no_backslash ds rest all none =
    list_any-append (λ b. eqb b 92) ds (46 ∷ rest) ∙ or_from (list_any (λ b. eqb b 92) ds) (list_any (λ b. eqb b 92) (46 ∷ rest)) (digits_none 92 ds (omega arith) all) none

-- a part of a text
abbrev pub part_of : List ℕ → ℕ → ℕ → List ℕ
part_of text from to = take (to - from) (drop from text)

pub dotted_parts : (text : List ℕ) (a b c end : ℕ) → AreOctets text a b c end → take end text ≡ four (part_of text 0 a) (part_of text (a + 1) b) (part_of text (b + 1) c) (part_of text (c + 1) end)
dotted_parts text a b c end o =
    let low_b : a + 1 < b = o.second.some in
    let low_c : b + 1 < c = o.third.some in
    let low_d : c + 1 < end = o.last.some in
    let all : end ≡ end - 0 = omega arith in
    ap (λ (n : ℕ). take n text) all ∙ parted text 0 a end 46 (omega arith) (omega arith) o.within o.first_point
    ∙ ap (λ (l : List ℕ). part_of text 0 a ++ 46 ∷ l) (parted text (a + 1) b end 46 (omega arith) (omega arith) o.within o.second_point
    ∙ ap (λ (l : List ℕ). part_of text (a + 1) b ++ 46 ∷ l) (parted text (b + 1) c end 46 (omega arith) (omega arith) o.within o.third_point))

pub dotted_split : (text : List ℕ) (a b c end : ℕ) → AreOctets text a b c end
    → slice_split is_point (four (part_of text 0 a) (part_of text (a + 1) b) (part_of text (b + 1) c) (part_of text (c + 1) end)) ≡ part_of text 0 a ∷ (part_of text (a + 1) b ∷ (part_of text (b + 1) c ∷ (part_of text (c + 1) end ∷ [])))
dotted_split text a b c end o =
    four_split (part_of text 0 a) (part_of text (a + 1) b) (part_of text (b + 1) c) (part_of text (c + 1) end) o.first.digits o.second.digits o.third.digits o.last.digits

pub dotted_read : (text : List ℕ) (a b c end : ℕ) → AreOctets text a b c end → IsSome (address_of (take end text)) × has_none (take end text)
dotted_read text a b c end o =
    let w : List ℕ = part_of text 0 a in
    let x : List ℕ = part_of text (a + 1) b in
    let y : List ℕ = part_of text (b + 1) c in
    let z : List ℕ = part_of text (c + 1) end in
    let parts : take end text ≡ four w x y z = dotted_parts text a b c end o in
    let some : IsSome (dotted_of (four w x y z)) =
    ap (λ (l : List (List ℕ)). is_some (octets l)) (dotted_split text a b c end o)
    ∙ octets_some (short_number 255 w) (short_number 255 x) (short_number 255 y) (short_number 255 z) o.first.number o.second.number o.third.number o.last.number in
    let none : has_none (four w x y z) =
    no_backslash w (x ++ 46 ∷ (y ++ 46 ∷ z)) o.first.digits (no_backslash x (y ++ 46 ∷ z) o.second.digits (no_backslash y z o.third.digits (digits_none 92 z (omega arith) o.last.digits))) in (
      subst (λ (l : List ℕ). IsSome (address_of l)) (sym parts) (address_some (dotted_of (four w x y z)) (grouped_of (four w x y z)) some),
      subst (λ (l : List ℕ). has_none l) (sym parts) none,
    )

-- the bits of a mask from so many on
mask_drop : (k : ℕ) (ms : List Bool) → mask_l ms / 2 ^ k ≡ mask_l (drop k ms)
mask_drop zero ms = omega arith
mask_drop (suc k) [] = zero-div (2 ^ suc k)
mask_drop (suc k) (b ∷ bs) =
    let m : ℕ = mask_l bs in
    let power : 2 ^ suc k ≡ 2 * 2 ^ k = pow-succ' 2 k in
    elim b as (λ t. (cond t 1 0 + 2 * m) / 2 ^ suc k ≡ mask_l (drop k bs)) [
      | true ↦
          let half : (1 + 2 * m) / 2 ≡ m = omega arith in
          ap (λ (n : ℕ). (1 + 2 * m) / n) power ∙ sym (div-div-eq-div-mul (1 + 2 * m) 2 (2 ^ k)) ∙ ap
          (λ (h : ℕ). h / 2 ^ k) half
          ∙ mask_drop k bs
      | false ↦
          let half : (0 + 2 * m) / 2 ≡ m = omega arith in
          ap (λ (n : ℕ). (0 + 2 * m) / n) power ∙ sym (div-div-eq-div-mul (0 + 2 * m) 2 (2 ^ k)) ∙ ap
          (λ (h : ℕ). h / 2 ^ k) half
          ∙ mask_drop k bs
    ]

abbrev others_of : List ℕ → ℕ
others_of bytes = mask_l (map (λ b. not (is_digit b)) bytes)

pub marks_behind : (others : ℕ) (text : List ℕ) (at : ℕ) → at < 16
    → others ≡ mask_l (map (λ b. not (is_digit b)) (take 16 text))
    → others / 2 ^ at ≡ mask_l (map (λ b. not (is_digit b)) (take (16 - at) (drop at text)))
marks_behind others text at few is =
    let parts : 16 ≡ at + (16 - at) = omega arith in
    ap (λ (m : ℕ). m / 2 ^ at) is ∙ mask_drop at (map (λ b. not (is_digit b)) (take 16 text))
    ∙ ap mask_l (drop-map (λ b. not (is_digit b)) at (take 16 text))
    ∙ ap (λ (n : ℕ). others_of (drop at (take n text))) parts ∙ ap others_of (drop-take at (16 - at) text)

no_trailing : count_trailing_zeros 64 0 ≡ 64
unfolding count_trailing_zeros
no_trailing = refl

-- the digits before the first mark
pub octet_marks : (text rest : List ℕ) (at others count : ℕ)
    → others ≡ mask_l (map (λ b. not (is_digit b)) (take (16 - at) (drop at text)))
    → rest ≡ drop at text → at + 16 ≤ length text → at < 16 → count ≡ count_trailing_zeros 64 others → count ≤ 3
    → AreDigits rest count
octet_marks text rest at others count marks back room few is low =
    let v : List ℕ = take (16 - at) rest in
    let same : others ≡ others_of v = marks ∙ ap (λ (l : List ℕ). others_of (take (16 - at) l)) (sym back) in
    let all : length rest ≡ length text - at = ap length back ∙ length-drop at text in
    let long : length v ≡ 16 - at = length-take-le (16 - at) rest (omega (arith, all)) in
    let led : count ≤ prefix_len is_digit v =
    elim (cases_eq others 0) [
      | inl none ↦
          let past : count ≡ 64 = is ∙ ap (count_trailing_zeros 64) none ∙ no_trailing in
          absurd (omega (arith, past, low))
      | inr some ↦
          let first = sym (cond-false (eqb others 0) (16 - at) (count_trailing_zeros 64 others) (ne_eqb others 0 some))
          ∙ first_other is_digit v (16 - at) others long (omega arith) same in
          omega (arith, is, first)
    ] in
    record { digits = all_before is_digit (16 - at) count rest led; long = length-take-le count rest (omega (arith, all)) }

pub octet_led : (text rest : List ℕ) (at led : ℕ) → at + 16 ≤ length text → rest ≡ drop at text → AreDigits rest led → 0 < led → led ≤ 3
    → (led ≡ 3 → (get_or rest 0 0 * 10 + get_or rest 1 0) * 10 + get_or rest 2 0 ≤ 5583) → IsOctet text at (at + led)
octet_led text rest at led room back digits some few low =
    let count : led ≡ at + led - at = omega arith in
    let long : length rest ≡ length text - at = ap length back ∙ length-drop at text in
    let same : take led rest ≡ take (at + led - at) (drop at text) = ap₂ (λ (n : ℕ) (l : List ℕ). take n l) count back in
    record {
      some = omega arith;
      few = omega arith;
      digits = subst (λ (l : List ℕ). list_all is_digit l ≡ true) same digits.digits;
      number = subst (λ (l : List ℕ). IsSome (short_number 255 l)) same (octet_number rest led (omega arith) some few digits.digits low);
    }
