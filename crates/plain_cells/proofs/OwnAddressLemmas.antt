-- Dotted addresses that are written as they were read.
use Rattle.std.proofs.Common.{◌≡◌, ℕ, ◌+◌, ◌*◌, ◌/◌, ◌%◌, ◌^◌, ◌≤◌, true, leb, List, [], ◌∷◌, ◌++◌, Option, None, Some, length, take, refl, ap, ap₂, sym, ◌∙◌, arith, inl, inr}
use Rattle.std.specs.Prelude.{IsSome}
use Rattle.std.specs.Fmt.{decimal}
use Rattle.std.proofs.lemmas.Bool.{cases_Bool, cond-true, eq-eqb}
use Rattle.std.proofs.lemmas.List.{append-nil}
use Rattle.std.specs.List.{list_all, join_by}
use Rattle.std.specs.Option.{option_map, option_or}
use Rattle.vast_value.specs.declared.kind.Elem.TheVariants as elem
use Rattle.vast_value.specs.declared.kind.Kind.TheVariants as kind
use Rattle.vast_value.specs.declared.value.Value.TheVariants as value
use Rattle.value_reading.specs.Addresses.{short_number, octets, dotted_of, address_of, mapped, grouped_of}
use Rattle.value_reading.specs.Numbers.{is_digit, number_of, number_up_to}
use Rattle.value_reading.specs.Reading.{value_read}
use Rattle.value_writing.specs.Writing.{octets_of, dotted_text, is_mapped, groups_of, grouped_text, address_text, value_text, cell_text}
use Rattle.plain_cells.specs.Octets.{AreOctets}
use Rattle.plain_cells.specs.Own.{IsOwnText, HasNoLeadingZero}
use Rattle.plain_cells.proofs.OctetLemmas.{part_of, four, dotted_parts, dotted_split, dotted_read}
use Rattle.plain_cells.proofs.OwnLemmas.{up_to_number, read_own, own_one, mapped_by}

record OwnOctet (ds : List ℕ) : Type 0 where
  number : ℕ
  is : short_number 255 ds ≡ Some number
  below : number ≤ 255
  text : decimal number ≡ ds

octet_by : (ds : List ℕ) (x : ℕ) → list_all is_digit ds ≡ true → HasNoLeadingZero ds → short_number 255 ds ≡ Some x → OwnOctet ds
octet_by ds x all lone is =
    elim (cases_Bool (leb (length ds) 3)) [
      | inl few ↦
          let read : number_up_to 255 ds ≡ Some x = sym (cond-true (leb (length ds) 3) (number_up_to 255 ds) None few) ∙ is in
          record { number = x; is = is; below = (up_to_number 255 (number_of ds) x read).1; text = read_own 255 ds x (omega arith) all lone read }
      | inr long ↦ let none : None ≡ Some x = rw long at is in absurd cc
    ]

octet_own : (ds : List ℕ) (o : Option ℕ) → list_all is_digit ds ≡ true → HasNoLeadingZero ds → short_number 255 ds ≡ o → IsSome o → OwnOctet ds
octet_own ds None all lone is some = absurd cc
octet_own ds (Some x) all lone is some = octet_by ds x all lone is

four_text : (a b c d : ℕ) (w x y z : List ℕ) → a ≤ 255 → b ≤ 255 → c ≤ 255 → d ≤ 255 → decimal a ≡ w → decimal b ≡ x → decimal c ≡ y → decimal d ≡ z → address_text (mapped (((a * 256 + b) * 256 + c) * 256 + d)) ≡ four w x y z
unfolding dotted_text
four_text a b c d w x y z low_a low_b low_c low_d is_a is_b is_c is_d =
    let n : ℕ = ((a * 256 + b) * 256 + c) * 256 + d in
    let high : (65535 * 2 ^ 32 + n) / 2 ^ 32 ≡ 65535 = omega arith in
    let low : (65535 * 2 ^ 32 + n) % 2 ^ 32 ≡ n = omega arith in
    let is_1 : n / 2 ^ 24 % 256 ≡ a = omega arith in
    let is_2 : n / 2 ^ 16 % 256 ≡ b = omega arith in
    let is_3 : n / 2 ^ 8 % 256 ≡ c = omega arith in
    let is_4 : n % 256 ≡ d = omega arith in
    let parts : octets_of n ≡ a ∷ (b ∷ (c ∷ (d ∷ []))) =
    ap (λ (k : ℕ). k ∷ (n / 2 ^ 16 % 256 ∷ (n / 2 ^ 8 % 256 ∷ (n % 256 ∷ [])))) is_1
    ∙ ap (λ (k : ℕ). a ∷ (k ∷ (n / 2 ^ 8 % 256 ∷ (n % 256 ∷ [])))) is_2 ∙ ap (λ (k : ℕ). a ∷ (b ∷ (k ∷ (n % 256 ∷ [])))) is_3 ∙ ap (λ (k : ℕ). a ∷ (b ∷ (c ∷ (k ∷ [])))) is_4 in
    cond-true (is_mapped (mapped n)) (dotted_text (mapped n % 2 ^ 32)) (grouped_text (groups_of (mapped n))) (eq-eqb (mapped n / 2 ^ 32) 65535 high)
    ∙ ap dotted_text low
    ∙ ap (join_by decimal (46 ∷ [])) parts
    ∙ ap₂ (λ (h t : List ℕ). h ++ 46 ∷ t) is_a (ap₂ (λ (h t : List ℕ). h ++ 46 ∷ t) is_b (ap₂ (λ (h t : List ℕ). h ++ 46 ∷ t) is_c (append-nil (decimal d) ∙ is_d)))

octets_is : (w x y z : List ℕ) (a b c d : ℕ) → short_number 255 w ≡ Some a → short_number 255 x ≡ Some b → short_number 255 y ≡ Some c → short_number 255 z ≡ Some d
    → octets (w ∷ (x ∷ (y ∷ (z ∷ [])))) ≡ Some (((a * 256 + b) * 256 + c) * 256 + d)
octets_is w x y z a b c d is_a is_b is_c is_d = rw (is_a, is_b, is_c, is_d) refl

pub address_own : (text : List ℕ) (a b c end : ℕ) → AreOctets text a b c end → HasNoLeadingZero (part_of text 0 a) → HasNoLeadingZero (part_of text (a + 1) b)
    → HasNoLeadingZero (part_of text (b + 1) c) → HasNoLeadingZero (part_of text (c + 1) end) → IsOwnText (kind.One elem.Addr) (take end text)
unfolding value_read value_text cell_text
address_own text a b c end o lone_a lone_b lone_c lone_d =
    let w : List ℕ = part_of text 0 a in
    let x : List ℕ = part_of text (a + 1) b in
    let y : List ℕ = part_of text (b + 1) c in
    let z : List ℕ = part_of text (c + 1) end in
    let raw : List ℕ = take end text in
    let is_a = octet_own w (short_number 255 w) o.first.digits lone_a refl o.first.number in
    let is_b = octet_own x (short_number 255 x) o.second.digits lone_b refl o.second.number in
    let is_c = octet_own y (short_number 255 y) o.third.digits lone_c refl o.third.number in
    let is_d = octet_own z (short_number 255 z) o.last.digits lone_d refl o.last.number in
    let n : ℕ = ((is_a.number * 256 + is_b.number) * 256 + is_c.number) * 256 + is_d.number in
    let parts : raw ≡ four w x y z = dotted_parts text a b c end o in
    let dotted : dotted_of (four w x y z) ≡ Some n = ap octets (dotted_split text a b c end o) ∙ octets_is w x y z is_a.number is_b.number is_c.number is_d.number is_a.is is_b.is is_c.is is_d.is in
    let address : address_of raw ≡ Some (mapped n) = ap address_of parts ∙ ap (λ (m : Option ℕ). option_or (option_map mapped m) (grouped_of (four w x y z))) dotted in
    let text_is : address_text (mapped n) ≡ raw = four_text is_a.number is_b.number is_c.number is_d.number w x y z is_a.below is_b.below is_c.below is_d.below is_a.text is_b.text is_c.text is_d.text ∙ sym parts in
    own_one elem.Addr raw refl (dotted_read text a b c end o).1
    (λ v is. mapped_by value.Addr (address_of raw) v raw (λ k read. let same : mapped n ≡ k = some_is (sym address ∙ read) in ap address_text (sym same) ∙ text_is) is)
  where
    some_is : {j k : ℕ} → Some j ≡ Some k → j ≡ k
    some_is e = cc
