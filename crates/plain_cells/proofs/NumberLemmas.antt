-- What digits read as.
use Rattle.std.proofs.Common.{◌≡◌, ℕ, ◌+◌, ◌-◌, ◌*◌, ◌^◌, Bool, true, false, ◌&&◌, cond, eqb, List, [], ◌∷◌, Option, None, Some, refl, ap, ◌∙◌, arith}
use Rattle.std.proofs.lemmas.Bool.{and_parts, ne_eqb}
use Rattle.std.specs.List.{list_all}
use Rattle.std.specs.Option.{option_map, option_and_then}
use Rattle.std.specs.Str.{bytes_eq}
use Rattle.vast_value.specs.declared.kind.Elem.{Elem}
use Rattle.vast_value.specs.declared.kind.Elem.TheVariants as elem
use Rattle.vast_value.specs.declared.kind.Kind.TheVariants as kind
use Rattle.vast_value.specs.declared.transport.Transport.{Transport}
use Rattle.vast_value.specs.declared.transport.Transport.TheVariants.{Unknown}
use Rattle.vast_value.specs.declared.value.Value.{Value}
use Rattle.vast_value.specs.declared.value.Value.TheVariants as value
use Rattle.vast_value.specs.declared.cell.Cell.TheVariants as cell
use Rattle.value_reading.specs.Numbers.{if_at_most, is_digit, number_behind, number_up_to}
use Rattle.value_reading.specs.Reading.{cell_read, is_text, set_read, value_read}
use Rattle.plain_cells.specs.Readable.{ReadsAs}
use Rattle.plain_cells.proofs.DigitLemmas.{digit_bounds, digits_none, port_is}
use Rattle.plain_cells.proofs.ReadableLemmas.{set_plain}

digit_first : (t : Bool) (o : Option ℕ) (rest : Bool) (number : ℕ) → (o ≡ Some number → rest ≡ true)
    → cond t o None ≡ Some number → (t && rest) ≡ true
digit_first true o rest number more is = more is
digit_first false o rest number more is = cc

-- what gives a number is digits
behind_digits : (n : ℕ) (ds : List ℕ) (number : ℕ) → number_behind n ds ≡ Some number → list_all is_digit ds ≡ true
behind_digits n [] number is = refl
behind_digits n (d ∷ ds) number is =
    digit_first (is_digit d) (number_behind (n * 10 + (d - 48)) ds) (list_all is_digit ds) number
    (behind_digits (n * 10 + (d - 48)) ds number) is

then_some : (most n : ℕ) (o : Option ℕ) → option_and_then (if_at_most most) o ≡ Some n → (m : ℕ) × (o ≡ Some m)
then_some most n None is = cc
then_some most n (Some m) is = (m, refl)

up_to_digits : (most : ℕ) (ds : List ℕ) (n : ℕ) → number_up_to most ds ≡ Some n → list_all is_digit ds ≡ true
up_to_digits most [] n is = refl
up_to_digits most (d ∷ ds) n is =
    let some = then_some most n (number_behind 0 (d ∷ ds)) is in
    behind_digits 0 (d ∷ ds) some.0 some.1

-- digits are no dash
other_than_dash : (raw : List ℕ) → list_all is_digit raw ≡ true → bytes_eq raw (45 ∷ []) ≡ false
other_than_dash [] all = refl
other_than_dash (d ∷ ds) all =
    let both = and_parts (is_digit d) (list_all is_digit ds) all in
    let bounds = digit_bounds d both.0 in
    let other : eqb d 45 ≡ false = ne_eqb d 45 (λ same. omega arith) in
    rw other refl

reads_as : (e : Elem) (raw : List ℕ) (v : Value) → is_text e ≡ false → list_all is_digit raw ≡ true
    → value_read e raw ≡ Some v → ReadsAs (kind.One e) raw (cell.One v)
unfolding cell_read
reads_as e raw v plain all is marks usual =
    let other : bytes_eq raw marks.unset ≡ false = ap (bytes_eq raw) usual ∙ other_than_dash raw all in
    let set : set_read marks e raw ≡ Some v = set_plain marks e raw plain (digits_none 92 raw (omega arith) all) ∙ is in
    rw other (ap (option_map cell.One) set)

pub count_reads : (raw : List ℕ) (n : ℕ) → number_up_to (2 ^ 64 - 1) raw ≡ Some n
    → ReadsAs (kind.One elem.Count) raw (cell.One (value.Count n))
unfolding value_read
count_reads raw n is =
    reads_as elem.Count raw (value.Count n) refl (up_to_digits (2 ^ 64 - 1) raw n is) (ap (option_map value.Count) is)

pub port_reads : (raw : List ℕ) (n : ℕ) → number_up_to 65535 raw ≡ Some n
    → ReadsAs (kind.One elem.Port) raw (cell.One (value.Port n Unknown))
unfolding value_read
port_reads raw n is =
    let all = up_to_digits 65535 raw n is in
    reads_as elem.Port raw (value.Port n Unknown) refl all
    (ap (option_map (λ (p : ℕ × Transport). value.Port p.0 p.1)) (port_is raw all ∙ ap (option_and_then (λ (number : ℕ). Some (number, Unknown))) is))
