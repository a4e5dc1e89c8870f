-- What reads as a value reads as a cell.
use Rattle.std.proofs.Common.{◌≡◌, ℕ, ◌-◌, ◌^◌, true, false, cond, List, Option, None, Some, refl, ap, ◌∙◌, [], ◌∷◌}
use Rattle.std.specs.Prelude.{IsSome, ◌==◌}
use Rattle.std.specs.List.{list_any, slice_split}
use Rattle.std.specs.Option.{option_map, option_and_then, is_some}
use Rattle.std.specs.Str.{bytes_eq}
use Rattle.vast_value.specs.declared.kind.Elem.{Elem}
use Rattle.vast_value.specs.declared.kind.Elem.TheVariants as elem
use Rattle.vast_value.specs.declared.kind.Kind.{Kind}
use Rattle.vast_value.specs.declared.kind.Kind.TheVariants as kind
use Rattle.vast_value.specs.declared.value.Value.TheVariants as value
use Rattle.vast_value.specs.declared.cell.Cell.TheVariants as cell
use Rattle.vast_value.specs.declared.value.Value.{Value}
use Rattle.value_reading.specs.Escapes.{unescaped}
use Rattle.value_reading.specs.declared.marks.Marks.{Marks}
use Rattle.value_reading.specs.Addresses.{address_of}
use Rattle.value_reading.specs.Numbers.{number_up_to, int_of, span_of}
use Rattle.value_reading.specs.Ports.{port_of}
use Rattle.value_reading.specs.Reading.{bool_of, is_text, value_read, set_read, cell_read, element_read, elements_read, container_read, kind_read}
use Rattle.value_reading.proofs.EscapeLemmas.{plain_stays}
use Rattle.plain_cells.specs.Readable.{IsReadable}

some-map : {X Y : Type 0} (f : X → Y) (o : Option X) → IsSome o → IsSome (option_map f o)
some-map f None some = some
some-map f (Some x) some = refl

-- a text without a backslash
abbrev pub has_none : List ℕ → Type 0
has_none raw = list_any (λ b. b == 92) raw ≡ false

pub set_plain : (marks : Marks) (e : Elem) (raw : List ℕ) → is_text e ≡ false → has_none raw → set_read marks e raw ≡ value_read e raw
set_plain marks e raw plain none = rw plain (ap (value_read e) (plain_stays raw none))

readable : (e : Elem) (raw : List ℕ) → is_text e ≡ false → has_none raw → IsSome (value_read e raw) → IsReadable (kind.One e) raw
unfolding cell_read
readable e raw plain none some marks =
    let set : IsSome (set_read marks e raw) = ap is_some (set_plain marks e raw plain none) ∙ some in
    elim (bytes_eq raw marks.unset) as (λ t. IsSome (cond t (Some cell.Unset) (option_map cell.One (set_read marks e raw)))) [
      | true ↦ refl
      | false ↦ some-map cell.One (set_read marks e raw) set
    ]

pub count_readable : (raw : List ℕ) → has_none raw → IsSome (number_up_to (2 ^ 64 - 1) raw) → IsReadable (kind.One elem.Count) raw
unfolding value_read
count_readable raw none some = readable elem.Count raw refl none (some-map value.Count (number_up_to (2 ^ 64 - 1) raw) some)

pub int_readable : (raw : List ℕ) → has_none raw → IsSome (int_of raw) → IsReadable (kind.One elem.Int) raw
unfolding value_read
int_readable raw none some = readable elem.Int raw refl none (some-map value.Int (int_of raw) some)

pub port_readable : (raw : List ℕ) → has_none raw → IsSome (port_of raw) → IsReadable (kind.One elem.Port) raw
unfolding value_read
port_readable raw none some = readable elem.Port raw refl none (some-map (λ p. value.Port p.0 p.1) (port_of raw) some)

pub bool_readable : (raw : List ℕ) → has_none raw → IsSome (bool_of raw) → IsReadable (kind.One elem.Bool) raw
unfolding value_read
bool_readable raw none some = readable elem.Bool raw refl none (some-map value.Bool (bool_of raw) some)

pub time_readable : (raw : List ℕ) → has_none raw → IsSome (span_of raw) → IsReadable (kind.One elem.Time) raw
unfolding value_read
time_readable raw none some = readable elem.Time raw refl none (some-map value.Time (span_of raw) some)

pub span_readable : (raw : List ℕ) → has_none raw → IsSome (span_of raw) → IsReadable (kind.One elem.Span) raw
unfolding value_read
span_readable raw none some = readable elem.Span raw refl none (some-map value.Span (span_of raw) some)

pub address_readable : (raw : List ℕ) → has_none raw → IsSome (address_of raw) → IsReadable (kind.One elem.Addr) raw
unfolding value_read
address_readable raw none some = readable elem.Addr raw refl none (some-map value.Addr (address_of raw) some)

-- Texts, and what stands for none

text_set : (marks : Marks) (raw : List ℕ) → IsSome (set_read marks elem.Text raw)
unfolding value_read
text_set marks raw = elim (bytes_eq raw marks.empty) as (λ t. IsSome (cond t (Some (value.Text [])) (Some (value.Text (unescaped raw))))) [ true ↦ refl | false ↦ refl ]

name_set : (marks : Marks) (raw : List ℕ) → IsSome (set_read marks elem.Name raw)
unfolding value_read
name_set marks raw = elim (bytes_eq raw marks.empty) as (λ t. IsSome (cond t (Some (value.Name [])) (Some (value.Name (unescaped raw))))) [ true ↦ refl | false ↦ refl ]

element_some : (marks : Marks) (e : Elem) (raw : List ℕ) → IsSome (set_read marks e raw) → IsSome (element_read marks e raw)
element_some marks e raw some = elim (bytes_eq raw marks.unset) as (λ t. IsSome {T = Option Value} (cond t (Some None) (option_map Some (set_read marks e raw)))) [ true ↦ refl | false ↦ some-map Some (set_read marks e raw) some ]

both_some : {X : Type 0} (o : Option X) (os : Option (List X)) → IsSome o → IsSome os → IsSome (option_and_then (λ x. option_map (λ xs. x ∷ xs) os) o)
both_some None os some more = some
both_some (Some x) os some more = some-map (λ xs. x ∷ xs) os more

elements_some : (marks : Marks) (e : Elem) → ((raw : List ℕ) → IsSome (set_read marks e raw)) → (raws : List (List ℕ)) → IsSome (elements_read marks e raws)
elements_some marks e each [] = refl
elements_some marks e each (raw ∷ raws) = both_some (element_read marks e raw) (elements_read marks e raws) (element_some marks e raw (each raw)) (elements_some marks e each raws)

container_some : (marks : Marks) (e : Elem) → ((raw : List ℕ) → IsSome (set_read marks e raw)) → (raw : List ℕ) → IsSome (container_read marks e raw)
container_some marks e each raw =
    let pieces : List (List ℕ) = slice_split (λ b. b == marks.set_separator) raw in
    elim (bytes_eq raw marks.empty) as (λ t. IsSome (cond t (Some (cell.Many [])) (option_map cell.Many (elements_read marks e pieces)))) [
      | true ↦ refl
      | false ↦ some-map cell.Many (elements_read marks e pieces) (elements_some marks e each pieces)
    ]

set_or_unset : (marks : Marks) (k : Kind) (raw : List ℕ) → IsSome (kind_read marks k raw) → IsSome (cell_read marks k raw)
unfolding cell_read
set_or_unset marks k raw some = elim (bytes_eq raw marks.unset) as (λ t. IsSome (cond t (Some cell.Unset) (kind_read marks k raw))) [ true ↦ refl | false ↦ some ]

pub text_readable : (raw : List ℕ) → IsReadable (kind.One elem.Text) raw
text_readable raw marks = set_or_unset marks (kind.One elem.Text) raw (some-map cell.One (set_read marks elem.Text raw) (text_set marks raw))

pub name_readable : (raw : List ℕ) → IsReadable (kind.One elem.Name) raw
name_readable raw marks = set_or_unset marks (kind.One elem.Name) raw (some-map cell.One (set_read marks elem.Name raw) (name_set marks raw))

pub text_set_readable : (raw : List ℕ) → IsReadable (kind.SetOf elem.Text) raw
text_set_readable raw marks = set_or_unset marks (kind.SetOf elem.Text) raw (container_some marks elem.Text (text_set marks) raw)

pub name_set_readable : (raw : List ℕ) → IsReadable (kind.SetOf elem.Name) raw
name_set_readable raw marks = set_or_unset marks (kind.SetOf elem.Name) raw (container_some marks elem.Name (name_set marks) raw)

pub text_list_readable : (raw : List ℕ) → IsReadable (kind.VecOf elem.Text) raw
text_list_readable raw marks = set_or_unset marks (kind.VecOf elem.Text) raw (container_some marks elem.Text (text_set marks) raw)

pub name_list_readable : (raw : List ℕ) → IsReadable (kind.VecOf elem.Name) raw
name_list_readable raw marks = set_or_unset marks (kind.VecOf elem.Name) raw (container_some marks elem.Name (name_set marks) raw)

pub unset_read : (marks : Marks) (k : Kind) (raw : List ℕ) → bytes_eq raw marks.unset ≡ true → IsSome (cell_read marks k raw)
unfolding cell_read
unset_read marks k raw unset = rw unset refl

pub empty_read : (marks : Marks) (e : Elem) (raw : List ℕ) → bytes_eq raw marks.empty ≡ true → IsSome (container_read marks e raw)
empty_read marks e raw empty = rw empty refl

pub empty_set_readable : (marks : Marks) (e : Elem) (raw : List ℕ) → bytes_eq raw marks.empty ≡ true → IsSome (cell_read marks (kind.SetOf e) raw)
empty_set_readable marks e raw empty = set_or_unset marks (kind.SetOf e) raw (empty_read marks e raw empty)

pub empty_list_readable : (marks : Marks) (e : Elem) (raw : List ℕ) → bytes_eq raw marks.empty ≡ true → IsSome (cell_read marks (kind.VecOf e) raw)
empty_list_readable marks e raw empty = set_or_unset marks (kind.VecOf e) raw (empty_read marks e raw empty)
