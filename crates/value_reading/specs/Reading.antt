-- What a text reads as.
use Rattle.std.specs.Prelude.{ℕ, ◌-◌, ◌^◌, Bool, true, false, ◌==◌, if◌then◌else◌, List, [], ◌∷◌, Option, None, Some, codes}
use Rattle.std.specs.List.{slice_split}
use Rattle.std.specs.Option.{option_map, option_and_then}
use Rattle.std.specs.Str.{bytes_eq}
use Rattle.vast_value.specs.declared.kind.Elem.{Elem}
use Rattle.vast_value.specs.declared.kind.Elem.TheVariants as elem
use Rattle.vast_value.specs.declared.kind.Kind.{Kind}
use Rattle.vast_value.specs.declared.kind.Kind.TheVariants as kind
use Rattle.vast_value.specs.declared.value.Value.{Value}
use Rattle.vast_value.specs.declared.value.Value.TheVariants as value
use Rattle.vast_value.specs.declared.cell.Cell.{Cell}
use Rattle.vast_value.specs.declared.cell.Cell.TheVariants as cell
use Rattle.value_reading.specs.declared.marks.Marks.{Marks}
use Rattle.value_reading.specs.Addresses.{address_of, subnet_of}
use Rattle.value_reading.specs.Escapes.{unescaped}
use Rattle.value_reading.specs.Numbers.{number_up_to, int_of, span_of}
use Rattle.value_reading.specs.Ports.{port_of}

abbrev pub bool_of : List ℕ → Option Bool
bool_of text = if bytes_eq text (codes "T") then Some true else (if bytes_eq text (codes "F") then Some false else None)

-- the value of a kind that a text spells, its escapes being undone
unfoldable pub value_read : Elem → List ℕ → Option Value
value_read elem.Bool text = option_map value.Bool (bool_of text)
value_read elem.Count text = option_map value.Count (number_up_to (2 ^ 64 - 1) text)
value_read elem.Int text = option_map value.Int (int_of text)
value_read elem.Time text = option_map value.Time (span_of text)
value_read elem.Span text = option_map value.Span (span_of text)
value_read elem.Text text = Some (value.Text text)
value_read elem.Name text = Some (value.Name text)
value_read elem.Addr text = option_map value.Addr (address_of text)
value_read elem.Subnet text = option_map value.Subnet (subnet_of text)
value_read elem.Port text = option_map (λ p. value.Port p.0 p.1) (port_of text)

-- the kinds whose values may be empty
abbrev pub empty_value : Elem → Option Value
empty_value elem.Text = Some (value.Text [])
empty_value elem.Name = Some (value.Name [])
empty_value _ = None

abbrev pub is_text : Elem → Bool
is_text elem.Text = true
is_text elem.Name = true
is_text _ = false

-- a text that is not unset: the empty text of a string or an enum by its raw bytes, and what remains with its escapes
-- undone
abbrev pub set_read : Marks → Elem → List ℕ → Option Value
set_read marks elem raw =
    if is_text elem then (if bytes_eq raw marks.empty then empty_value elem else value_read elem (unescaped raw))
    else value_read elem (unescaped raw)

-- an element of a container: the unset text by its raw bytes, or a value
abbrev pub element_read : Marks → Elem → List ℕ → Option (Option Value)
element_read marks elem raw = if bytes_eq raw marks.unset then Some None else option_map Some (set_read marks elem raw)

abbrev pub elements_read : Marks → Elem → List (List ℕ) → Option (List (Option Value))
elements_read marks elem [] = Some []
elements_read marks elem (raw ∷ raws) =
    option_and_then (λ x. option_map (λ xs. x ∷ xs) (elements_read marks elem raws)) (element_read marks elem raw)

-- a container: the empty text by its raw bytes, or elements between the set separators
abbrev pub container_read : Marks → Elem → List ℕ → Option Cell
container_read marks elem raw =
    if bytes_eq raw marks.empty then Some (cell.Many [])
    else option_map cell.Many (elements_read marks elem (slice_split (λ b. b == marks.set_separator) raw))

abbrev pub kind_read : Marks → Kind → List ℕ → Option Cell
kind_read marks (kind.One elem) raw = option_map cell.One (set_read marks elem raw)
kind_read marks (kind.SetOf elem) raw = container_read marks elem raw
kind_read marks (kind.VecOf elem) raw = container_read marks elem raw

-- The cell of a kind that raw bytes spell. The raw bytes are compared with the unset text first.
unfoldable pub cell_read : Marks → Kind → List ℕ → Option Cell
cell_read marks kind raw = if bytes_eq raw marks.unset then Some cell.Unset else kind_read marks kind raw
