-- The one spelling of a batch in each format. Numbers are little endian.
use Rattle.std.specs.Prelude.{◌≡◌, ℕ, ◌+◌, true, List, [], ◌∷◌, ◌++◌, length, Option, None, Some}
use Rattle.std.specs.List.{flat_map}
use Rattle.vast_value.specs.declared.kind.Elem.{Elem}
use Rattle.vast_value.specs.declared.kind.Elem.TheVariants as elem
use Rattle.vast_value.specs.declared.kind.Kind.{Kind}
use Rattle.vast_value.specs.declared.kind.Kind.TheVariants as kind
use Rattle.vast_value.specs.declared.value.Value.{Value}
use Rattle.vast_value.specs.declared.value.Value.TheVariants.{Port}
use Rattle.vast_value.specs.declared.cell.Cell.{Cell}
use Rattle.vast_value.specs.declared.cell.Cell.TheVariants.{Unset, One, Many}
use Rattle.vast_value.specs.Headings.{Field, Heading}
use Rattle.vast_value.specs.ValueBytes.{number, text, value_bytes}
use Rattle.event_batch.specs.declared.format.Format.{Format}
use Rattle.event_batch.specs.declared.format.Format.TheVariants.{First, Second}
use Rattle.event_batch.specs.Contents.{Content, Spelled, is_spellable}

abbrev pub elem_code : Elem → ℕ
elem_code elem.Bool = 0
elem_code elem.Count = 1
elem_code elem.Int = 2
elem_code elem.Time = 3
elem_code elem.Span = 4
elem_code elem.Text = 5
elem_code elem.Name = 6
elem_code elem.Addr = 7
elem_code elem.Subnet = 8
elem_code elem.Port = 9

-- 16 more for a set and 32 more for a vector
abbrev pub kind_code : Kind → ℕ
kind_code (kind.One e) = elem_code e
kind_code (kind.SetOf e) = elem_code e + 16
kind_code (kind.VecOf e) = elem_code e + 32

abbrev pub format_code : Format → ℕ
format_code First = 1
format_code Second = 2

-- in the first format a port is its number alone
abbrev pub value_bytes_in : Format → Value → List ℕ
value_bytes_in First (Port p over) = number 2 p
value_bytes_in f v = value_bytes v

-- 0 for an unset element, or 1 and the value
abbrev pub element_bytes : Format → Option Value → List ℕ
element_bytes f None = 0 ∷ []
element_bytes f (Some v) = 1 ∷ value_bytes_in f v

-- 0 for an unset cell, or 1 and the value; a container is the number of its elements and these
abbrev pub cell_bytes : Format → Cell → List ℕ
cell_bytes f Unset = 0 ∷ []
cell_bytes f (One v) = 1 ∷ value_bytes_in f v
cell_bytes f (Many items) = 1 ∷ (number 4 (length items) ++ flat_map (element_bytes f) items)

abbrev pub row_bytes : Format → List Cell → List ℕ
row_bytes f cells = flat_map (cell_bytes f) cells

abbrev pub field_bytes : Field → List ℕ
field_bytes field = kind_code field.kind ∷ text field.name

-- the path, the number of columns, and the columns
abbrev pub heading_bytes : Heading → List ℕ
heading_bytes h = text h.path ++ (number 2 (length h.fields) ++ flat_map field_bytes h.fields)

-- the source, the heading, the number of rows, and the rows
abbrev pub content_bytes : Format → Content → List ℕ
content_bytes f c = number 4 c.source ++ (heading_bytes c.heading ++ (number 4 (length c.rows) ++ flat_map (row_bytes f) c.rows))

-- the format and the content
abbrev pub spelling : Spelled → List ℕ
spelling s = format_code s.format ∷ content_bytes s.format s.content

-- the bytes spell this batch in this format
pub record Spells (bytes : List ℕ) (s : Spelled) : Type 0 where
  pub spelled : bytes ≡ spelling s
  pub spellable : is_spellable s ≡ true
