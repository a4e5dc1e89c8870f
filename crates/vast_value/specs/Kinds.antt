-- The kinds of values and cells.
use Rattle.std.specs.Prelude.{ℕ, codes, find, Bool, true, false, not, ◌&&◌, List, [], ◌∷◌, Option, None, Some}
use Rattle.std.specs.List.{list_all}
use Rattle.std.specs.Str.{bytes_eq}
use Rattle.vast_value.specs.declared.kind.Elem.{Elem}
use Rattle.vast_value.specs.declared.kind.Elem.TheVariants as elem
use Rattle.vast_value.specs.declared.kind.Kind.{Kind}
use Rattle.vast_value.specs.declared.kind.Kind.TheVariants as kind
use Rattle.vast_value.specs.declared.value.Value.{Value}
use Rattle.vast_value.specs.declared.value.Value.TheVariants as value
use Rattle.vast_value.specs.declared.cell.Cell.{Cell}
use Rattle.vast_value.specs.declared.cell.Cell.TheVariants as cell

abbrev pub elem_eq : Elem → Elem → Bool
elem_eq elem.Bool elem.Bool = true
elem_eq elem.Count elem.Count = true
elem_eq elem.Int elem.Int = true
elem_eq elem.Time elem.Time = true
elem_eq elem.Span elem.Span = true
elem_eq elem.Text elem.Text = true
elem_eq elem.Name elem.Name = true
elem_eq elem.Addr elem.Addr = true
elem_eq elem.Subnet elem.Subnet = true
elem_eq elem.Port elem.Port = true
elem_eq _ _ = false

-- the name of a kind in logs and queries
abbrev pub elem_name : Elem → List ℕ
elem_name elem.Bool = codes "bool"
elem_name elem.Count = codes "count"
elem_name elem.Int = codes "int"
elem_name elem.Time = codes "time"
elem_name elem.Span = codes "interval"
elem_name elem.Text = codes "string"
elem_name elem.Name = codes "enum"
elem_name elem.Addr = codes "addr"
elem_name elem.Subnet = codes "subnet"
elem_name elem.Port = codes "port"

-- the kinds whose names have at most five letters
abbrev pub short_elems : List Elem
short_elems = elem.Bool ∷ elem.Count ∷ elem.Int ∷ elem.Time ∷ elem.Name ∷ elem.Addr ∷ elem.Port ∷ []

abbrev pub every_elem : List Elem
every_elem = elem.Text ∷ elem.Span ∷ elem.Subnet ∷ short_elems

-- the kind that has this name
abbrev pub elem_named : List ℕ → Option Elem
elem_named name = find (λ e. bytes_eq name (elem_name e)) every_elem

abbrev pub short_named : List ℕ → Option Elem
short_named name = find (λ e. bytes_eq name (elem_name e)) short_elems

-- the kind of a value
abbrev pub elem_of : Value → Elem
elem_of (value.Bool b) = elem.Bool
elem_of (value.Count n) = elem.Count
elem_of (value.Int z) = elem.Int
elem_of (value.Time t) = elem.Time
elem_of (value.Span t) = elem.Span
elem_of (value.Text t) = elem.Text
elem_of (value.Name t) = elem.Name
elem_of (value.Addr a) = elem.Addr
elem_of (value.Subnet n) = elem.Subnet
elem_of (value.Port p over) = elem.Port

-- an element of a container of this kind: one of the kind, or an unset one
abbrev pub is_element : Elem → Option Value → Bool
is_element e None = true
is_element e (Some v) = elem_eq (elem_of v) e

abbrev pub is_lone_unset : List (Option Value) → Bool
is_lone_unset (None ∷ []) = true
is_lone_unset _ = false

-- A container has the kind whose element kind all its set elements have. One unset element alone has no kind, since
-- its text could not be told from an unset cell.
abbrev pub are_elements : Elem → List (Option Value) → Bool
are_elements e items = not (is_lone_unset items) && list_all (is_element e) items

-- An unset cell has every kind.
abbrev pub has_kind : Cell → Kind → Bool
has_kind cell.Unset k = true
has_kind (cell.One v) (kind.One e) = elem_eq (elem_of v) e
has_kind (cell.One v) (kind.SetOf e) = false
has_kind (cell.One v) (kind.VecOf e) = false
has_kind (cell.Many items) (kind.One e) = false
has_kind (cell.Many items) (kind.SetOf e) = are_elements e items
has_kind (cell.Many items) (kind.VecOf e) = are_elements e items
