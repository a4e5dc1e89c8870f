-- What an event has in a column of a part, whose events may have different layouts.
use Rattle.std.specs.Prelude.{ℕ, Bool, true, false, not, ◌&&◌, if◌then◌else◌, List, [], ◌∷◌, Option, None, Some, map}
use Rattle.std.specs.List.{list_all, list_any}
use Rattle.std.specs.Str.{bytes_eq}
use Rattle.vast_value.specs.declared.cell.Cell.{Cell}
use Rattle.vast_value.specs.declared.cell.Cell.TheVariants as cell
use Rattle.vast_value.specs.declared.kind.Elem.TheVariants as elem
use Rattle.vast_value.specs.declared.kind.Kind.{Kind}
use Rattle.vast_value.specs.declared.kind.Kind.TheVariants.{One, SetOf, VecOf}
use Rattle.vast_value.specs.Headings.{Field, Heading}
use Rattle.vast_value.specs.Kinds.{elem_eq}
use Rattle.event_history.specs.Events.{Event}
use Rattle.query_meaning.specs.declared.expr.Pick.{Pick}
use Rattle.query_meaning.specs.declared.expr.Pick.TheVariants.{OfKind, Named}
use Rattle.query_meaning.specs.Meaning.{is_of}
use Rattle.query_meaning.specs.Picks.{is_named}
use Rattle.bits_law.specs.Keys.{meets}

-- where a column stands: its layout's path, its name and its kind
pub record Place : Type 0 where
  pub path : List ℕ
  pub name : List ℕ
  pub kind : Kind

abbrev pub place_of : List ℕ → Field → Place
place_of path f = record { path = path; name = f.name; kind = f.kind }

abbrev pub same_kind : Kind → Kind → Bool
same_kind (One e) (One f) = elem_eq e f
same_kind (SetOf e) (SetOf f) = elem_eq e f
same_kind (VecOf e) (VecOf f) = elem_eq e f
same_kind _ _ = false

abbrev pub same_place : Place → Place → Bool
same_place p q = bytes_eq p.path q.path && (bytes_eq p.name q.name && same_kind p.kind q.kind)

-- the cell of the first field with this name and kind
abbrev pub cell_among : List ℕ → Kind → List Field → List Cell → Option Cell
cell_among name kind [] xs = None
cell_among name kind (f ∷ fs) [] = None
cell_among name kind (f ∷ fs) (x ∷ xs) = if bytes_eq f.name name && same_kind f.kind kind then Some x else cell_among name kind fs xs

-- What an event has in a column: nothing where its layout has no such column.
abbrev pub cell_in : Place → Event → Option Cell
cell_in p e = if bytes_eq e.heading.path p.path then cell_among p.name p.kind e.heading.fields e.row else None

-- a column's cells
abbrev pub column_cells : Place → List Event → List (Option Cell)
column_cells p events = map (cell_in p) events

-- a test picks the column, by its kind or its name
abbrev pub picks : Pick → Place → Bool
picks (OfKind e) p = is_of e p.kind
picks (Named name) p = is_named p.path p.name name
picks _ p = false

-- the event's layout has no column but these
abbrev pub is_covered : List Place → Event → Bool
is_covered places e = list_all (λ f. list_any (same_place (place_of e.heading.path f)) places) e.heading.fields

-- no two fields have one name
abbrev pub are_distinct : List Field → Bool
are_distinct [] = true
are_distinct (f ∷ fs) = list_all (λ g. not (bytes_eq f.name g.name)) fs && are_distinct fs

-- some column that the test picks has a cell of the event that passes
abbrev pub some_column : Pick → (Cell → Bool) → List Place → Event → Bool
some_column pick test places e = list_any (λ p. picks pick p && meets test (cell_in p e)) places

-- where the time of an event of this heading stands: in its first column of kind time
abbrev pub time_among : List ℕ → List Field → Option Place
time_among path [] = None
time_among path (f ∷ fs) = if is_of elem.Time f.kind then Some (place_of path f) else time_among path fs

abbrev pub time_place : Heading → Option Place
time_place h = time_among h.path h.fields

abbrev pub or_unset : Option Cell → Cell
or_unset None = cell.Unset
or_unset (Some x) = x

-- the event's time, by the column where it stands
abbrev pub time_in : Option Place → Event → Cell
time_in None e = cell.Unset
time_in (Some p) e = or_unset (cell_in p e)
