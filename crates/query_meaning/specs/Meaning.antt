-- When a query matches an event.
use Rattle.std.specs.Prelude.{ℕ, Bool, true, false, not, List, [], ◌∷◌}
use Rattle.std.specs.List.{list_all, list_any}
use Rattle.vast_value.specs.declared.kind.Elem.{Elem}
use Rattle.vast_value.specs.declared.kind.Elem.TheVariants as elem
use Rattle.vast_value.specs.declared.kind.Kind.{Kind}
use Rattle.vast_value.specs.declared.kind.Kind.TheVariants as kind
use Rattle.vast_value.specs.declared.value.Value.TheVariants as value
use Rattle.vast_value.specs.declared.cell.Cell.{Cell}
use Rattle.vast_value.specs.declared.cell.Cell.TheVariants as cell
use Rattle.vast_value.specs.Headings.{Field, Heading}
use Rattle.vast_value.specs.Kinds.{elem_eq}
use Rattle.query_meaning.specs.declared.expr.Expr.{Expr, fold-Expr}
use Rattle.query_meaning.specs.declared.expr.Expr.TheOpen.{Expr-F}
use Rattle.query_meaning.specs.declared.expr.Expr.TheOpen as level
use Rattle.query_meaning.specs.declared.expr.Test.{Test}
use Rattle.query_meaning.specs.declared.expr.Pick.{Pick}
use Rattle.query_meaning.specs.declared.expr.Pick.TheVariants.{OfKind, Named, TypeName, EventTime}
use Rattle.query_meaning.specs.Picks.{is_named}
use Rattle.query_meaning.specs.Relations.{meets}

abbrev pub cells_if : Bool → Cell → List Cell → List Cell
cells_if true x xs = x ∷ xs
cells_if false x xs = xs

-- the cells of the columns that a name picks
abbrev pub named_cells : List ℕ → List Field → List Cell → List ℕ → List Cell
named_cells path [] xs name = []
named_cells path (f ∷ fs) [] name = []
named_cells path (f ∷ fs) (x ∷ xs) name =
    cells_if (is_named path f.name name) x (named_cells path fs xs name)

-- the column is of single values of the kind
abbrev pub is_of : Elem → Kind → Bool
is_of e (kind.One f) = elem_eq f e
is_of e _ = false

-- the cells of the columns of a kind
abbrev pub cells_of_kind : Elem → List Field → List Cell → List Cell
cells_of_kind e [] xs = []
cells_of_kind e (f ∷ fs) [] = []
cells_of_kind e (f ∷ fs) (x ∷ xs) = cells_if (is_of e f.kind) x (cells_of_kind e fs xs)

abbrev pub first_or_unset : List Cell → Cell
first_or_unset [] = cell.Unset
first_or_unset (x ∷ xs) = x

-- The event's time is the first cell of kind time in its layout, unset if there is none.
abbrev pub event_time : List Field → List Cell → Cell
event_time fields cells = first_or_unset (cells_of_kind elem.Time fields cells)

-- The cells that a pick chooses. The path counts as a string cell.
abbrev pub chosen : Pick → Heading → List Cell → List Cell
chosen (OfKind e) heading cells = cells_of_kind e heading.fields cells
chosen (Named name) heading cells = named_cells heading.path heading.fields cells name
chosen TypeName heading cells = cell.One (value.Text heading.path) ∷ []
chosen EventTime heading cells = event_time heading.fields cells ∷ []

-- A test holds where some chosen cell meets the relation.
abbrev pub test_holds : Test → Heading → List Cell → Bool
test_holds test heading cells = list_any (meets test.rel test.literal) (chosen test.pick heading cells)

abbrev pub level_holds : Heading → List Cell → Expr-F Bool → Bool
level_holds heading cells (level.Test test) = test_holds test heading cells
level_holds heading cells (level.Not member) = not member
level_holds heading cells (level.And members) = list_all (λ b. b) members
level_holds heading cells (level.Or members) = list_any (λ b. b) members

-- A query matches an event with this heading and these cells.
abbrev pub holds : Heading → List Cell → Expr → Bool
holds heading cells expr = fold-Expr Bool (level_holds heading cells) expr
