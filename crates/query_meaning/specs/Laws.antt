-- Laws of the meaning, in its own words.
use Rattle.std.specs.Prelude.{◌≡◌, ℕ, ◌^◌, ◌<◌, ◌↔◌, Bool, true, false, ◌&&◌, ◌||◌, List, [], ◌∷◌, ◌++◌, map, filter, slice_get, unwrap_or}
use Rattle.std.specs.List.{list_all, list_any, zip}
use Rattle.vast_value.specs.declared.kind.Elem.TheVariants as elem
use Rattle.vast_value.specs.declared.kind.Kind.TheVariants as kind
use Rattle.vast_value.specs.declared.net.Net.{Net}
use Rattle.vast_value.specs.declared.value.Value.{Value}
use Rattle.vast_value.specs.declared.value.Value.TheVariants as value
use Rattle.vast_value.specs.declared.cell.Cell.{Cell}
use Rattle.vast_value.specs.declared.cell.Cell.TheVariants as cell
use Rattle.vast_value.specs.Headings.{Heading}
use Rattle.vast_value.specs.Kinds.{elem_of, elem_eq, has_kind}
use Rattle.query_meaning.specs.declared.expr.Expr.{Expr, roll-Expr}
use Rattle.query_meaning.specs.declared.expr.Expr.TheOpen as level
use Rattle.query_meaning.specs.declared.expr.Pick.{Pick}
use Rattle.query_meaning.specs.declared.expr.Pick.TheVariants.{OfKind, Named, TypeName, EventTime}
use Rattle.query_meaning.specs.declared.expr.Rel.{Rel}
use Rattle.query_meaning.specs.declared.expr.Rel.TheVariants.{Eq, Lt, Le, Gt, Ge, Within, Contains}
use Rattle.query_meaning.specs.declared.expr.Test.{Test}
use Rattle.query_meaning.specs.declared.expr.Literal.TheVariants.{Of}
use Rattle.query_meaning.specs.Agreement.{agrees, is_ordered}
use Rattle.query_meaning.specs.Meaning.{holds, chosen, is_of}
use Rattle.query_meaning.specs.Picks.{is_named}
use Rattle.query_meaning.specs.Relations.{meets, takes_transport}

-- `!` of `!` means the same
abbrev pub TwiceNot : Expr → Type 0
TwiceNot expr = (heading : Heading) (cells : List Cell) → holds heading cells (roll-Expr (level.Not (roll-Expr (level.Not expr)))) ≡ holds heading cells expr

-- a list of members joined by `&&` matches where all match, and one joined by `||` where some does
abbrev pub AllOrSome : List Expr → Type 0
AllOrSome members =
    (heading : Heading) (cells : List Cell)
    → (holds heading cells (roll-Expr (level.And members)) ≡ list_all (holds heading cells) members) × (holds heading cells (roll-Expr (level.Or members)) ≡ list_any (holds heading cells) members)

-- a single value meets the relation to a literal
abbrev pub value_is : Rel → Value → Value → Bool
value_is rel literal v = meets rel (Of literal) (cell.One v)

-- both are of one kind that has an order, and a port has a transport that the literal takes
abbrev pub are_ordered : Value → Value → Bool
are_ordered (value.Port p over) (value.Port q by) = takes_transport over by
are_ordered literal v = is_ordered (elem_of literal) && elem_eq (elem_of literal) (elem_of v)

abbrev pub just_one : Bool → Bool → Bool → Bool
just_one true false false = true
just_one false true false = true
just_one false false true = true
just_one _ _ _ = false

-- of `<`, `==` and `>` just one holds
abbrev pub Trichotomy : Value → Value → Type 0
Trichotomy literal v = are_ordered literal v ≡ true → just_one (value_is Lt literal v) (value_is Eq literal v) (value_is Gt literal v) ≡ true

-- `<=` is `<` or `==`, and `>=` is `>` or `==`
abbrev pub OrEqual : Value → Value → Type 0
OrEqual literal v = are_ordered literal v ≡ true → (value_is Le literal v ≡ (value_is Lt literal v || value_is Eq literal v)) × (value_is Ge literal v ≡ (value_is Gt literal v || value_is Eq literal v))

-- values without an order between them meet none of `<`, `<=`, `>`, `>=`
abbrev pub NoOrder : Value → Value → Type 0
NoOrder literal v = are_ordered literal v ≡ false → (value_is Lt literal v || (value_is Le literal v || (value_is Gt literal v || value_is Ge literal v))) ≡ false

-- an address or a subnet is in a subnet where that holds it
abbrev pub Converse : Net → Net → ℕ → Type 0
Converse outer inner address =
    (value_is Within (value.Subnet outer) (value.Subnet inner) ≡ value_is Contains (value.Subnet inner) (value.Subnet outer))
    × (value_is Within (value.Subnet outer) (value.Addr address) ≡ value_is Contains (value.Addr address) (value.Subnet outer))

-- each subnet is in itself
abbrev pub InItself : Net → Type 0
InItself net = value_is Within (value.Subnet net) (value.Subnet net) ≡ true

-- what is in a subnet is in each subnet that this one is in
abbrev pub GoesOver : Net → Net → Value → Type 0
GoesOver outer inner v = value_is Within (value.Subnet outer) (value.Subnet inner) ≡ true → value_is Within (value.Subnet inner) v ≡ true → value_is Within (value.Subnet outer) v ≡ true

-- ::/0 holds every address (numbers of the two have no more than their 128 bits)
abbrev pub HoldsAll : Net → ℕ → Type 0
HoldsAll net address = net.bits ≡ 0 → net.base < 2 ^ 128 → address < 2 ^ 128 → value_is Within (value.Subnet net) (value.Addr address) ≡ true

-- the text is something, the needle, and something
pub record Occurs (needle text : List ℕ) : Type 0 where
  pub front : List ℕ
  pub back : List ℕ
  pub is : text ≡ front ++ (needle ++ back)

-- `ni` of a text is that the needle occurs in it
abbrev pub HasWhereItOccurs : List ℕ → List ℕ → Type 0
HasWhereItOccurs needle text = (value_is Contains (value.Text needle) (value.Text text) ≡ true) ↔ Occurs needle text

-- the cell may be one that the pick chooses, by its kind
abbrev pub may_be_chosen : Pick → Cell → Bool
may_be_chosen (OfKind e) x = has_kind x (kind.One e)
may_be_chosen (Named name) x = true
may_be_chosen TypeName x = has_kind x (kind.One elem.Text)
may_be_chosen EventTime x = has_kind x (kind.One elem.Time)

-- a test that clashes holds of no cell that its pick may choose
abbrev pub ClashHoldsOfNothing : Test → Cell → Type 0
ClashHoldsOfNothing test x = agrees test ≡ false → may_be_chosen test.pick x ≡ true → meets test.rel test.literal x ≡ false

-- a kind picks the cells whose column is of that kind, and a name those whose column it names
abbrev pub PicksByColumn : Pick → Heading → List Cell → Type 0
PicksByColumn (OfKind e) heading cells = chosen (OfKind e) heading cells ≡ map (λ p. p.1) (filter (λ p. is_of e p.0.kind) (zip heading.fields cells))
PicksByColumn (Named name) heading cells = chosen (Named name) heading cells ≡ map (λ p. p.1) (filter (λ p. is_named heading.path p.0.name name) (zip heading.fields cells))
PicksByColumn TypeName heading cells = chosen TypeName heading cells ≡ cell.One (value.Text heading.path) ∷ []
PicksByColumn EventTime heading cells = chosen EventTime heading cells ≡ unwrap_or (slice_get (chosen (OfKind elem.Time) heading cells) 0) cell.Unset ∷ []
