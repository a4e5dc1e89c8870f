-- The relations of a cell to a literal.
use Rattle.std.specs.Prelude.{ℕ, ◌-◌, ◌/◌, ◌^◌, Bool, true, false, not, ◌&&◌, ◌||◌, ◌==◌, if◌then◌else◌, List, [], ◌∷◌, Option, None, Some, length, take, nat_le}
use Rattle.std.specs.List.{list_any}
use Rattle.std.specs.Ordering.{int_eq, nat_cmp}
use Rattle.std.specs.Str.{bytes_eq}
use Rattle.std.specs.declared.cmp.Ordering.{Ordering}
use Rattle.std.specs.declared.cmp.Ordering.TheVariants.{Less, Equal, Greater}
use Rattle.vast_value.specs.declared.kind.Elem.{Elem}
use Rattle.vast_value.specs.declared.kind.Elem.TheVariants as elem
use Rattle.vast_value.specs.declared.net.Net.{Net}
use Rattle.vast_value.specs.declared.transport.Transport.{Transport}
use Rattle.vast_value.specs.declared.transport.Transport.TheVariants.{Unknown}
use Rattle.vast_value.specs.declared.value.Value.{Value}
use Rattle.vast_value.specs.declared.value.Value.TheVariants as value
use Rattle.vast_value.specs.declared.cell.Cell.{Cell}
use Rattle.vast_value.specs.declared.cell.Cell.TheVariants as cell
use Rattle.vast_value.specs.Kinds.{elem_eq, elem_of}
use Rattle.vast_value.specs.Layouts.{is_empty}
use Rattle.vast_value.specs.Ports.{transport_eq}
use Rattle.vast_value.specs.Values.{order_of}
use Rattle.query_meaning.specs.declared.expr.Rel.{Rel}
use Rattle.query_meaning.specs.declared.expr.Rel.TheVariants.{Eq, Ne, Lt, Le, Gt, Ge, Within, Contains}
use Rattle.query_meaning.specs.declared.expr.Literal.{Literal}
use Rattle.query_meaning.specs.declared.expr.Literal.TheVariants.{Nil, Of}

-- a literal of the first kind goes with cells of the second: a text with strings and enums alike
abbrev pub goes_with : Elem → Elem → Bool
goes_with elem.Text elem.Name = true
goes_with elem.Name elem.Text = true
goes_with e f = elem_eq e f

abbrev pub same_bool : Bool → Bool → Bool
same_bool true b = b
same_bool false b = not b

-- A literal port without a transport takes every transport, and another its own alone.
abbrev pub takes_transport : Transport → Transport → Bool
takes_transport Unknown over = true
takes_transport literal over = transport_eq literal over

-- equal values of kinds that go with each other; of ports the numbers, and the transport that the literal tells
abbrev pub equals : Value → Value → Bool
equals (value.Bool a) (value.Bool b) = same_bool a b
equals (value.Count n) (value.Count m) = n == m
equals (value.Int n) (value.Int m) = int_eq n m
equals (value.Time t) (value.Time u) = int_eq t u
equals (value.Span t) (value.Span u) = int_eq t u
equals (value.Text t) (value.Text u) = bytes_eq t u
equals (value.Text t) (value.Name u) = bytes_eq t u
equals (value.Name t) (value.Text u) = bytes_eq t u
equals (value.Name t) (value.Name u) = bytes_eq t u
equals (value.Addr a) (value.Addr b) = a == b
equals (value.Subnet n) (value.Subnet m) = n.base == m.base && n.bits == m.bits
equals (value.Port p over) (value.Port q by) = p == q && takes_transport over by
equals _ _ = false

-- the cell is set and of a kind that the literal goes with, but not equal
abbrev pub differs : Value → Value → Bool
differs literal v = goes_with (elem_of literal) (elem_of v) && not (equals literal v)

-- how the value stands to the literal, in their order: of ports by number, where the literal takes the transport
abbrev pub order_to : Value → Value → Option Ordering
order_to (value.Port p over) (value.Port q by) = if takes_transport over by then Some (nat_cmp q p) else None
order_to literal v = order_of v literal

abbrev pub is_less : Option Ordering → Bool
is_less (Some Less) = true
is_less _ = false

abbrev pub is_greater : Option Ordering → Bool
is_greater (Some Greater) = true
is_greater _ = false

abbrev pub is_equal : Option Ordering → Bool
is_equal (Some Equal) = true
is_equal _ = false

-- the address agrees with the subnet's base in the subnet's bits
abbrev pub holds_address : Net → ℕ → Bool
holds_address net address = address / 2 ^ (128 - net.bits) == net.base / 2 ^ (128 - net.bits)

-- A subnet is within another where it has at least as many bits and agrees in the other's bits.
abbrev pub holds_net : Net → Net → Bool
holds_net outer inner = nat_le outer.bits inner.bits && holds_address outer inner.base

-- `in`: the literal is a subnet that holds the cell
abbrev pub lies_in : Value → Value → Bool
lies_in (value.Subnet net) (value.Addr a) = holds_address net a
lies_in (value.Subnet net) (value.Subnet inner) = holds_net net inner
lies_in _ _ = false

abbrev pub stands_first : List ℕ → List ℕ → Bool
stands_first needle text = bytes_eq needle (take (length needle) text)

-- the bytes of the needle stand somewhere in the text, one behind the other
abbrev pub has_text : List ℕ → List ℕ → Bool
has_text needle [] = is_empty needle
has_text needle (b ∷ bs) = stands_first needle (b ∷ bs) || has_text needle bs

-- `ni`: the cell holds the literal, as a text a text, and as a subnet an address or a subnet
abbrev pub has : Value → Value → Bool
has (value.Text needle) (value.Text t) = has_text needle t
has (value.Text needle) (value.Name t) = has_text needle t
has (value.Name needle) (value.Text t) = has_text needle t
has (value.Name needle) (value.Name t) = has_text needle t
has (value.Addr a) (value.Subnet net) = holds_address net a
has (value.Subnet inner) (value.Subnet net) = holds_net net inner
has _ _ = false

-- an unset element equals nothing
abbrev pub equals_element : Value → Option Value → Bool
equals_element literal None = false
equals_element literal (Some v) = equals literal v

abbrev pub value_meets : Rel → Value → Value → Bool
value_meets Eq literal v = equals literal v
value_meets Ne literal v = differs literal v
value_meets Lt literal v = is_less (order_to literal v)
value_meets Le literal v = is_less (order_to literal v) || is_equal (order_to literal v)
value_meets Gt literal v = is_greater (order_to literal v)
value_meets Ge literal v = is_greater (order_to literal v) || is_equal (order_to literal v)
value_meets Within literal v = lies_in literal v
value_meets Contains literal v = has literal v

-- `ni`: an element of the container equals the literal. No other relation is of containers.
abbrev pub elements_meet : Rel → Value → List (Option Value) → Bool
elements_meet Contains literal items = list_any (equals_element literal) items
elements_meet _ literal items = false

abbrev pub is_unset : Cell → Bool
is_unset cell.Unset = true
is_unset _ = false

-- `== nil` holds of the unset, `!= nil` of the set
abbrev pub nil_meets : Rel → Cell → Bool
nil_meets Eq x = is_unset x
nil_meets Ne x = not (is_unset x)
nil_meets _ x = false

-- The table of relations. On an unset cell, and on a cell of a kind that is not in its row, a relation is false.
abbrev pub literal_meets : Rel → Value → Cell → Bool
literal_meets rel literal cell.Unset = false
literal_meets rel literal (cell.One v) = value_meets rel literal v
literal_meets rel literal (cell.Many items) = elements_meet rel literal items

abbrev pub meets : Rel → Literal → Cell → Bool
meets rel Nil x = nil_meets rel x
meets rel (Of literal) x = literal_meets rel literal x
