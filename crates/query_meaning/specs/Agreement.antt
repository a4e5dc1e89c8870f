-- Which tests are without a clash of kinds.
use Rattle.std.specs.Prelude.{Bool, true, false, ◌&&◌, ◌||◌}
use Rattle.vast_value.specs.declared.kind.Elem.{Elem}
use Rattle.vast_value.specs.declared.kind.Elem.TheVariants as elem
use Rattle.vast_value.specs.Kinds.{elem_of, elem_eq}
use Rattle.query_meaning.specs.declared.expr.Test.{Test}
use Rattle.query_meaning.specs.declared.expr.Pick.{Pick}
use Rattle.query_meaning.specs.declared.expr.Pick.TheVariants.{OfKind, Named, TypeName, EventTime}
use Rattle.query_meaning.specs.declared.expr.Rel.{Rel}
use Rattle.query_meaning.specs.declared.expr.Rel.TheVariants.{Eq, Ne, Lt, Le, Gt, Ge, Within, Contains}
use Rattle.query_meaning.specs.declared.expr.Literal.{Literal}
use Rattle.query_meaning.specs.declared.expr.Literal.TheVariants.{Nil, Of}
use Rattle.query_meaning.specs.Relations.{goes_with}

-- the kinds that have an order
abbrev pub is_ordered : Elem → Bool
is_ordered elem.Count = true
is_ordered elem.Int = true
is_ordered elem.Time = true
is_ordered elem.Span = true
is_ordered elem.Port = true
is_ordered _ = false

abbrev pub is_subnet : Elem → Bool
is_subnet e = elem_eq e elem.Subnet

-- a relation to a literal of this kind is in the table
abbrev pub is_related : Rel → Elem → Bool
is_related Eq literal = true
is_related Ne literal = true
is_related Lt literal = is_ordered literal
is_related Le literal = is_ordered literal
is_related Gt literal = is_ordered literal
is_related Ge literal = is_ordered literal
is_related Within literal = is_subnet literal
is_related Contains literal = true

-- single cells that `ni` is about: texts for a text, and subnets for an address or a subnet
abbrev pub may_have : Elem → Elem → Bool
may_have elem.Text e = goes_with elem.Text e
may_have elem.Name e = goes_with elem.Name e
may_have elem.Addr e = is_subnet e
may_have elem.Subnet e = is_subnet e
may_have _ e = false

-- the table has this relation and literal for single cells of kind e
abbrev pub relates : Rel → Elem → Elem → Bool
relates Within literal e = is_subnet literal && (is_subnet e || elem_eq e elem.Addr)
relates Contains literal e = may_have literal e
relates rel literal e = is_related rel literal && goes_with literal e

-- the relation is `==` or `!=`, which `nil` is compared by
abbrev pub is_equality : Rel → Bool
is_equality Eq = true
is_equality Ne = true
is_equality _ = false

abbrev pub stands : Rel → Literal → Bool
stands rel Nil = is_equality rel
stands rel (Of literal) = is_related rel (elem_of literal)

abbrev pub stands_for : Rel → Literal → Elem → Bool
stands_for rel Nil e = is_equality rel
stands_for rel (Of literal) e = relates rel (elem_of literal) e

-- A test clashes where its relation and literal stand in no row of the table, or its pick has a kind that is not among
-- the row's cells. A name has no kind; `&type` is a string, and `&time` a time.
abbrev pub pick_agrees : Pick → Rel → Literal → Bool
pick_agrees (OfKind e) rel literal = stands_for rel literal e
pick_agrees (Named name) rel literal = stands rel literal
pick_agrees TypeName rel literal = stands_for rel literal elem.Text
pick_agrees EventTime rel literal = stands_for rel literal elem.Time

abbrev pub agrees : Test → Bool
agrees test = pick_agrees test.pick test.rel test.literal
