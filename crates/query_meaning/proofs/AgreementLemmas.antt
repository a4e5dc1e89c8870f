-- A test that clashes holds of nothing.
use Rattle.std.proofs.Common.{◌≡◌, Bool, true, false, not, ◌&&◌, ◌||◌, List, Option, Some, None, refl}
use Rattle.std.specs.declared.cmp.Ordering.{Ordering}
use Rattle.vast_value.specs.declared.kind.Elem.{Elem}
use Rattle.vast_value.specs.declared.kind.Elem.TheVariants as elem
use Rattle.vast_value.specs.declared.value.Value.{Value}
use Rattle.vast_value.specs.declared.value.Value.TheVariants as value
use Rattle.vast_value.specs.declared.cell.Cell.{Cell}
use Rattle.vast_value.specs.declared.cell.Cell.TheVariants as cell
use Rattle.vast_value.specs.Kinds.{elem_of}
use Rattle.vast_value.proofs.KindLemmas.{elem_is}
use Rattle.query_meaning.specs.declared.expr.Rel.{Rel}
use Rattle.query_meaning.specs.declared.expr.Rel.TheVariants.{Eq, Ne, Lt, Le, Gt, Ge, Within, Contains}
use Rattle.query_meaning.specs.declared.expr.Literal.{Literal}
use Rattle.query_meaning.specs.declared.expr.Literal.TheVariants.{Nil, Of}
use Rattle.query_meaning.specs.declared.expr.Pick.{Pick}
use Rattle.query_meaning.specs.declared.expr.Pick.TheVariants.{OfKind, Named, TypeName, EventTime}
use Rattle.query_meaning.specs.declared.expr.Test.{Test}
use Rattle.query_meaning.specs.Agreement.{is_related, relates, stands, stands_for, pick_agrees}
use Rattle.query_meaning.specs.Relations.{goes_with, equals, order_to, is_less, is_greater, is_equal, lies_in, has, value_meets, meets, nil_meets}
use Rattle.query_meaning.specs.Laws.{may_be_chosen, ClashHoldsOfNothing}
use Rattle.query_meaning.proofs.OrderLemmas.{related_order}

-- equal values have kinds that go with each other
equals_goes : (literal v : Value) → goes_with (elem_of literal) (elem_of v) ≡ false → equals literal v ≡ false
equals_goes (value.Bool a) (value.Bool b) h = absurd cc
equals_goes (value.Count n) (value.Count m) h = absurd cc
equals_goes (value.Int n) (value.Int m) h = absurd cc
equals_goes (value.Time n) (value.Time m) h = absurd cc
equals_goes (value.Span n) (value.Span m) h = absurd cc
equals_goes (value.Text a) (value.Text b) h = absurd cc
equals_goes (value.Text a) (value.Name b) h = absurd cc
equals_goes (value.Name a) (value.Text b) h = absurd cc
equals_goes (value.Name a) (value.Name b) h = absurd cc
equals_goes (value.Addr a) (value.Addr b) h = absurd cc
equals_goes (value.Subnet a) (value.Subnet b) h = absurd cc
equals_goes (value.Port p over) (value.Port q by) h = absurd cc
equals_goes _ _ h = refl

lies_relates : (literal v : Value) → relates Within (elem_of literal) (elem_of v) ≡ false → lies_in literal v ≡ false
lies_relates (value.Subnet a) (value.Addr b) h = absurd cc
lies_relates (value.Subnet a) (value.Subnet b) h = absurd cc
lies_relates _ _ h = refl

has_relates : (literal v : Value) → relates Contains (elem_of literal) (elem_of v) ≡ false → has literal v ≡ false
has_relates (value.Text a) (value.Text b) h = absurd cc
has_relates (value.Text a) (value.Name b) h = absurd cc
has_relates (value.Name a) (value.Text b) h = absurd cc
has_relates (value.Name a) (value.Name b) h = absurd cc
has_relates (value.Addr a) (value.Subnet b) h = absurd cc
has_relates (value.Subnet a) (value.Subnet b) h = absurd cc
has_relates _ _ h = refl

and_false : (a b : Bool) → a ≡ false → (a && b) ≡ false
and_false false b h = refl
and_false true b h = absurd cc

none_less : (o : Option Ordering) → o ≡ None → is_less o ≡ false
none_less None e = refl
none_less (Some o) e = absurd cc

none_greater : (o : Option Ordering) → o ≡ None → is_greater o ≡ false
none_greater None e = refl
none_greater (Some o) e = absurd cc

none_at_most : (o : Option Ordering) → o ≡ None → (is_less o || is_equal o) ≡ false
none_at_most None e = refl
none_at_most (Some o) e = absurd cc

none_at_least : (o : Option Ordering) → o ≡ None → (is_greater o || is_equal o) ≡ false
none_at_least None e = refl
none_at_least (Some o) e = absurd cc

-- a relation that the table does not have for the two kinds holds of no two values of them
pub unrelated : (rel : Rel) (literal v : Value) → relates rel (elem_of literal) (elem_of v) ≡ false → value_meets rel literal v ≡ false
unrelated Eq literal v h = equals_goes literal v h
unrelated Ne literal v h = and_false (goes_with (elem_of literal) (elem_of v)) (not (equals literal v)) h
unrelated Lt literal v h = none_less (order_to literal v) (related_order literal v h)
unrelated Le literal v h = none_at_most (order_to literal v) (related_order literal v h)
unrelated Gt literal v h = none_greater (order_to literal v) (related_order literal v h)
unrelated Ge literal v h = none_at_least (order_to literal v) (related_order literal v h)
unrelated Within literal v h = lies_relates literal v h
unrelated Contains literal v h = has_relates literal v h

nil_unequal : (rel : Rel) (x : Cell) → stands rel Nil ≡ false → nil_meets rel x ≡ false
nil_unequal Eq x h = absurd cc
nil_unequal Ne x h = absurd cc
nil_unequal _ x h = refl

-- of cells of one kind
kind_unmet : (rel : Rel) (literal : Literal) (e : Elem) (x : Cell) → stands_for rel literal e ≡ false → may_be_chosen (OfKind e) x ≡ true → meets rel literal x ≡ false
kind_unmet rel Nil e x h k = nil_unequal rel x h
kind_unmet rel (Of literal) e cell.Unset h k = refl
kind_unmet rel (Of literal) e (cell.Many items) h k = absurd cc
kind_unmet rel (Of literal) e (cell.One v) h k =
    let same : elem_of v ≡ e = elem_is (elem_of v) e k in
    unrelated rel literal v (rw same h)

-- what no row of the table has is not related to a value of any kind
unrelated_to_all : (rel : Rel) (literal e : Elem) → is_related rel literal ≡ false → relates rel literal e ≡ false
unrelated_to_all Eq literal e h = absurd cc
unrelated_to_all Ne literal e h = absurd cc
unrelated_to_all Contains literal e h = absurd cc
unrelated_to_all Within literal e h = rw h refl
unrelated_to_all Lt literal e h = rw h refl
unrelated_to_all Le literal e h = rw h refl
unrelated_to_all Gt literal e h = rw h refl
unrelated_to_all Ge literal e h = rw h refl

elements_unmet : (rel : Rel) (literal : Value) (items : List (Option Value)) → is_related rel (elem_of literal) ≡ false → meets rel (Of literal) (cell.Many items) ≡ false
elements_unmet Contains literal items h = absurd cc
elements_unmet _ literal items h = refl

name_unmet : (rel : Rel) (literal : Literal) (x : Cell) → stands rel literal ≡ false → meets rel literal x ≡ false
name_unmet rel Nil x h = nil_unequal rel x h
name_unmet rel (Of literal) cell.Unset h = refl
name_unmet rel (Of literal) (cell.Many items) h = elements_unmet rel literal items h
name_unmet rel (Of literal) (cell.One v) h = unrelated rel literal v (unrelated_to_all rel (elem_of literal) (elem_of v) h)

unmet : (pick : Pick) (rel : Rel) (literal : Literal) (x : Cell) → pick_agrees pick rel literal ≡ false → may_be_chosen pick x ≡ true → meets rel literal x ≡ false
unmet (OfKind e) rel literal x h k = kind_unmet rel literal e x h k
unmet (Named name) rel literal x h k = name_unmet rel literal x h
unmet TypeName rel literal x h k = kind_unmet rel literal elem.Text x h k
unmet EventTime rel literal x h k = kind_unmet rel literal elem.Time x h k

pub clash_holds_of_nothing : (test : Test) (x : Cell) → ClashHoldsOfNothing test x
clash_holds_of_nothing test x h k = unmet test.pick test.rel test.literal x h k
