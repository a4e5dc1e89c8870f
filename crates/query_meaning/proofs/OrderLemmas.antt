-- How values stand to a literal.
use Rattle.std.proofs.Common.{◌≡◌, ℕ, ℤ, Bool, true, false, ◌&&◌, ◌||◌, ◌==◌, Option, Some, None, refl, ap, sym, ◌∙◌, arith}
use Rattle.std.proofs.lemmas.Bool.Decides.{nat_tests}
use Rattle.std.specs.Cmp.{int_cmp_total}
use Rattle.std.specs.Ordering.{nat_cmp, int_cmp, int_eq, is_eq, ordering_reverse}
use Rattle.std.specs.declared.cmp.Ordering.{Ordering}
use Rattle.std.specs.declared.cmp.Ordering.TheVariants.{Less, Equal, Greater}
use Rattle.vast_value.specs.declared.kind.Elem.TheVariants as elem
use Rattle.vast_value.specs.declared.transport.Transport.{Transport}
use Rattle.vast_value.specs.declared.value.Value.{Value}
use Rattle.vast_value.specs.declared.value.Value.TheVariants as value
use Rattle.vast_value.specs.Kinds.{elem_of, elem_eq}
use Rattle.vast_value.specs.Values.{order_of}
use Rattle.query_meaning.specs.Agreement.{is_ordered}
use Rattle.query_meaning.specs.Relations.{goes_with, is_less, is_greater, is_equal, takes_transport, order_to}
use Rattle.query_meaning.specs.Laws.{just_one, are_ordered, Trichotomy, OrEqual, NoOrder}

one_of : (o : Ordering) → just_one (is_less (Some o)) (is_eq o) (is_greater (Some o)) ≡ true
one_of Less = refl
one_of Equal = refl
one_of Greater = refl

equal_is : (o : Ordering) → is_equal (Some o) ≡ is_eq o
equal_is Less = refl
equal_is Equal = refl
equal_is Greater = refl

turned : (o : Ordering) → is_eq (ordering_reverse o) ≡ is_eq o
turned Less = refl
turned Equal = refl
turned Greater = refl

-- two numbers are equal whichever stands first
equal_numbers : (n m : ℕ) → (n == m) ≡ is_eq (nat_cmp m n)
equal_numbers n m = grind (arith, nat_tests)

equal_signed : (n m : ℤ) → int_eq n m ≡ is_eq (int_cmp m n)
equal_signed n m = ap is_eq (int_cmp_total.antisymm n m) ∙ turned (int_cmp m n)

-- the parts of an order, once equality is told by it
parts : (o : Ordering) (same : Bool) → same ≡ is_eq o → just_one (is_less (Some o)) same (is_greater (Some o)) ≡ true
parts o same e = rw e (one_of o)

at_most : (o : Ordering) (same : Bool) → same ≡ is_eq o → ((is_less (Some o) || is_equal (Some o)) ≡ (is_less (Some o) || same)) × ((is_greater (Some o) || is_equal (Some o)) ≡ (is_greater (Some o) || same))
at_most o same e = (rw (e, equal_is o) refl, rw (e, equal_is o) refl)

one_of_ports : (p q : ℕ) (over by : Transport) → Trichotomy (value.Port p over) (value.Port q by)
one_of_ports p q over by h = rw h (grind (arith, nat_tests))

pub trichotomy : (literal v : Value) → Trichotomy literal v
trichotomy (value.Count n) (value.Count m) h = parts (nat_cmp m n) (n == m) (equal_numbers n m)
trichotomy (value.Int n) (value.Int m) h = parts (int_cmp m n) (int_eq n m) (equal_signed n m)
trichotomy (value.Time n) (value.Time m) h = parts (int_cmp m n) (int_eq n m) (equal_signed n m)
trichotomy (value.Span n) (value.Span m) h = parts (int_cmp m n) (int_eq n m) (equal_signed n m)
trichotomy (value.Port p over) (value.Port q by) h = one_of_ports p q over by h
trichotomy _ _ h = absurd cc

same_port : (same taken : Bool) → taken ≡ true → same ≡ (same && taken)
same_port true taken h = sym h
same_port false taken h = refl

ports_or_equal : (p q : ℕ) (over by : Transport) → OrEqual (value.Port p over) (value.Port q by)
ports_or_equal p q over by h =
    let same : (p == q && takes_transport over by) ≡ is_eq (nat_cmp q p) = sym (same_port (p == q) (takes_transport over by) h) ∙ equal_numbers p q in
    let order : order_to (value.Port p over) (value.Port q by) ≡ Some (nat_cmp q p) = rw h refl in
    rw order (at_most (nat_cmp q p) (p == q && takes_transport over by) same)

pub or_equal : (literal v : Value) → OrEqual literal v
or_equal (value.Count n) (value.Count m) h = at_most (nat_cmp m n) (n == m) (equal_numbers n m)
or_equal (value.Int n) (value.Int m) h = at_most (int_cmp m n) (int_eq n m) (equal_signed n m)
or_equal (value.Time n) (value.Time m) h = at_most (int_cmp m n) (int_eq n m) (equal_signed n m)
or_equal (value.Span n) (value.Span m) h = at_most (int_cmp m n) (int_eq n m) (equal_signed n m)
or_equal (value.Port p over) (value.Port q by) h = ports_or_equal p q over by h
or_equal _ _ h = absurd cc

-- values of two kinds, or of one that has no order, have none
order_none : (v literal : Value) → (is_ordered (elem_of literal) && elem_eq (elem_of literal) (elem_of v)) ≡ false → order_of v literal ≡ None
order_none (value.Count n) (value.Count m) h = absurd cc
order_none (value.Int n) (value.Int m) h = absurd cc
order_none (value.Time n) (value.Time m) h = absurd cc
order_none (value.Span n) (value.Span m) h = absurd cc
order_none (value.Port p over) (value.Port q by) h = absurd cc
order_none _ _ h = refl

port_none : (p q : ℕ) (over by : Transport) → takes_transport over by ≡ false → order_to (value.Port p over) (value.Port q by) ≡ None
port_none p q over by h = rw h refl

no_order_to : (literal v : Value) → are_ordered literal v ≡ false → order_to literal v ≡ None
no_order_to (value.Port p over) (value.Port q by) h = port_none p q over by h
no_order_to literal v h = order_none v literal h

none_holds : (o : Option Ordering) → o ≡ None → (is_less o || ((is_less o || is_equal o) || (is_greater o || (is_greater o || is_equal o)))) ≡ false
none_holds None e = refl
none_holds (Some o) e = absurd cc

pub no_order : (literal v : Value) → NoOrder literal v
no_order literal v h = none_holds (order_to literal v) (no_order_to literal v h)

unrelated_ports : (p q : ℕ) (over by : Transport) → (is_ordered elem.Port && goes_with elem.Port elem.Port) ≡ false → order_to (value.Port p over) (value.Port q by) ≡ None
unrelated_ports p q over by h = absurd cc

-- kinds that the table of `<` does not relate have no order
unordered : (v literal : Value) → (is_ordered (elem_of literal) && goes_with (elem_of literal) (elem_of v)) ≡ false → order_of v literal ≡ None
unordered (value.Count n) (value.Count m) h = absurd cc
unordered (value.Int n) (value.Int m) h = absurd cc
unordered (value.Time n) (value.Time m) h = absurd cc
unordered (value.Span n) (value.Span m) h = absurd cc
unordered (value.Port p over) (value.Port q by) h = absurd cc
unordered _ _ h = refl

pub related_order : (literal v : Value) → (is_ordered (elem_of literal) && goes_with (elem_of literal) (elem_of v)) ≡ false → order_to literal v ≡ None
related_order (value.Port p over) (value.Port q by) h = unrelated_ports p q over by h
related_order literal v h = unordered v literal h
