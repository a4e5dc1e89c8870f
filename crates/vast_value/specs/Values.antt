-- The order of values. Ports are ordered by number, and those of one number by transport.
use Rattle.std.specs.Prelude.{Option, None, Some}
use Rattle.std.specs.declared.cmp.Ordering.{Ordering}
use Rattle.std.specs.Ordering.{nat_cmp, int_cmp, ordering_then}
use Rattle.vast_value.specs.declared.value.Value.{Value}
use Rattle.vast_value.specs.declared.value.Value.TheVariants.{Count, Int, Time, Span, Port}
use Rattle.vast_value.specs.Ports.{transport_code}

abbrev pub order_of : Value → Value → Option Ordering
order_of (Count a) (Count b) = Some (nat_cmp a b)
order_of (Int a) (Int b) = Some (int_cmp a b)
order_of (Time a) (Time b) = Some (int_cmp a b)
order_of (Span a) (Span b) = Some (int_cmp a b)
order_of (Port a over) (Port b by) = Some (ordering_then (nat_cmp a b) (nat_cmp (transport_code over) (transport_code by)))
order_of _ _ = None
