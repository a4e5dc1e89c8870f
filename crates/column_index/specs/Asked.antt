-- What is asked of an index of numbers.
use Rattle.std.specs.Prelude.{ℕ, Bool, true, false, not, ◌&&◌, nat_eq, nat_lt}
use Rattle.bits_law.specs.Numbers.{holds}
use Rattle.bits_law.specs.declared.slices.Order.{Order}
use Rattle.bits_law.specs.declared.slices.Order.TheVariants as order
use Rattle.address_index.specs.Addresses.{within}
use Rattle.address_index.specs.Subnets.{Subnet, is_net, net_within, net_covers}
use Rattle.vast_value.specs.declared.transport.Transport.{Transport}
use Rattle.vast_value.specs.declared.transport.Transport.TheVariants.{Unknown}
use Rattle.vast_value.specs.declared.value.Value.{Value}
use Rattle.vast_value.specs.declared.value.Value.TheVariants as value
use Rattle.vast_value.specs.Ports.{transport_code}
use Rattle.column_index.specs.declared.asked.AddressAsked.{AddressAsked}
use Rattle.column_index.specs.declared.asked.AddressAsked.TheVariants as address
use Rattle.column_index.specs.declared.asked.SubnetAsked.{SubnetAsked}
use Rattle.column_index.specs.declared.asked.SubnetAsked.TheVariants as subnet
use Rattle.column_index.specs.declared.asked.TextAsked.{TextAsked}
use Rattle.column_index.specs.declared.asked.TextAsked.TheVariants as text
use Rattle.column_index.specs.declared.asked.PortAsked.{PortAsked}
use Rattle.column_index.specs.declared.asked.PortAsked.TheVariants as port
use Rattle.column_index.specs.declared.asked.Asked.{Asked}
use Rattle.column_index.specs.declared.asked.Asked.TheVariants.{Never, Set, Ordered}
use Rattle.vast_value.specs.declared.cell.Cell.{Cell}
use Rattle.vast_value.specs.declared.cell.Cell.TheVariants as cell
use Rattle.column_index.specs.Columns.{flag_of, port_of, transport_of}
use Rattle.query_meaning.specs.declared.expr.Rel.{Rel}
use Rattle.query_meaning.specs.declared.expr.Rel.TheVariants.{Eq, Ne, Lt, Le, Gt, Ge, Within, Contains}

abbrev pub asked_test : Asked → ℕ → Bool
asked_test Never n = false
asked_test Set n = true
asked_test (Ordered rel key) n = holds rel n key

-- the key is one that the index may have
abbrev pub is_below : ℕ → Asked → Bool
is_below n (Ordered rel key) = nat_lt key n
is_below n _ = true

-- of numbers that are known whole
abbrev pub exactly : Rel → ℕ → Asked
exactly Eq key = Ordered order.Eq key
exactly Ne key = Ordered order.Ne key
exactly Lt key = Ordered order.Lt key
exactly Le key = Ordered order.Le key
exactly Gt key = Ordered order.Gt key
exactly Ge key = Ordered order.Ge key
exactly _ key = Never

-- of those that have no order
abbrev pub equally : Rel → ℕ → Asked
equally Eq key = Ordered order.Eq key
equally Ne key = Ordered order.Ne key
equally _ key = Never

-- of times, whose seconds are known
abbrev pub surely : Rel → ℕ → Asked
surely Ne key = Ordered order.Ne key
surely Lt key = Ordered order.Lt key
surely Le key = Ordered order.Lt key
surely Gt key = Ordered order.Gt key
surely Ge key = Ordered order.Gt key
surely _ key = Never

abbrev pub maybe_so : Rel → ℕ → Asked
maybe_so Eq key = Ordered order.Eq key
maybe_so Ne key = Set
maybe_so Lt key = Ordered order.Le key
maybe_so Le key = Ordered order.Le key
maybe_so Gt key = Ordered order.Ge key
maybe_so Ge key = Ordered order.Ge key
maybe_so _ key = Never

-- of bools
abbrev pub flags_asked : Rel → Value → Asked
flags_asked rel (value.Bool b) = equally rel (flag_of (value.Bool b))
flags_asked rel _ = Never

-- of addresses
abbrev pub address_asked : Rel → Value → AddressAsked
address_asked Eq (value.Addr a) = address.Equal a
address_asked Ne (value.Addr a) = address.Differs a
address_asked Within (value.Subnet n) = address.Within n
address_asked _ _ = address.Never

abbrev pub address_test : AddressAsked → ℕ → Bool
address_test address.Never key = false
address_test (address.Equal a) key = nat_eq key a
address_test (address.Differs a) key = not (nat_eq key a)
address_test (address.Within n) key = within n.base n.bits key

-- of subnets
abbrev pub subnet_asked : Rel → Value → SubnetAsked
subnet_asked Eq (value.Subnet n) = subnet.Equal n
subnet_asked Ne (value.Subnet n) = subnet.Differs n
subnet_asked Within (value.Subnet n) = subnet.Within n
subnet_asked Contains (value.Subnet n) = subnet.Covers n
subnet_asked Contains (value.Addr a) = subnet.Holds a
subnet_asked _ _ = subnet.Never

abbrev pub subnet_test : SubnetAsked → Subnet → Bool
subnet_test subnet.Never key = false
subnet_test (subnet.Equal n) key = is_net n.base n.bits key
subnet_test (subnet.Differs n) key = not (is_net n.base n.bits key)
subnet_test (subnet.Within n) key = net_within n.base n.bits key
subnet_test (subnet.Covers n) key = net_covers n.base n.bits key
subnet_test (subnet.Holds a) key = net_covers a 128 key

-- of ports
abbrev pub port_asked : Rel → Value → PortAsked
port_asked Eq (value.Port p over) = port.Stands order.Eq p over
port_asked Ne (value.Port p over) = port.Differs p over
port_asked Lt (value.Port p over) = port.Stands order.Lt p over
port_asked Le (value.Port p over) = port.Stands order.Le p over
port_asked Gt (value.Port p over) = port.Stands order.Gt p over
port_asked Ge (value.Port p over) = port.Stands order.Ge p over
port_asked _ _ = port.Never

-- whether a port's transport, by its code, is one that the literal takes
abbrev pub transport_test : Transport → ℕ → Bool
transport_test Unknown code = true
transport_test over code = nat_eq code (transport_code over)

abbrev pub stands_test : Order → ℕ → Transport → ℕ → ℕ → Bool
stands_test rel p over number code = holds rel number p && transport_test over code

abbrev pub port_test : PortAsked → ℕ → ℕ → Bool
port_test port.Never number code = false
port_test (port.Stands rel p over) number code = stands_test rel p over number code
port_test (port.Differs p over) number code = not (stands_test order.Eq p over number code)

-- of a cell of a port, false of an unset one
abbrev pub cell_port_test : PortAsked → Cell → Bool
cell_port_test asked (cell.One v) = port_test asked (port_of v) (transport_of v)
cell_port_test asked _ = false

-- of texts
abbrev pub text_asked : Rel → TextAsked
text_asked Eq = text.Equal
text_asked Ne = text.Differs
text_asked Contains = text.Contains
text_asked _ = text.Never

abbrev pub is_contains : Rel → Bool
is_contains Contains = true
is_contains _ = false
