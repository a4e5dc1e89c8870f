-- Values that the definitions have, computed by the prover. Each is false where its definition is wrong.
use Rattle.std.proofs.Common.{◌≡◌, ℕ, pos, negsuc, true, false, List, [], ◌∷◌, None, Some, is_some, option_map, map, filter, length, nat_le, codes, refl, lit≤}
use Rattle.std.specs.declared.cmp.Ordering.TheVariants.{Less, Equal, Greater}
use Rattle.vast_value.specs.declared.kind.Elem.{Elem}
use Rattle.vast_value.specs.declared.kind.Elem.TheVariants as elem
use Rattle.vast_value.specs.declared.kind.Kind.TheVariants as kind
use Rattle.vast_value.specs.declared.value.Value.TheVariants as value
use Rattle.vast_value.specs.declared.cell.Cell.TheVariants as cell
use Rattle.vast_value.specs.declared.transport.Transport.TheVariants.{Unknown, Tcp, Udp, Icmp}
use Rattle.vast_value.specs.declared.layout.BadLayout.TheVariants.{EmptyPath, NoColumns, TooManyColumns, EmptyName, SameName}
use Rattle.vast_value.specs.Fit.{is_byte, is_i64, most_parts, is_ranged, is_ranged_element, is_ranged_cell}
use Rattle.vast_value.specs.Headings.{Field, fits_field, fits_fields, heading_fault}
use Rattle.vast_value.specs.Kinds.{elem_named, elem_name, elem_eq, elem_of, short_elems, is_element, has_kind}
use Rattle.vast_value.specs.Layouts.{is_empty, most_columns, name_fault}
use Rattle.vast_value.specs.declared.net.Net.{Net}
use Rattle.vast_value.specs.Nets.{net_by, net_of}
use Rattle.vast_value.specs.Ports.{transport_code, transport_coded, transport_eq}
use Rattle.vast_value.specs.Values.{order_of}
use Rattle.vast_value.specs.Views.{number_cell}
use Rattle.vast_value.specs.declared.view.PlainNumber.TheVariants as plain
use Rattle.vast_value.specs.ValueBytes.{number, value_bytes}

-- Ranges: the last number of each type, and the first beyond it.

bytes_end : (is_byte 255 ∷ is_byte 256 ∷ []) ≡ (true ∷ false ∷ [])
bytes_end = refl

signed_end : (is_i64 (pos 9223372036854775807) ∷ is_i64 (pos 9223372036854775808) ∷ is_i64 (negsuc 9223372036854775807) ∷ is_i64 (negsuc 9223372036854775808) ∷ []) ≡ (true ∷ false ∷ true ∷ false ∷ [])
signed_end = refl

ranges_end : (is_ranged (value.Count 18446744073709551615) ∷ is_ranged (value.Count 18446744073709551616) ∷ is_ranged (value.Addr 340282366920938463463374607431768211455) ∷ is_ranged (value.Addr 340282366920938463463374607431768211456) ∷ is_ranged (value.Port 65535 Icmp) ∷ is_ranged (value.Port 65536 Unknown) ∷ is_ranged (value.Text (256 ∷ [])) ∷ is_ranged (value.Name (256 ∷ [])) ∷ []) ≡ (true ∷ false ∷ true ∷ false ∷ true ∷ false ∷ false ∷ false ∷ [])
ranges_end = refl

signed_ranges : (is_ranged (value.Int (pos 9223372036854775808)) ∷ is_ranged (value.Time (pos 9223372036854775808)) ∷ is_ranged (value.Span (pos 9223372036854775808)) ∷ is_ranged (value.Bool false) ∷ []) ≡ (false ∷ false ∷ false ∷ true ∷ [])
signed_ranges = refl

ranges_of_cells : (is_ranged_element None ∷ is_ranged_element (Some (value.Port 65536 Tcp)) ∷ is_ranged_cell cell.Unset ∷ is_ranged_cell (cell.One (value.Port 65536 Tcp)) ∷ is_ranged_cell (cell.Many (None ∷ Some (value.Port 65536 Tcp) ∷ [])) ∷ []) ≡ (true ∷ false ∷ true ∷ false ∷ false ∷ [])
ranges_of_cells = refl

parts_end : most_parts ≡ 16777216
parts_end = refl

-- Kinds: a name for each, and no other name.

abbrev ten_kinds : List Elem
ten_kinds = elem.Bool ∷ elem.Count ∷ elem.Int ∷ elem.Time ∷ elem.Span ∷ elem.Text ∷ elem.Name ∷ elem.Addr ∷ elem.Subnet ∷ elem.Port ∷ []

each_kind_has_its_name : map elem_name ten_kinds ≡ (codes "bool" ∷ codes "count" ∷ codes "int" ∷ codes "time" ∷ codes "interval" ∷ codes "string" ∷ codes "enum" ∷ codes "addr" ∷ codes "subnet" ∷ codes "port" ∷ [])
each_kind_has_its_name = refl

short_kinds_have_five_letters_or_fewer : short_elems ≡ filter (λ e. nat_le (length (elem_name e)) 5) ten_kinds
short_kinds_have_five_letters_or_fewer = refl

each_kind_equals_itself_alone : map (λ e. filter (elem_eq e) ten_kinds) ten_kinds ≡ map (λ e. e ∷ []) ten_kinds
each_kind_equals_itself_alone = refl

names_of_kinds : (elem_named (codes "bool") ∷ elem_named (codes "count") ∷ elem_named (codes "int") ∷ elem_named (codes "time") ∷ elem_named (codes "interval") ∷ elem_named (codes "string") ∷ elem_named (codes "enum") ∷ elem_named (codes "addr") ∷ elem_named (codes "subnet") ∷ elem_named (codes "port") ∷ []) ≡ (Some elem.Bool ∷ Some elem.Count ∷ Some elem.Int ∷ Some elem.Time ∷ Some elem.Span ∷ Some elem.Text ∷ Some elem.Name ∷ Some elem.Addr ∷ Some elem.Subnet ∷ Some elem.Port ∷ [])
names_of_kinds = refl

no_names_of_kinds : (elem_named (codes "double") ∷ elem_named (codes "ports") ∷ elem_named (codes "") ∷ elem_named (codes "Int") ∷ []) ≡ (None ∷ None ∷ None ∷ None ∷ [])
no_names_of_kinds = refl

each_value_has_its_kind : map elem_of (value.Bool true ∷ value.Count 1 ∷ value.Int (pos 1) ∷ value.Time (pos 1) ∷ value.Span (pos 1) ∷ value.Text [] ∷ value.Name [] ∷ value.Addr 1 ∷ value.Subnet (record { base = 0; bits = 0; narrow = lit≤ tt; masked = refl }) ∷ value.Port 1 Tcp ∷ []) ≡ ten_kinds
each_value_has_its_kind = refl

elements : (is_element elem.Text None ∷ is_element elem.Text (Some (value.Name [])) ∷ is_element elem.Name (Some (value.Name [])) ∷ []) ≡ (true ∷ false ∷ true ∷ [])
elements = refl

-- one unset element alone has no kind
kinds_of_containers : (has_kind (cell.Many (None ∷ [])) (kind.SetOf elem.Int) ∷ has_kind (cell.Many (None ∷ None ∷ [])) (kind.VecOf elem.Int) ∷ has_kind (cell.Many []) (kind.SetOf elem.Int) ∷ has_kind (cell.Many (Some (value.Count 1) ∷ [])) (kind.SetOf elem.Int) ∷ has_kind (cell.Many []) (kind.One elem.Int) ∷ []) ≡ (false ∷ true ∷ true ∷ false ∷ false ∷ [])
kinds_of_containers = refl

kinds_of_cells : (has_kind cell.Unset (kind.VecOf elem.Int) ∷ has_kind (cell.One (value.Span (pos 0))) (kind.One elem.Span) ∷ has_kind (cell.One (value.Span (pos 0))) (kind.One elem.Time) ∷ has_kind (cell.One (value.Span (pos 0))) (kind.SetOf elem.Span) ∷ []) ≡ (true ∷ true ∷ false ∷ false ∷ [])
kinds_of_cells = refl

-- Layouts: each fault, the first one, and column 257.

a_list_of_one_is_not_empty : (is_empty {X = ℕ} [] ∷ is_empty {X = ℕ} (0 ∷ []) ∷ []) ≡ (true ∷ false ∷ [])
a_list_of_one_is_not_empty = refl

columns_end : most_columns ≡ 256
columns_end = refl

name_faults : (name_fault 256 (codes "a") false ∷ name_fault 257 [] true ∷ name_fault 3 [] true ∷ name_fault 3 (codes "a") true ∷ []) ≡ (None ∷ Some TooManyColumns ∷ Some (EmptyName 3) ∷ Some (SameName 3) ∷ [])
name_faults = refl

abbrev field : List ℕ → Field
field name = record { name = name; kind = kind.One elem.Int }

heading_faults : (heading_fault (record { path = []; fields = [] }) ∷ heading_fault (record { path = codes "p"; fields = [] }) ∷ heading_fault (record { path = codes "p"; fields = field (codes "a") ∷ field [] ∷ field (codes "a") ∷ [] }) ∷ heading_fault (record { path = codes "p"; fields = field (codes "a") ∷ field (codes "b") ∷ field (codes "a") ∷ [] }) ∷ heading_fault (record { path = codes "p"; fields = field (codes "a") ∷ field (codes "A") ∷ [] }) ∷ []) ≡ (Some EmptyPath ∷ Some NoColumns ∷ Some (EmptyName 2) ∷ Some (SameName 3) ∷ None ∷ [])
heading_faults = refl

-- as many cells as columns, each of its column's kind and in range
fitting : (fits_fields (field (codes "a") ∷ []) (cell.One (value.Int (pos 1)) ∷ []) ∷ fits_fields (field (codes "a") ∷ []) [] ∷ fits_fields [] (cell.Unset ∷ []) ∷ fits_fields (field (codes "a") ∷ []) (cell.One (value.Count 1) ∷ []) ∷ fits_field (field (codes "a")) (cell.One (value.Int (pos 9223372036854775808))) ∷ []) ≡ (true ∷ false ∷ false ∷ false ∷ false ∷ [])
fitting = refl

-- Subnets: at most 128 bits, and no bit of the base past them.

abbrev base_and_bits : Net → ℕ × ℕ
base_and_bits net = (net.base, net.bits)

-- of the two tests each has to hold, and the base and the bits are the ones that were tested
subnets_where_both_tests_hold : map (option_map base_and_bits) (net_by 2 127 true true refl refl ∷ net_by 1 127 true false refl refl ∷ net_by 0 129 false true refl refl ∷ []) ≡ (Some (2, 127) ∷ None ∷ None ∷ [])
subnets_where_both_tests_hold = refl

subnet_faults : ((is_some (net_of 0 129) ∷ is_some (net_of 0 128) ∷ is_some (net_of 1 127) ∷ is_some (net_of 2 127) ∷ []) ≡ (false ∷ true ∷ false ∷ true ∷ []))
unfolding net_of
subnet_faults = refl

-- Ports: by number, and then by transport.

orders : (order_of (value.Port 53 Udp) (value.Port 80 Tcp) ∷ order_of (value.Port 53 Udp) (value.Port 53 Tcp) ∷ order_of (value.Port 53 Unknown) (value.Port 53 Tcp) ∷ order_of (value.Port 53 Udp) (value.Port 53 Icmp) ∷ order_of (value.Port 53 Udp) (value.Port 53 Udp) ∷ []) ≡ (Some Less ∷ Some Greater ∷ Some Less ∷ Some Less ∷ Some Equal ∷ [])
orders = refl

orders_of_numbers : (order_of (value.Count 1) (value.Count 2) ∷ order_of (value.Int (negsuc 1)) (value.Int (negsuc 0)) ∷ order_of (value.Time (pos 2)) (value.Time (pos 1)) ∷ order_of (value.Span (pos 1)) (value.Span (pos 1)) ∷ []) ≡ (Some Less ∷ Some Less ∷ Some Greater ∷ Some Equal ∷ [])
orders_of_numbers = refl

no_orders : (order_of (value.Count 1) (value.Int (pos 2)) ∷ order_of (value.Time (pos 1)) (value.Span (pos 1)) ∷ order_of (value.Text []) (value.Text []) ∷ order_of (value.Addr 1) (value.Addr 2) ∷ order_of (value.Bool false) (value.Bool true) ∷ []) ≡ (None ∷ None ∷ None ∷ None ∷ None ∷ [])
no_orders = refl

each_transport_has_its_code : map transport_code (Unknown ∷ Tcp ∷ Udp ∷ Icmp ∷ []) ≡ (0 ∷ 1 ∷ 2 ∷ 3 ∷ [])
each_transport_has_its_code = refl

transports : (transport_coded 0 ∷ transport_coded 1 ∷ transport_coded 2 ∷ transport_coded 3 ∷ transport_coded 4 ∷ []) ≡ (Some Unknown ∷ Some Tcp ∷ Some Udp ∷ Some Icmp ∷ None ∷ [])
transports = refl

same_transports : (transport_eq Udp Udp ∷ transport_eq Udp Tcp ∷ transport_eq Unknown Tcp ∷ []) ≡ (true ∷ false ∷ false ∷ [])
same_transports = refl

-- Bytes of values: the lowest first, texts behind their length, ports with their transport.

bytes_of_values : (value_bytes (value.Bool true) ∷ value_bytes (value.Count 258) ∷ value_bytes (value.Int (negsuc 1)) ∷ value_bytes (value.Text (codes "ab")) ∷ value_bytes (value.Port 53 Udp) ∷ value_bytes (value.Port 443 Unknown) ∷ []) ≡ ((1 ∷ []) ∷ (2 ∷ 1 ∷ 0 ∷ 0 ∷ 0 ∷ 0 ∷ 0 ∷ 0 ∷ []) ∷ (254 ∷ 255 ∷ 255 ∷ 255 ∷ 255 ∷ 255 ∷ 255 ∷ 255 ∷ []) ∷ (2 ∷ 0 ∷ 0 ∷ 0 ∷ 97 ∷ 98 ∷ []) ∷ (53 ∷ 0 ∷ 2 ∷ []) ∷ (187 ∷ 1 ∷ 0 ∷ []) ∷ [])
unfolding number
bytes_of_values = refl

-- Plain numbers.

plain_numbers : (number_cell (plain.Count 53) ∷ number_cell (plain.Port 53) ∷ []) ≡ (cell.One (value.Count 53) ∷ cell.One (value.Port 53 Unknown) ∷ [])
plain_numbers = refl
