-- Values that the definitions have, computed by the prover. Each is false where its definition is wrong.
use Rattle.std.proofs.Common.{◌≡◌, ℕ, pos, negsuc, true, false, List, [], ◌∷◌, Option, None, Some, map, filter, filter_map, codes, refl}
use Rattle.std.specs.Option.{option_map}
use Rattle.vast_value.specs.declared.kind.Elem.TheVariants as elem
use Rattle.vast_value.specs.declared.kind.Kind.TheVariants as kind
use Rattle.vast_value.specs.declared.value.Value.TheVariants as value
use Rattle.vast_value.specs.declared.cell.Cell.TheVariants as cell
use Rattle.vast_value.specs.declared.net.Net.{Net}
use Rattle.vast_value.specs.declared.transport.Transport.TheVariants.{Unknown, Tcp, Udp, Icmp}
use Rattle.vast_value.specs.Kinds.{every_elem}
use Rattle.vast_value.specs.Nets.{net_of}
use Rattle.vast_value.specs.Ports.{transport_eq}
use Rattle.value_reading.specs.declared.marks.Marks.{Marks}
use Rattle.value_reading.specs.Addresses.{is_colon, is_slash, short_number, octets, dotted_of, is_hexadecimal, digit_value, hexadecimal_behind, group_of, last_groups, groups_to_end, plain_groups, pieces_of, around_gap, number_of_groups, eight_groups, with_gap, gapped, grouped_of, mapped, address_of, subnet, subnet_from, subnet_of}
use Rattle.value_reading.specs.Escapes.{is_byte_escape, unescaped}
use Rattle.value_reading.specs.Numbers.{is_digit, number_behind, number_of, if_at_most, number_up_to, begins_with, is_negative, without_sign, if_i64, int_of, is_point, fraction_of, nanoseconds_of, span_of}
use Rattle.value_reading.specs.Ports.{transport_name, every_transport, transport_named, transport_behind, transport_marked, port_by, from_slash, port_of, marked_port_of}
use Rattle.value_reading.specs.Reading.{bool_of, value_read, empty_value, is_text, set_read, element_read, elements_read, container_read, kind_read, cell_read}

-- Numbers

digits_are_the_bytes_48_to_57 : map is_digit (47 ∷ 48 ∷ 57 ∷ 58 ∷ []) ≡ (false ∷ true ∷ true ∷ false ∷ [])
digits_are_the_bytes_48_to_57 = refl

a_digit_counts_behind_ten_times_the_number : (number_behind 4 [] ∷ number_behind 4 (codes "07") ∷ number_behind 4 (codes "0x") ∷ []) ≡ (Some 4 ∷ Some 407 ∷ None ∷ [])
a_digit_counts_behind_ten_times_the_number = refl

a_number_has_a_digit : map number_of (codes "0" ∷ codes "0190" ∷ [] ∷ codes "1a" ∷ codes "-1" ∷ []) ≡ (Some 0 ∷ Some 190 ∷ None ∷ None ∷ None ∷ [])
a_number_has_a_digit = refl

the_most_is_allowed : map (if_at_most 5) (4 ∷ 5 ∷ 6 ∷ []) ≡ (Some 4 ∷ Some 5 ∷ None ∷ [])
the_most_is_allowed = refl

numbers_up_to_31 : map (number_up_to 31) (codes "31" ∷ codes "32" ∷ codes "0031" ∷ codes "3x" ∷ [] ∷ []) ≡ (Some 31 ∷ None ∷ Some 31 ∷ None ∷ None ∷ [])
numbers_up_to_31 = refl

only_the_first_byte_begins : map (begins_with 64) (codes "@a" ∷ codes "a@" ∷ [] ∷ []) ≡ (true ∷ false ∷ false ∷ [])
only_the_first_byte_begins = refl

a_minus_in_front_is_a_sign : map is_negative (codes "-5" ∷ codes "5-" ∷ codes "+5" ∷ [] ∷ []) ≡ (true ∷ false ∷ false ∷ false ∷ [])
a_minus_in_front_is_a_sign = refl

one_minus_is_taken_off : map without_sign (codes "-5" ∷ codes "5" ∷ codes "--5" ∷ codes "+5" ∷ [] ∷ []) ≡ (codes "5" ∷ codes "5" ∷ codes "-5" ∷ codes "+5" ∷ [] ∷ [])
one_minus_is_taken_off = refl

signed_range : (if_i64 false 9223372036854775807 ∷ if_i64 false 9223372036854775808 ∷ if_i64 true 9223372036854775808 ∷ if_i64 true 9223372036854775809 ∷ if_i64 true 0 ∷ []) ≡ (Some (pos 9223372036854775807) ∷ None ∷ Some (negsuc 9223372036854775807) ∷ None ∷ Some (pos 0) ∷ [])
signed_range = refl

signed_numbers : map int_of (codes "5" ∷ codes "-5" ∷ codes "-0" ∷ codes "9223372036854775808" ∷ codes "+5" ∷ codes "--5" ∷ codes "-" ∷ []) ≡ (Some (pos 5) ∷ Some (negsuc 4) ∷ Some (pos 0) ∷ None ∷ None ∷ None ∷ None ∷ [])
signed_numbers = refl

only_byte_46_is_a_point : map is_point (codes "-./") ≡ (false ∷ true ∷ false ∷ [])
only_byte_46_is_a_point = refl

fractions_are_billionths : map fraction_of ([] ∷ codes "5" ∷ codes "05" ∷ codes "000000001" ∷ codes "0000000001" ∷ codes "5x" ∷ []) ≡ (Some 0 ∷ Some 500000000 ∷ Some 50000000 ∷ Some 1 ∷ None ∷ None ∷ [])
fractions_are_billionths = refl

seconds_are_read_in_nanoseconds : map nanoseconds_of (codes "1" ∷ codes "1." ∷ codes "1.5" ∷ codes "0.000000001" ∷ codes ".5" ∷ codes "1.5.5" ∷ codes "-1" ∷ []) ≡ (Some 1000000000 ∷ Some 1000000000 ∷ Some 1500000000 ∷ Some 1 ∷ None ∷ None ∷ None ∷ [])
seconds_are_read_in_nanoseconds = refl

signed_seconds : map span_of (codes "1.5" ∷ codes "-1.5" ∷ codes "9223372036.854775808" ∷ codes "-9223372036.854775808" ∷ codes "+1" ∷ codes "-" ∷ []) ≡ (Some (pos 1500000000) ∷ Some (negsuc 1499999999) ∷ None ∷ Some (negsuc 9223372036854775807) ∷ None ∷ None ∷ [])
signed_seconds = refl

-- digits up to 2^64 - 1; leading zeros are allowed, signs are not
counts : (value_read elem.Count (codes "007") ∷ value_read elem.Count (codes "18446744073709551615") ∷ value_read elem.Count (codes "18446744073709551616") ∷ value_read elem.Count (codes "0000000000000000000000009") ∷ value_read elem.Count (codes "") ∷ value_read elem.Count (codes "+1") ∷ value_read elem.Count (codes "-1") ∷ value_read elem.Count (codes "1:") ∷ value_read elem.Count (codes "1/") ∷ []) ≡ (Some (value.Count 7) ∷ Some (value.Count 18446744073709551615) ∷ None ∷ Some (value.Count 9) ∷ None ∷ None ∷ None ∷ None ∷ None ∷ [])
unfolding value_read
counts = refl

-- digits with a minus or none, in 64 bits
ints : (value_read elem.Int (codes "-0") ∷ value_read elem.Int (codes "9223372036854775807") ∷ value_read elem.Int (codes "9223372036854775808") ∷ value_read elem.Int (codes "-9223372036854775808") ∷ value_read elem.Int (codes "-9223372036854775809") ∷ value_read elem.Int (codes "+5") ∷ value_read elem.Int (codes "--5") ∷ value_read elem.Int (codes "-") ∷ []) ≡ (Some (value.Int (pos 0)) ∷ Some (value.Int (pos 9223372036854775807)) ∷ None ∷ Some (value.Int (negsuc 9223372036854775807)) ∷ None ∷ None ∷ None ∷ None ∷ [])
unfolding value_read
ints = refl

-- seconds with a minus or none, a point and none to nine digits
times : (value_read elem.Time (codes "1") ∷ value_read elem.Time (codes "1.") ∷ value_read elem.Time (codes "-1.5") ∷ value_read elem.Time (codes "-0.000000001") ∷ value_read elem.Time (codes "1.000000002") ∷ value_read elem.Time (codes "1.0000000000") ∷ value_read elem.Time (codes ".5") ∷ value_read elem.Time (codes "1.5.5") ∷ value_read elem.Time (codes "1.-5") ∷ value_read elem.Time (codes "") ∷ []) ≡ (Some (value.Time (pos 1000000000)) ∷ Some (value.Time (pos 1000000000)) ∷ Some (value.Time (negsuc 1499999999)) ∷ Some (value.Time (negsuc 0)) ∷ Some (value.Time (pos 1000000002)) ∷ None ∷ None ∷ None ∷ None ∷ None ∷ [])
unfolding value_read
times = refl

-- both ends of an interval's range in nanoseconds
spans : (value_read elem.Span (codes "9223372036.854775807") ∷ value_read elem.Span (codes "9223372036.854775808") ∷ value_read elem.Span (codes "-9223372036.854775808") ∷ value_read elem.Span (codes "-9223372036.854775809") ∷ []) ≡ (Some (value.Span (pos 9223372036854775807)) ∷ None ∷ Some (value.Span (negsuc 9223372036854775807)) ∷ None ∷ [])
unfolding value_read
spans = refl

words_of_truth : map bool_of (codes "T" ∷ codes "F" ∷ codes "t" ∷ codes "f" ∷ codes "TF" ∷ [] ∷ []) ≡ (Some true ∷ Some false ∷ None ∷ None ∷ None ∷ None ∷ [])
words_of_truth = refl

-- `T` or `F`
bools : (value_read elem.Bool (codes "T") ∷ value_read elem.Bool (codes "F") ∷ value_read elem.Bool (codes "t") ∷ value_read elem.Bool (codes "TF") ∷ value_read elem.Bool (codes "") ∷ []) ≡ (Some (value.Bool true) ∷ Some (value.Bool false) ∷ None ∷ None ∷ None ∷ [])
unfolding value_read
bools = refl

-- strings and enums are any bytes
texts : (value_read elem.Text (0 ∷ 255 ∷ []) ∷ value_read elem.Name [] ∷ []) ≡ (Some (value.Text (0 ∷ 255 ∷ [])) ∷ Some (value.Name []) ∷ [])
unfolding value_read
texts = refl

-- Addresses

only_byte_58_is_a_colon : map is_colon (codes "9:;") ≡ (false ∷ true ∷ false ∷ [])
only_byte_58_is_a_colon = refl

only_byte_47_is_a_slash : map is_slash (codes "./0") ≡ (false ∷ true ∷ false ∷ [])
only_byte_47_is_a_slash = refl

short_numbers_up_to_32 : map (short_number 32) (codes "32" ∷ codes "33" ∷ codes "007" ∷ codes "0007" ∷ [] ∷ []) ≡ (Some 32 ∷ None ∷ Some 7 ∷ None ∷ None ∷ [])
short_numbers_up_to_32 = refl

four_octets_the_first_highest : map octets ((codes "1" ∷ codes "2" ∷ codes "3" ∷ codes "4" ∷ []) ∷ (codes "1" ∷ codes "2" ∷ codes "3" ∷ []) ∷ (codes "1" ∷ codes "2" ∷ codes "3" ∷ codes "4" ∷ codes "5" ∷ []) ∷ []) ≡ (Some 16909060 ∷ None ∷ None ∷ [])
four_octets_the_first_highest = refl

each_octet_is_at_most_255 : map dotted_of (codes "255.255.255.255" ∷ codes "256.2.3.4" ∷ codes "1.256.3.4" ∷ codes "1.2.256.4" ∷ codes "1.2.3.256" ∷ codes "1.2.3.4." ∷ codes "1:2:3:4" ∷ []) ≡ (Some 4294967295 ∷ None ∷ None ∷ None ∷ None ∷ None ∷ None ∷ [])
each_octet_is_at_most_255 = refl

a_hexadecimal_digit_counts_behind_sixteen_times_the_number : (hexadecimal_behind 1 [] ∷ hexadecimal_behind 1 (codes "aF") ∷ hexadecimal_behind 1 (codes "ag") ∷ []) ≡ (Some 1 ∷ Some 431 ∷ None ∷ [])
a_hexadecimal_digit_counts_behind_sixteen_times_the_number = refl

a_group_has_one_to_four_digits : map group_of (codes "0" ∷ codes "10" ∷ codes "ffff" ∷ codes "0000f" ∷ codes "fg" ∷ [] ∷ []) ≡ (Some 0 ∷ Some 16 ∷ Some 65535 ∷ None ∷ None ∷ None ∷ [])
a_group_has_one_to_four_digits = refl

a_dotted_number_is_two_groups : map last_groups (codes "ab" ∷ codes "1.2.3.4" ∷ codes "1.2.3" ∷ []) ≡ (Some (171 ∷ []) ∷ Some (258 ∷ 772 ∷ []) ∷ None ∷ [])
a_dotted_number_is_two_groups = refl

only_the_last_piece_may_be_dotted : map groups_to_end ([] ∷ (codes "1" ∷ codes "ab" ∷ []) ∷ (codes "1" ∷ codes "1.2.3.4" ∷ []) ∷ (codes "1.2.3.4" ∷ codes "1" ∷ []) ∷ (codes "1" ∷ [] ∷ []) ∷ []) ≡ (Some [] ∷ Some (1 ∷ 171 ∷ []) ∷ Some (1 ∷ 258 ∷ 772 ∷ []) ∷ None ∷ None ∷ [])
only_the_last_piece_may_be_dotted = refl

no_plain_group_is_dotted : map plain_groups ([] ∷ (codes "1" ∷ codes "ab" ∷ []) ∷ (codes "1" ∷ codes "1.2.3.4" ∷ []) ∷ []) ≡ (Some [] ∷ Some (1 ∷ 171 ∷ []) ∷ None ∷ [])
no_plain_group_is_dotted = refl

colons_stand_between_pieces : map pieces_of ([] ∷ codes "1" ∷ codes "1:2" ∷ codes "1:" ∷ codes ":" ∷ []) ≡ ([] ∷ (codes "1" ∷ []) ∷ (codes "1" ∷ codes "2" ∷ []) ∷ (codes "1" ∷ [] ∷ []) ∷ ([] ∷ [] ∷ []) ∷ [])
colons_stand_between_pieces = refl

the_first_gap_divides : map around_gap (codes "1::2" ∷ codes "1::2::3" ∷ codes "::" ∷ codes ":::" ∷ codes "1:2" ∷ codes "1:" ∷ [] ∷ []) ≡ (Some (codes "1", codes "2") ∷ Some (codes "1", codes "2::3") ∷ Some ([], []) ∷ Some ([], codes ":") ∷ None ∷ None ∷ None ∷ [])
the_first_gap_divides = refl

a_group_has_sixteen_bits : map number_of_groups ([] ∷ (1 ∷ 2 ∷ []) ∷ []) ≡ (0 ∷ 65538 ∷ [])
a_group_has_sixteen_bits = refl

neither_seven_nor_nine_groups_are_eight : map eight_groups ((0 ∷ 0 ∷ 0 ∷ 0 ∷ 0 ∷ 0 ∷ 1 ∷ 2 ∷ []) ∷ (0 ∷ 0 ∷ 0 ∷ 0 ∷ 0 ∷ 1 ∷ 2 ∷ []) ∷ (0 ∷ 0 ∷ 0 ∷ 0 ∷ 0 ∷ 0 ∷ 0 ∷ 1 ∷ 2 ∷ []) ∷ []) ≡ (Some 65538 ∷ None ∷ None ∷ [])
neither_seven_nor_nine_groups_are_eight = refl

a_gap_is_one_zero_group_or_more : (with_gap (1 ∷ []) (2 ∷ []) ∷ with_gap [] [] ∷ with_gap (0 ∷ 0 ∷ 0 ∷ 0 ∷ []) (0 ∷ 0 ∷ 1 ∷ []) ∷ with_gap (0 ∷ 0 ∷ 0 ∷ 0 ∷ []) (0 ∷ 0 ∷ 0 ∷ 1 ∷ []) ∷ []) ≡ (Some 5192296858534827628530496329220098 ∷ Some 0 ∷ Some 1 ∷ None ∷ [])
a_gap_is_one_zero_group_or_more = refl

both_sides_of_a_gap : (gapped None (codes "0:0:0:0:0:0:1:2") ∷ gapped None (codes "1:2") ∷ gapped (Some (codes "1", codes "2")) [] ∷ gapped (Some ([], codes "1.2.3.4")) [] ∷ gapped (Some (codes "1.2.3.4", [])) [] ∷ gapped (Some ([], codes ":")) [] ∷ []) ≡ (Some 65538 ∷ None ∷ Some 5192296858534827628530496329220098 ∷ Some 16909060 ∷ None ∷ None ∷ [])
both_sides_of_a_gap = refl

addresses_in_groups : map grouped_of (codes "1::2" ∷ codes "::" ∷ codes "0:0:0:0:0:0:1:2" ∷ codes "::1.2.3.4" ∷ codes "1.2.3.4" ∷ codes "1::2::3" ∷ []) ≡ (Some 5192296858534827628530496329220098 ∷ Some 0 ∷ Some 65538 ∷ Some 16909060 ∷ None ∷ None ∷ [])
addresses_in_groups = refl

ipv4_ends : map mapped (0 ∷ 4294967295 ∷ []) ≡ (281470681743360 ∷ 281474976710655 ∷ [])
ipv4_ends = refl

a_dotted_number_alone_is_mapped : map address_of (codes "0.0.0.1" ∷ codes "::0.0.0.1" ∷ codes "::1" ∷ codes "0.0.1" ∷ []) ≡ (Some 281470681743361 ∷ Some 1 ∷ Some 1 ∷ None ∷ [])
a_dotted_number_alone_is_mapped = refl

-- four numbers of one to three digits, each at most 255
dotted : (value_read elem.Addr (codes "1.2.3.4") ∷ value_read elem.Addr (codes "001.02.3.255") ∷ value_read elem.Addr (codes "1.2.3.256") ∷ value_read elem.Addr (codes "0001.2.3.4") ∷ value_read elem.Addr (codes "1.2.3") ∷ value_read elem.Addr (codes "1.2.3.4.5") ∷ value_read elem.Addr (codes "1..3.4") ∷ []) ≡ (Some (value.Addr 281470698652420) ∷ Some (value.Addr 281470698652671) ∷ None ∷ None ∷ None ∷ None ∷ None ∷ [])
unfolding value_read
dotted = refl

-- eight groups, or `::` once for one or more zero groups
grouped : (value_read elem.Addr (codes "1:2:3:4:5:6:7:8") ∷ value_read elem.Addr (codes "::") ∷ value_read elem.Addr (codes "::1") ∷ value_read elem.Addr (codes "1::") ∷ value_read elem.Addr (codes "FE80::1:aF") ∷ value_read elem.Addr (codes "1:2:3:4:5:6:7::") ∷ value_read elem.Addr (codes "1::3:4:5:6:7:8") ∷ value_read elem.Addr (codes "1:2:3:4:5:6:7") ∷ value_read elem.Addr (codes "1:2:3:4:5:6:7:8:9") ∷ value_read elem.Addr (codes "1:2:3:4:5:6:7::8") ∷ value_read elem.Addr (codes "1::2::3") ∷ value_read elem.Addr (codes ":::") ∷ value_read elem.Addr (codes "12345::") ∷ value_read elem.Addr (codes "g::") ∷ value_read elem.Addr (codes ":1:2:3:4:5:6:7:8") ∷ value_read elem.Addr (codes "") ∷ []) ≡ (Some (value.Addr 5192455318486707404433266433261576) ∷ Some (value.Addr 0) ∷ Some (value.Addr 1) ∷ Some (value.Addr 5192296858534827628530496329220096) ∷ Some (value.Addr 338288524927261089654018896841347760303) ∷ Some (value.Addr 5192455318486707404433266433261568) ∷ Some (value.Addr 5192296862161678875758079345360904) ∷ None ∷ None ∷ None ∷ None ∷ None ∷ None ∷ None ∷ None ∷ None ∷ [])
unfolding value_read
grouped = refl

-- the last two groups as a dotted number, and no others
dotted_groups : (value_read elem.Addr (codes "::ffff:1.2.3.4") ∷ value_read elem.Addr (codes "1:2:3:4:5:6:1.2.3.4") ∷ value_read elem.Addr (codes "1.2.3.4::") ∷ value_read elem.Addr (codes "1:2:3:4:5:6:7:1.2.3.4") ∷ value_read elem.Addr (codes "1.2.3.4:5:6:7:8:9:a") ∷ []) ≡ (Some (value.Addr 281470698652420) ∷ Some (value.Addr 5192455318486707404433266449711876) ∷ None ∷ None ∷ None ∷ [])
unfolding value_read
dotted_groups = refl

-- the hexadecimal digits are the bytes of 0 to 9, A to F and a to f
hexadecimals : (is_hexadecimal 47 ∷ is_hexadecimal 48 ∷ is_hexadecimal 57 ∷ is_hexadecimal 58 ∷ is_hexadecimal 64 ∷ is_hexadecimal 65 ∷ is_hexadecimal 70 ∷ is_hexadecimal 71 ∷ is_hexadecimal 96 ∷ is_hexadecimal 97 ∷ is_hexadecimal 102 ∷ is_hexadecimal 103 ∷ []) ≡ (false ∷ true ∷ true ∷ false ∷ false ∷ true ∷ true ∷ false ∷ false ∷ true ∷ true ∷ false ∷ [])
hexadecimals = refl

-- and their values
hexadecimal_values : (digit_value 48 ∷ digit_value 57 ∷ digit_value 65 ∷ digit_value 70 ∷ digit_value 97 ∷ digit_value 102 ∷ []) ≡ (0 ∷ 9 ∷ 10 ∷ 15 ∷ 10 ∷ 15 ∷ [])
hexadecimal_values = refl

-- a subnet's base and bits
abbrev base_and_bits : Option Net → Option (ℕ × ℕ)
base_and_bits net = option_map (λ (n : Net). (n.base, n.bits)) net

abbrev net_read : List ℕ → Option (ℕ × ℕ)
net_read text = base_and_bits (subnet_of text)

bits_past_the_length_become_0 : map (λ bits. base_and_bits (subnet 3 bits)) (0 ∷ 127 ∷ 128 ∷ 129 ∷ []) ≡ (Some (0, 0) ∷ Some (2, 127) ∷ Some (3, 128) ∷ None ∷ [])
unfolding net_of
bits_past_the_length_become_0 = refl

-- behind 1.2.3.4 at most 32 bits, of its last 32; behind ::3 at most 128; behind no address none
the_form_of_the_address_bounds_the_bits : map base_and_bits (subnet_from (Some 16909060) None (codes "8") ∷ subnet_from (Some 16909060) None (codes "32") ∷ subnet_from (Some 16909060) None (codes "33") ∷ subnet_from None (Some 3) (codes "128") ∷ subnet_from None (Some 3) (codes "129") ∷ subnet_from None None (codes "0") ∷ []) ≡ (Some (281470698520576, 104) ∷ Some (281470698652420, 128) ∷ None ∷ Some (3, 128) ∷ None ∷ None ∷ [])
unfolding net_of
the_form_of_the_address_bounds_the_bits = refl

-- an address and its bits, at most 32 behind the dotted form and else 128; what stands past the bits becomes 0
subnets : (net_read (codes "10.1.2.3/8") ∷ net_read (codes "1.2.3.4/0") ∷ net_read (codes "1.2.3.4/32") ∷ net_read (codes "1.2.3.4/33") ∷ net_read (codes "::ffff:10.0.0.0/104") ∷ net_read (codes "::1/0") ∷ net_read (codes "::3/127") ∷ net_read (codes "::1/128") ∷ net_read (codes "::1/129") ∷ net_read (codes "1.2.3.4/008") ∷ net_read (codes "1.2.3.4/0008") ∷ net_read (codes "1.2.3.4/") ∷ net_read (codes "1.2.3.4") ∷ net_read (codes "1.2.3.4/8/8") ∷ []) ≡ (Some (281470849515520, 104) ∷ Some (281470681743360, 96) ∷ Some (281470698652420, 128) ∷ None ∷ Some (281470849515520, 104) ∷ Some (0, 0) ∷ Some (2, 127) ∷ Some (1, 128) ∷ None ∷ Some (281470698520576, 104) ∷ None ∷ None ∷ None ∷ None ∷ [])
unfolding net_of
subnets = refl

-- Ports

names_of_transports : map transport_name (Unknown ∷ Tcp ∷ Udp ∷ Icmp ∷ []) ≡ (codes "?" ∷ codes "tcp" ∷ codes "udp" ∷ codes "icmp" ∷ [])
names_of_transports = refl

each_transport_is_listed_once : map (λ t. filter (transport_eq t) every_transport) (Unknown ∷ Tcp ∷ Udp ∷ Icmp ∷ []) ≡ ((Unknown ∷ []) ∷ (Tcp ∷ []) ∷ (Udp ∷ []) ∷ (Icmp ∷ []) ∷ [])
each_transport_is_listed_once = refl

named_transports : map transport_named (codes "?" ∷ codes "tcp" ∷ codes "udp" ∷ codes "icmp" ∷ codes "TCP" ∷ codes "tcp/" ∷ [] ∷ []) ≡ (Some Unknown ∷ Some Tcp ∷ Some Udp ∷ Some Icmp ∷ None ∷ None ∷ None ∷ [])
named_transports = refl

no_mark_is_an_unknown_transport : map transport_behind ([] ∷ codes "/?" ∷ codes "/udp" ∷ codes "/" ∷ codes "//udp" ∷ []) ≡ (Some Unknown ∷ Some Unknown ∷ Some Udp ∷ None ∷ None ∷ [])
no_mark_is_an_unknown_transport = refl

no_mark_is_no_marked_transport : map transport_marked ([] ∷ codes "/?" ∷ codes "/udp" ∷ codes "/" ∷ codes "//udp" ∷ []) ≡ (None ∷ Some Unknown ∷ Some Udp ∷ None ∷ None ∷ [])
no_mark_is_no_marked_transport = refl

no_port_is_above_65535 : (port_by (codes "65535") (Some Tcp) ∷ port_by (codes "65536") (Some Tcp) ∷ port_by [] (Some Tcp) ∷ port_by (codes "53") None ∷ []) ≡ (Some (65535, Tcp) ∷ None ∷ None ∷ None ∷ [])
no_port_is_above_65535 = refl

the_first_slash_begins_the_mark : map from_slash (codes "53/tcp" ∷ codes "5/a/b" ∷ codes "/" ∷ codes "53" ∷ []) ≡ (codes "/tcp" ∷ codes "/a/b" ∷ codes "/" ∷ [] ∷ [])
the_first_slash_begins_the_mark = refl

-- digits of at most 65,535, with a transport behind them or without
ports : (port_of (codes "0") ∷ port_of (codes "65535") ∷ port_of (codes "65536") ∷ port_of (codes "65535/?") ∷ port_of (codes "65536/?") ∷ port_of (codes "053/tcp") ∷ port_of (codes "53/udp") ∷ port_of (codes "53/icmp") ∷ port_of (codes "53/") ∷ port_of (codes "53/x") ∷ port_of (codes "53/TCP") ∷ port_of (codes "53/tcp/") ∷ port_of (codes "/tcp") ∷ []) ≡ (Some (0, Unknown) ∷ Some (65535, Unknown) ∷ None ∷ Some (65535, Unknown) ∷ None ∷ Some (53, Tcp) ∷ Some (53, Udp) ∷ Some (53, Icmp) ∷ None ∷ None ∷ None ∷ None ∷ None ∷ [])
ports = refl

-- a literal tells its transport
marked_ports : (marked_port_of (codes "53") ∷ marked_port_of (codes "65535/?") ∷ marked_port_of (codes "65536/?") ∷ marked_port_of (codes "53/tcp") ∷ marked_port_of (codes "53/udp") ∷ marked_port_of (codes "53/icmp") ∷ marked_port_of (codes "53/") ∷ []) ≡ (None ∷ Some (65535, Unknown) ∷ None ∷ Some (53, Tcp) ∷ Some (53, Udp) ∷ Some (53, Icmp) ∷ None ∷ [])
marked_ports = refl

-- Cells

a_byte_escape_is_a_small_x_and_two_digits : (is_byte_escape 120 48 70 ∷ is_byte_escape 88 48 70 ∷ is_byte_escape 120 71 48 ∷ is_byte_escape 120 48 71 ∷ []) ≡ (true ∷ false ∷ false ∷ false ∷ [])
a_byte_escape_is_a_small_x_and_two_digits = refl

-- `\xHH` is a byte and `\\` one backslash; any other backslash stays
escapes : (unescaped (codes "\\x4aB") ∷ unescaped (codes "\\x4A") ∷ unescaped (codes "\\\\x41") ∷ unescaped (codes "\\\\\\x41") ∷ unescaped (codes "\\x4") ∷ unescaped (codes "\\xG0") ∷ unescaped (codes "\\X41") ∷ unescaped (codes "\\n\\") ∷ unescaped (codes "\\x0g") ∷ []) ≡ ((codes "JB") ∷ (codes "J") ∷ (codes "\\x41") ∷ (codes "\\A") ∷ (codes "\\x4") ∷ (codes "\\xG0") ∷ (codes "\\X41") ∷ (codes "\\n\\") ∷ (codes "\\x0g") ∷ [])
escapes = refl

abbrev usual : Marks
usual = record { set_separator = 44; empty = codes "(empty)"; unset = codes "-" }

abbrev other : Marks
other = record { set_separator = 59; empty = codes "E"; unset = codes "\\x" }

abbrev same : Marks
same = record { set_separator = 44; empty = codes "M"; unset = codes "M" }

only_strings_and_enums_are_texts : filter is_text every_elem ≡ (elem.Text ∷ elem.Name ∷ [])
only_strings_and_enums_are_texts = refl

only_texts_may_be_empty : filter_map empty_value every_elem ≡ (value.Text [] ∷ value.Name [] ∷ [])
only_texts_may_be_empty = refl

-- only a string or an enum may be the empty text, by its raw bytes; escapes are undone in every kind
set_cells : (set_read other elem.Text (codes "E") ∷ set_read other elem.Name (codes "E") ∷ set_read other elem.Text (codes "\\x45") ∷ set_read other elem.Count (codes "\\x31") ∷ set_read other elem.Count (codes "E") ∷ set_read (record { set_separator = 44; empty = codes "7"; unset = codes "-" }) elem.Count (codes "7") ∷ []) ≡ (Some (value.Text []) ∷ Some (value.Name []) ∷ Some (value.Text (codes "E")) ∷ Some (value.Count 1) ∷ None ∷ Some (value.Count 7) ∷ [])
unfolding value_read
set_cells = refl

an_unset_element_is_unset_before_it_is_empty : (element_read other elem.Count (codes "\\x") ∷ element_read other elem.Count (codes "1") ∷ element_read other elem.Count (codes "E") ∷ element_read same elem.Text (codes "M") ∷ []) ≡ (Some None ∷ Some (Some (value.Count 1)) ∷ None ∷ Some None ∷ [])
unfolding value_read
an_unset_element_is_unset_before_it_is_empty = refl

one_bad_element_spoils_all : map (elements_read usual elem.Count) ((codes "1" ∷ codes "-" ∷ []) ∷ [] ∷ (codes "x" ∷ codes "1" ∷ []) ∷ (codes "1" ∷ codes "x" ∷ []) ∷ []) ≡ (Some (Some (value.Count 1) ∷ None ∷ []) ∷ Some [] ∷ None ∷ None ∷ [])
unfolding value_read
one_bad_element_spoils_all = refl

the_separator_stands_between_elements : map (container_read other elem.Count) (codes "E" ∷ codes "1;2" ∷ codes "1;E" ∷ codes "1,2" ∷ []) ≡ (Some (cell.Many []) ∷ Some (cell.Many (Some (value.Count 1) ∷ Some (value.Count 2) ∷ [])) ∷ None ∷ None ∷ [])
unfolding value_read
the_separator_stands_between_elements = refl

sets_and_vectors_have_elements : (kind_read usual (kind.One elem.Count) (codes "1") ∷ kind_read usual (kind.SetOf elem.Count) (codes "1") ∷ kind_read usual (kind.VecOf elem.Count) (codes "1") ∷ kind_read usual (kind.One elem.Count) (codes "1,1") ∷ []) ≡ (Some (cell.One (value.Count 1)) ∷ Some (cell.Many (Some (value.Count 1) ∷ [])) ∷ Some (cell.Many (Some (value.Count 1) ∷ [])) ∷ None ∷ [])
unfolding value_read
sets_and_vectors_have_elements = refl

-- a mark is told by its raw bytes, before escapes are undone
marks_first : (cell_read usual (kind.One elem.Text) (codes "-") ∷ cell_read usual (kind.One elem.Text) (codes "\\x2d") ∷ cell_read usual (kind.One elem.Text) (codes "(empty)") ∷ cell_read usual (kind.One elem.Name) (codes "(empty)") ∷ cell_read usual (kind.One elem.Text) (codes "") ∷ cell_read usual (kind.One elem.Count) (codes "(empty)") ∷ cell_read usual (kind.One elem.Count) (codes "\\x31") ∷ cell_read usual (kind.One elem.Count) (codes "-") ∷ []) ≡ (Some (cell.Unset) ∷ Some (cell.One (value.Text (45 ∷ []))) ∷ Some (cell.One (value.Text [])) ∷ Some (cell.One (value.Name [])) ∷ Some (cell.One (value.Text [])) ∷ None ∷ Some (cell.One (value.Count 1)) ∷ Some (cell.Unset) ∷ [])
unfolding cell_read value_read
marks_first = refl

-- an empty container, unset and empty elements, escapes in elements
containers : (cell_read usual (kind.SetOf elem.Count) (codes "(empty)") ∷ cell_read usual (kind.VecOf elem.Text) (codes "-") ∷ cell_read usual (kind.SetOf elem.Count) (codes "1,-,3") ∷ cell_read usual (kind.SetOf elem.Count) (codes "1,(empty)") ∷ cell_read usual (kind.VecOf elem.Count) (codes "") ∷ cell_read usual (kind.VecOf elem.Text) (codes "") ∷ cell_read usual (kind.VecOf elem.Name) (codes "(empty),") ∷ cell_read usual (kind.VecOf elem.Text) (codes "a\\x2cb,\\x2d") ∷ []) ≡ (Some (cell.Many []) ∷ Some (cell.Unset) ∷ Some (cell.Many (Some (value.Count 1) ∷ None ∷ Some (value.Count 3) ∷ [])) ∷ None ∷ None ∷ Some (cell.Many (Some (value.Text []) ∷ [])) ∷ Some (cell.Many (Some (value.Name []) ∷ Some (value.Name []) ∷ [])) ∷ Some (cell.Many (Some (value.Text (codes "a,b")) ∷ Some (value.Text (45 ∷ [])) ∷ [])) ∷ [])
unfolding cell_read value_read
containers = refl

-- marks that a log tells; the unset text comes before the empty one
told_marks : (cell_read other (kind.SetOf elem.Count) (codes "1;\\x") ∷ cell_read other (kind.SetOf elem.Count) (codes "E") ∷ cell_read other (kind.One elem.Text) (codes "\\x") ∷ cell_read other (kind.One elem.Text) (codes "E") ∷ cell_read other (kind.One elem.Text) (codes "-") ∷ cell_read same (kind.One elem.Text) (codes "M") ∷ cell_read same (kind.SetOf elem.Text) (codes "M") ∷ []) ≡ (Some (cell.Many (Some (value.Count 1) ∷ None ∷ [])) ∷ Some (cell.Many []) ∷ Some (cell.Unset) ∷ Some (cell.One (value.Text [])) ∷ Some (cell.One (value.Text (45 ∷ []))) ∷ Some (cell.Unset) ∷ Some (cell.Unset) ∷ [])
unfolding cell_read value_read
told_marks = refl
