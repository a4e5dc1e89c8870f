-- Values that the definitions have, computed by the prover. Each is false where its definition is wrong.
use Rattle.std.proofs.Common.{◌≡◌, ℕ, pos, negsuc, true, false, List, [], ◌∷◌, None, Some, map, codes, refl, lit≤}
use Rattle.vast_value.specs.declared.net.Net.{Net}
use Rattle.vast_value.specs.declared.value.Value.TheVariants as value
use Rattle.vast_value.specs.declared.cell.Cell.TheVariants as cell
use Rattle.vast_value.specs.declared.transport.Transport.TheVariants.{Unknown, Tcp, Udp, Icmp}
use Rattle.value_writing.specs.declared.place.Place.TheVariants as place
use Rattle.value_writing.specs.declared.run.Run.{Run}
use Rattle.std.specs.Fmt.{digits}
use Rattle.value_writing.specs.Writing.{is_printable, hexadecimal, byte_escape, escaped_byte, escaped_text, is_bare, byte_text, text_text, last_digits, fraction_text, seconds_text, span_text, octets_of, dotted_text, groups_of, group_text, joined_groups, longer_run, is_zero, longest_run, gapped_text, grouped_text, is_mapped, address_text, subnet_text, transport_mark, port_text, value_text, element_text, is_empty_value, cell_text}

-- digits without leading zeros, a minus where negative
numbers : (value_text place.Whole (value.Count 0) ∷ value_text place.Whole (value.Count 18446744073709551615) ∷ value_text place.Whole (value.Int (pos 5)) ∷ value_text place.Whole (value.Int (negsuc 9223372036854775807)) ∷ value_text place.Whole (value.Bool true) ∷ value_text place.Whole (value.Bool false) ∷ []) ≡ ((codes "0") ∷ (codes "18446744073709551615") ∷ (codes "5") ∷ (codes "-9223372036854775808") ∷ (codes "T") ∷ (codes "F") ∷ [])
unfolding value_text digits
numbers = refl

only_a_known_transport_is_marked : map transport_mark (Unknown ∷ Tcp ∷ Udp ∷ Icmp ∷ []) ≡ ([] ∷ codes "/tcp" ∷ codes "/udp" ∷ codes "/icmp" ∷ [])
only_a_known_transport_is_marked = refl

a_port_is_its_number_and_mark : (port_text 65535 Tcp ∷ port_text 0 Unknown ∷ []) ≡ (codes "65535/tcp" ∷ codes "0" ∷ [])
unfolding digits
a_port_is_its_number_and_mark = refl

-- the transport stands where it is known
ports : (value_text place.Whole (value.Port 65535 Unknown) ∷ value_text place.Whole (value.Port 53 Tcp) ∷ value_text place.Whole (value.Port 53 Udp) ∷ value_text place.Whole (value.Port 0 Icmp) ∷ []) ≡ ((codes "65535") ∷ (codes "53/tcp") ∷ (codes "53/udp") ∷ (codes "0/icmp") ∷ [])
unfolding value_text digits
ports = refl

the_last_digits_keep_their_zeros : (last_digits 3 1204 ∷ last_digits 3 7 ∷ last_digits 0 7 ∷ []) ≡ (codes "204" ∷ codes "007" ∷ [] ∷ [])
the_last_digits_keep_their_zeros = refl

six_decimals_where_they_suffice : map fraction_text (0 ∷ 1000 ∷ 999 ∷ 500000000 ∷ 500000001 ∷ []) ≡ (codes "000000" ∷ codes "000001" ∷ codes "000000999" ∷ codes "500000" ∷ codes "500000001" ∷ [])
six_decimals_where_they_suffice = refl

nanoseconds_are_written_in_seconds : map seconds_text (999999999 ∷ 1000000000 ∷ 61500000000 ∷ []) ≡ (codes "0.999999999" ∷ codes "1.000000" ∷ codes "61.500000" ∷ [])
unfolding digits
nanoseconds_are_written_in_seconds = refl

-- six decimals where they suffice, else nine; a minus also before 0
times : (value_text place.Whole (value.Span (pos 0)) ∷ value_text place.Whole (value.Time (pos 1000)) ∷ value_text place.Whole (value.Span (pos 999)) ∷ value_text place.Whole (value.Time (negsuc 0)) ∷ value_text place.Whole (value.Span (negsuc 999999)) ∷ value_text place.Whole (value.Time (pos 1500000000)) ∷ value_text place.Whole (value.Span (pos 1600000000123456789)) ∷ value_text place.Whole (value.Time (negsuc 9223372036854775807)) ∷ []) ≡ ((codes "0.000000") ∷ (codes "0.000001") ∷ (codes "0.000000999") ∷ (codes "-0.000000001") ∷ (codes "-0.001000") ∷ (codes "1.500000") ∷ (codes "1600000000.123456789") ∷ (codes "-9223372036.854775808") ∷ [])
unfolding value_text span_text digits
times = refl

the_first_octet_is_the_highest : map octets_of (16909060 ∷ 4294967295 ∷ []) ≡ ((1 ∷ 2 ∷ 3 ∷ 4 ∷ []) ∷ (255 ∷ 255 ∷ 255 ∷ 255 ∷ []) ∷ [])
the_first_octet_is_the_highest = refl

the_first_group_is_the_highest : map groups_of (5192455318486707404433266433261576 ∷ 340282366920938463463374607431768211455 ∷ []) ≡ ((1 ∷ 2 ∷ 3 ∷ 4 ∷ 5 ∷ 6 ∷ 7 ∷ 8 ∷ []) ∷ (65535 ∷ 65535 ∷ 65535 ∷ 65535 ∷ 65535 ∷ 65535 ∷ 65535 ∷ 65535 ∷ []) ∷ [])
the_first_group_is_the_highest = refl

groups_have_no_leading_zeros : map group_text (0 ∷ 15 ∷ 16 ∷ 254 ∷ 256 ∷ 4077 ∷ 4096 ∷ 65244 ∷ []) ≡ (codes "0" ∷ codes "f" ∷ codes "10" ∷ codes "fe" ∷ codes "100" ∷ codes "fed" ∷ codes "1000" ∷ codes "fedc" ∷ [])
groups_have_no_leading_zeros = refl

colons_stand_between_groups : map joined_groups ([] ∷ (0 ∷ []) ∷ (1 ∷ 171 ∷ 0 ∷ []) ∷ []) ≡ ([] ∷ codes "0" ∷ codes "1:ab:0" ∷ [])
colons_stand_between_groups = refl

abbrev run : ℕ → ℕ → Run
run start count = record { start = start; count = count }

the_first_of_two_runs_that_are_as_long : (longer_run (run 0 3) (run 5 2) ∷ longer_run (run 0 2) (run 5 2) ∷ longer_run (run 0 1) (run 5 2) ∷ []) ≡ (run 0 3 ∷ run 0 2 ∷ run 5 2 ∷ [])
the_first_of_two_runs_that_are_as_long = refl

only_0_is_zero : map is_zero (0 ∷ 1 ∷ []) ≡ (true ∷ false ∷ [])
only_0_is_zero = refl

a_gap_is_two_groups_or_more : (gapped_text (run 1 2) (1 ∷ 0 ∷ 0 ∷ 4 ∷ []) ∷ gapped_text (run 1 1) (1 ∷ 0 ∷ 3 ∷ []) ∷ gapped_text (run 0 3) (0 ∷ 0 ∷ 0 ∷ []) ∷ []) ≡ (codes "1::4" ∷ codes "1:0:3" ∷ codes "::" ∷ [])
a_gap_is_two_groups_or_more = refl

ipv4_ends : map is_mapped (281470681743359 ∷ 281470681743360 ∷ 281474976710655 ∷ 281474976710656 ∷ []) ≡ (false ∷ true ∷ true ∷ false ∷ [])
ipv4_ends = refl

ipv4_is_dotted : map address_text (281470681743359 ∷ 281470681743360 ∷ 1 ∷ []) ≡ (codes "::fffe:ffff:ffff" ∷ codes "0.0.0.0" ∷ codes "::1" ∷ [])
unfolding grouped_text dotted_text digits
ipv4_is_dotted = refl

-- the first longest run of two zero groups or more is the gap; ::ffff:0:0/96 is dotted
addresses : (value_text place.Whole (value.Addr 42540766411282592875351010504635121665) ∷ value_text place.Whole (value.Addr 42540488161975842778997100499009798145) ∷ value_text place.Whole (value.Addr 42540766411282592856904266426630537217) ∷ value_text place.Whole (value.Addr 42540766411282592856903984951653870250) ∷ value_text place.Whole (value.Addr 5192296858534864522018643748323328) ∷ value_text place.Whole (value.Addr 0) ∷ value_text place.Whole (value.Addr 1) ∷ value_text place.Whole (value.Addr 281466554548225) ∷ value_text place.Whole (value.Addr 5192296858534827628530496329220096) ∷ value_text place.Whole (value.Addr 228367255721259569350152084196169879552) ∷ value_text place.Whole (value.Addr 281470849515521) ∷ value_text place.Whole (value.Addr 281474976710655) ∷ []) ≡ ((codes "2001:db8:0:1:1:1:1:1") ∷ (codes "2001:0:0:1::1") ∷ (codes "2001:db8::1:0:0:1") ∷ (codes "2001:db8::aaaa") ∷ (codes "1:0:0:2::") ∷ (codes "::") ∷ (codes "::1") ∷ (codes "::fffe:a00:1") ∷ (codes "1::") ∷ (codes "abcd:ef01:2345:6789:10:f:0:1000") ∷ (codes "10.0.0.1") ∷ (codes "255.255.255.255") ∷ [])
unfolding value_text grouped_text dotted_text digits
addresses = refl

-- a subnet of 96 bits or more within ::ffff:0:0/96 is dotted, with 96 bits less
subnets : (subnet_text (record { base = 281470849515520; bits = 104; narrow = lit≤ tt; masked = refl }) ∷ subnet_text (record { base = 281470681743360; bits = 96; narrow = lit≤ tt; masked = refl }) ∷ subnet_text (record { base = 0; bits = 0; narrow = lit≤ tt; masked = refl }) ∷ subnet_text (record { base = 0; bits = 128; narrow = lit≤ tt; masked = refl }) ∷ subnet_text (record { base = 281470698652420; bits = 128; narrow = lit≤ tt; masked = refl }) ∷ subnet_text (record { base = 281466386776064; bits = 95; narrow = lit≤ tt; masked = refl }) ∷ subnet_text (record { base = 42540766411282592856903984951653826560; bits = 32; narrow = lit≤ tt; masked = refl }) ∷ []) ≡ ((codes "10.0.0.0/8") ∷ (codes "0.0.0.0/0") ∷ (codes "::/0") ∷ (codes "::/128") ∷ (codes "1.2.3.4/32") ∷ (codes "::fffe:0:0/95") ∷ (codes "2001:db8::/32") ∷ [])
unfolding grouped_text dotted_text digits
subnets = refl

hexadecimal_digits_are_small : map hexadecimal (0 ∷ 9 ∷ 10 ∷ 15 ∷ []) ≡ codes "09af"
hexadecimal_digits_are_small = refl

byte_escapes_have_two_digits : map byte_escape (9 ∷ 44 ∷ 175 ∷ []) ≡ (codes "\\x09" ∷ codes "\\x2c" ∷ codes "\\xaf" ∷ [])
byte_escapes_have_two_digits = refl

bytes_that_are_escaped : map escaped_byte (31 ∷ 32 ∷ 44 ∷ 92 ∷ 126 ∷ 127 ∷ []) ≡ (codes "\\x1f" ∷ codes " " ∷ codes "," ∷ codes "\\\\" ∷ codes "~" ∷ codes "\\x7f" ∷ [])
bytes_that_are_escaped = refl

only_between_commas_a_comma_is_escaped : (map (byte_text place.Whole) (codes ",\\a") ∷ map (byte_text place.Element) (codes ",\\a") ∷ []) ≡ ((codes "," ∷ codes "\\\\" ∷ codes "a" ∷ []) ∷ (codes "\\x2c" ∷ codes "\\\\" ∷ codes "a" ∷ []) ∷ [])
only_between_commas_a_comma_is_escaped = refl

-- a mark's first byte is escaped, and no other text's
texts_that_are_marks : (map (text_text place.Whole) (codes "-" ∷ codes "(empty)" ∷ codes "--" ∷ codes "a,b" ∷ []) ∷ map (text_text place.Element) (codes "-" ∷ codes "(empty)" ∷ codes "--" ∷ codes "a,b" ∷ []) ∷ []) ≡ ((codes "\\x2d" ∷ codes "\\x28empty)" ∷ codes "--" ∷ codes "a,b" ∷ []) ∷ (codes "\\x2d" ∷ codes "\\x28empty)" ∷ codes "--" ∷ codes "a\\x2cb" ∷ []) ∷ [])
texts_that_are_marks = refl

-- escapes of a text that is a whole cell
texts_alone : (value_text place.Whole (value.Text []) ∷ value_text place.Whole (value.Text (codes "-")) ∷ value_text place.Whole (value.Text (codes "--")) ∷ value_text place.Whole (value.Text (codes "(empty)")) ∷ value_text place.Whole (value.Text (codes "(empty))")) ∷ value_text place.Whole (value.Text (codes "a,b")) ∷ value_text place.Whole (value.Text (codes "a\\b")) ∷ value_text place.Whole (value.Text (9 ∷ 31 ∷ 32 ∷ 126 ∷ 127 ∷ 255 ∷ [])) ∷ []) ≡ ((codes "") ∷ (codes "\\x2d") ∷ (codes "--") ∷ (codes "\\x28empty)") ∷ (codes "(empty))") ∷ (codes "a,b") ∷ (codes "a\\\\b") ∷ (codes "\\x09\\x1f ~\\x7f\\xff") ∷ [])
unfolding value_text
texts_alone = refl

-- between commas a comma is escaped too
texts_in_containers : (value_text place.Element (value.Name []) ∷ value_text place.Element (value.Name (codes "-")) ∷ value_text place.Element (value.Name (codes "--")) ∷ value_text place.Element (value.Name (codes "(empty)")) ∷ value_text place.Element (value.Name (codes "(empty))")) ∷ value_text place.Element (value.Name (codes "a,b")) ∷ value_text place.Element (value.Name (codes "a\\b")) ∷ value_text place.Element (value.Name (9 ∷ 31 ∷ 32 ∷ 126 ∷ 127 ∷ 255 ∷ [])) ∷ []) ≡ ((codes "") ∷ (codes "\\x2d") ∷ (codes "--") ∷ (codes "\\x28empty)") ∷ (codes "(empty))") ∷ (codes "a\\x2cb") ∷ (codes "a\\\\b") ∷ (codes "\\x09\\x1f ~\\x7f\\xff") ∷ [])
unfolding value_text
texts_in_containers = refl

-- the plain escape knows no marks
plain_escapes : (escaped_text (codes "-") ∷ escaped_text (codes "(empty)") ∷ escaped_text (codes "a,\\") ∷ escaped_text (10 ∷ 126 ∷ 127 ∷ []) ∷ []) ≡ ((codes "-") ∷ (codes "(empty)") ∷ (codes "a,\\\\") ∷ (codes "\\x0a~\\x7f") ∷ [])
plain_escapes = refl

an_unset_element_is_a_minus : map element_text (None ∷ Some (value.Text (codes "-")) ∷ Some (value.Text []) ∷ Some (value.Text (codes "a,b")) ∷ []) ≡ (codes "-" ∷ codes "\\x2d" ∷ [] ∷ codes "a\\x2cb" ∷ [])
unfolding value_text
an_unset_element_is_a_minus = refl

only_texts_are_empty : map is_empty_value (value.Text [] ∷ value.Name [] ∷ value.Text (codes " ") ∷ value.Name (codes " ") ∷ value.Count 0 ∷ []) ≡ (true ∷ true ∷ false ∷ false ∷ false ∷ [])
only_texts_are_empty = refl

-- unset is `-`; an empty container and an empty text alone are `(empty)`; in a container an empty text is no bytes
cells : (cell_text cell.Unset ∷ cell_text (cell.One (value.Text [])) ∷ cell_text (cell.One (value.Name [])) ∷ cell_text (cell.One (value.Text (45 ∷ []))) ∷ cell_text (cell.One (value.Count 7)) ∷ cell_text (cell.Many []) ∷ cell_text (cell.Many (Some (value.Text []) ∷ [])) ∷ cell_text (cell.Many (Some (value.Text []) ∷ Some (value.Text []) ∷ [])) ∷ cell_text (cell.Many (Some (value.Count 1) ∷ None ∷ Some (value.Port 53 Udp) ∷ [])) ∷ cell_text (cell.Many (Some (value.Text (codes "a,b")) ∷ Some (value.Name (45 ∷ [])) ∷ [])) ∷ []) ≡ ((codes "-") ∷ (codes "(empty)") ∷ (codes "(empty)") ∷ (codes "\\x2d") ∷ (codes "7") ∷ (codes "(empty)") ∷ (codes "") ∷ (codes ",") ∷ (codes "1,-,53/udp") ∷ (codes "a\\x2cb,\\x2d") ∷ [])
unfolding cell_text value_text digits
cells = refl

-- the run that becomes the gap: the first of the longest
longest_runs : (longest_run 0 (1 ∷ 0 ∷ 0 ∷ 1 ∷ 0 ∷ 0 ∷ 1 ∷ 1 ∷ []) ∷ longest_run 0 (1 ∷ 0 ∷ 1 ∷ 0 ∷ 0 ∷ []) ∷ []) ≡ (run 1 2 ∷ run 3 2 ∷ [])
longest_runs = refl

-- which bytes stand for themselves
printable : (is_printable 31 ∷ is_printable 32 ∷ is_printable 126 ∷ is_printable 127 ∷ []) ≡ (false ∷ true ∷ true ∷ false ∷ [])
printable = refl

bare : (is_bare place.Whole 44 ∷ is_bare place.Element 44 ∷ is_bare place.Whole 92 ∷ is_bare place.Element 92 ∷ is_bare place.Element 43 ∷ []) ≡ (true ∷ false ∷ false ∷ false ∷ true ∷ [])
bare = refl
