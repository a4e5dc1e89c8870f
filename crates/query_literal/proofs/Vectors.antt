-- Values that the definitions have, computed by the prover. Each is false where its definition is wrong.
use Rattle.std.proofs.Common.{◌≡◌, ℕ, pos, negsuc, true, false, List, [], ◌∷◌, Option, None, Some, map, option_map, codes, refl}
use Rattle.std.specs.Option.{option_and_then}
use Rattle.vast_value.specs.declared.value.Value.{Value}
use Rattle.vast_value.specs.declared.value.Value.TheVariants as value
use Rattle.vast_value.specs.declared.transport.Transport.TheVariants.{Unknown, Tcp, Udp, Icmp}
use Rattle.vast_value.specs.Nets.{net_of}
use Rattle.jiff_core.specs.Calendar.{days_from_civil}
use Rattle.query_literal.specs.Literals.{behind_byte, before_byte, digits_at, is_at, has_moment_marks, is_date, is_clock, day_of, second_of, part_of, nanoseconds, if_i64_range, plain_moment, moment_of, count_literal, int_literal, span_literal, port_literal, addr_literal, subnet_literal, time_literal, literal_read}

-- Each form alone, and words of the other forms, which it does not read.

what_stands_behind_a_byte : map (behind_byte 64) (codes "@a" ∷ codes "@" ∷ codes "a@" ∷ [] ∷ []) ≡ (Some (codes "a") ∷ Some [] ∷ None ∷ None ∷ [])
what_stands_behind_a_byte = refl

what_stands_before_a_byte : map (before_byte 115) (codes "5ss" ∷ codes "s" ∷ codes "s5" ∷ [] ∷ []) ≡ (Some (codes "5s") ∷ Some [] ∷ None ∷ None ∷ [])
what_stands_before_a_byte = refl

counts_have_no_sign : map count_literal (codes "0" ∷ codes "18446744073709551615" ∷ codes "18446744073709551616" ∷ codes "+5" ∷ codes "5s" ∷ []) ≡ (Some (value.Count 0) ∷ Some (value.Count 18446744073709551615) ∷ None ∷ None ∷ None ∷ [])
counts_have_no_sign = refl

ints_have_a_sign : map int_literal (codes "+5" ∷ codes "-5" ∷ codes "+9223372036854775808" ∷ codes "-9223372036854775808" ∷ codes "-9223372036854775809" ∷ codes "5" ∷ codes "+-5" ∷ []) ≡ (Some (value.Int (pos 5)) ∷ Some (value.Int (negsuc 4)) ∷ None ∷ Some (value.Int (negsuc 9223372036854775807)) ∷ None ∷ None ∷ None ∷ [])
ints_have_a_sign = refl

intervals_end_with_an_s : map span_literal (codes "1.5s" ∷ codes "-5s" ∷ codes "+5s" ∷ codes "5" ∷ codes "5ss" ∷ []) ≡ (Some (value.Span (pos 1500000000)) ∷ Some (value.Span (negsuc 4999999999)) ∷ None ∷ None ∷ None ∷ [])
intervals_end_with_an_s = refl

ports_have_a_transport : map port_literal (codes "65535/udp" ∷ codes "65536/udp" ∷ codes "53/?" ∷ codes "53" ∷ []) ≡ (Some (value.Port 65535 Udp) ∷ None ∷ Some (value.Port 53 Unknown) ∷ None ∷ [])
ports_have_a_transport = refl

addresses_have_no_bits : map addr_literal (codes "0.0.0.1" ∷ codes "::1" ∷ codes "::1/128" ∷ codes "1" ∷ []) ≡ (Some (value.Addr 281470681743361) ∷ Some (value.Addr 1) ∷ None ∷ None ∷ [])
addresses_have_no_bits = refl

-- digits
counts : (literal_read (codes "5") ∷ literal_read (codes "18446744073709551615") ∷ literal_read (codes "18446744073709551616") ∷ literal_read (codes "") ∷ literal_read (codes "5x") ∷ []) ≡ (Some (value.Count 5) ∷ Some (value.Count 18446744073709551615) ∷ None ∷ None ∷ None ∷ [])
unfolding literal_read moment_of
counts = refl

-- digits behind a sign
ints : (literal_read (codes "+5") ∷ literal_read (codes "-5") ∷ literal_read (codes "+9223372036854775807") ∷ literal_read (codes "+9223372036854775808") ∷ literal_read (codes "-9223372036854775808") ∷ literal_read (codes "-9223372036854775809") ∷ literal_read (codes "+") ∷ literal_read (codes "-+5") ∷ []) ≡ (Some (value.Int (pos 5)) ∷ Some (value.Int (negsuc 4)) ∷ Some (value.Int (pos 9223372036854775807)) ∷ None ∷ Some (value.Int (negsuc 9223372036854775807)) ∷ None ∷ None ∷ None ∷ [])
unfolding literal_read moment_of
ints = refl

-- seconds with an `s` behind them, with a minus or none
spans : (literal_read (codes "5s") ∷ literal_read (codes "-5s") ∷ literal_read (codes "5.s") ∷ literal_read (codes "0.5s") ∷ literal_read (codes "+5s") ∷ literal_read (codes "s") ∷ literal_read (codes "5S") ∷ literal_read (codes "5.5") ∷ []) ≡ (Some (value.Span (pos 5000000000)) ∷ Some (value.Span (negsuc 4999999999)) ∷ Some (value.Span (pos 5000000000)) ∷ Some (value.Span (pos 500000000)) ∷ None ∷ None ∷ None ∷ None ∷ [])
unfolding literal_read moment_of
spans = refl

-- digits of at most 65,535 and a transport
ports : (literal_read (codes "65535/?") ∷ literal_read (codes "65536/?") ∷ literal_read (codes "53/tcp") ∷ literal_read (codes "53/udp") ∷ literal_read (codes "53/icmp") ∷ literal_read (codes "53/") ∷ literal_read (codes "53/sctp") ∷ literal_read (codes "/?") ∷ []) ≡ (Some (value.Port 65535 Unknown) ∷ None ∷ Some (value.Port 53 Tcp) ∷ Some (value.Port 53 Udp) ∷ Some (value.Port 53 Icmp) ∷ None ∷ None ∷ None ∷ [])
unfolding literal_read moment_of
ports = refl

-- both forms of addresses
addresses : (literal_read (codes "1.2.3.4") ∷ literal_read (codes "::1") ∷ literal_read (codes "abc") ∷ literal_read (codes "1.2.3") ∷ []) ≡ (Some (value.Addr 281470698652420) ∷ Some (value.Addr 1) ∷ None ∷ None ∷ [])
unfolding literal_read moment_of
addresses = refl

abbrev net_in : Value → Option (ℕ × ℕ)
net_in (value.Subnet n) = Some (n.base, n.bits)
net_in _ = None

-- a subnet literal's base and bits
abbrev net_read : List ℕ → Option (ℕ × ℕ)
net_read word = option_and_then net_in (literal_read word)

subnets_have_bits : map (λ word. option_and_then net_in (subnet_literal word)) (codes "::3/127" ∷ codes "0.0.0.1/32" ∷ codes "0.0.0.1/33" ∷ codes "::3" ∷ codes "53/?" ∷ []) ≡ (Some (2, 127) ∷ Some (281470681743361, 128) ∷ None ∷ None ∷ None ∷ [])
unfolding net_of
subnets_have_bits = refl

-- the most bits of each form, and one more
subnets : (net_read (codes "1.2.3.4/0") ∷ net_read (codes "1.2.3.4/32") ∷ net_read (codes "1.2.3.4/33") ∷ net_read (codes "::/0") ∷ net_read (codes "::1/128") ∷ net_read (codes "::/129") ∷ net_read (codes "1.2.3.4/") ∷ []) ≡ (Some (281470681743360, 96) ∷ Some (281470698652420, 128) ∷ None ∷ Some (0, 0) ∷ Some (1, 128) ∷ None ∷ None ∷ [])
unfolding literal_read moment_of net_of
subnets = refl

times_begin_with_an_at : map time_literal (codes "@1.5" ∷ codes "@-5" ∷ codes "@5s" ∷ codes "@" ∷ codes "5" ∷ []) ≡ (Some (value.Time (pos 1500000000)) ∷ Some (value.Time (negsuc 4999999999)) ∷ None ∷ None ∷ None ∷ [])
unfolding moment_of
times_begin_with_an_at = refl

a_time_may_be_a_moment : time_literal (codes "@2016-03-16T12:34:56Z") ≡ option_map value.Time (moment_of (codes "2016-03-16T12:34:56Z"))
a_time_may_be_a_moment = refl

-- `@` and seconds, with a minus or none, or a moment
times : (literal_read (codes "@5") ∷ literal_read (codes "@-5.") ∷ literal_read (codes "@-9223372036.854775808") ∷ literal_read (codes "@9223372036.854775808") ∷ literal_read (codes "@+5") ∷ literal_read (codes "@5s") ∷ literal_read (codes "@") ∷ literal_read (codes "2016-03-16T12:00:00Z") ∷ []) ≡ (Some (value.Time (pos 5000000000)) ∷ Some (value.Time (negsuc 4999999999)) ∷ Some (value.Time (negsuc 9223372036854775807)) ∷ None ∷ None ∷ None ∷ None ∷ None ∷ [])
unfolding literal_read moment_of
times = refl

digits_from_a_place_on : (digits_at 0 4 (codes "2016-03") ∷ digits_at 5 2 (codes "2016-03") ∷ digits_at 3 2 (codes "2016-03") ∷ digits_at 7 2 (codes "2016-03") ∷ []) ≡ (Some 2016 ∷ Some 3 ∷ None ∷ None ∷ [])
digits_from_a_place_on = refl

a_byte_at_a_place : map (λ place. is_at 45 place (codes "2016-03")) (3 ∷ 4 ∷ 5 ∷ 7 ∷ []) ≡ (false ∷ true ∷ false ∷ false ∷ [])
a_byte_at_a_place = refl

-- whatever stands for the letters, and what follows; each mark that is another; one byte too few
marks_of_moments : map has_moment_marks (codes "yyyy-mm-ddThh:mm:ss" ∷ codes "yyyy-mm-ddThh:mm:ss.5" ∷ codes "yyyy/mm-ddThh:mm:ss" ∷ codes "yyyy-mm/ddThh:mm:ss" ∷ codes "yyyy-mm-ddthh:mm:ss" ∷ codes "yyyy-mm-ddThh.mm:ss" ∷ codes "yyyy-mm-ddThh:mm.ss" ∷ codes "yyyy-mm-ddThh:mm:s" ∷ []) ≡ (true ∷ true ∷ false ∷ false ∷ false ∷ false ∷ false ∷ false ∷ [])
marks_of_moments = refl

-- days that the calendar has and has not
dates : (is_date 2016 2 29 ∷ is_date 2016 2 30 ∷ is_date 1900 2 29 ∷ is_date 2000 2 29 ∷ is_date 2016 4 30 ∷ is_date 2016 4 31 ∷ is_date 2016 12 31 ∷ is_date 2016 13 1 ∷ is_date 2016 0 1 ∷ is_date 2016 1 0 ∷ []) ≡ (true ∷ false ∷ false ∷ true ∷ true ∷ false ∷ true ∷ false ∷ false ∷ false ∷ [])
dates = refl

-- hours to 23, minutes and seconds to 59
clocks : (is_clock 23 59 59 ∷ is_clock 24 0 0 ∷ is_clock 12 60 0 ∷ is_clock 12 0 60 ∷ []) ≡ (true ∷ false ∷ false ∷ false ∷ [])
clocks = refl

-- where the parts of a moment stand
parts : (day_of (codes "2016-03-16T12:34:56") ≡ Some (days_from_civil (pos 2016) 3 16)) × (second_of (codes "2016-03-16T12:34:56") ≡ Some 45296)
parts = (refl, refl)

-- nothing, or a point and one to nine digits
fractions : (part_of (codes "") ∷ part_of (codes ".5") ∷ part_of (codes ".000000001") ∷ part_of (codes ".") ∷ part_of (codes ".0123456789") ∷ part_of (codes ",5") ∷ []) ≡ (Some (0) ∷ Some (500000000) ∷ Some (1) ∷ None ∷ None ∷ None ∷ [])
fractions = refl

-- days, seconds and nanoseconds in one
nanoseconds_of_days : (nanoseconds (negsuc 0) 86399 999999999 ∷ nanoseconds (pos 0) 0 500000000 ∷ nanoseconds (pos 16876) 43200 0 ∷ []) ≡ (negsuc 0 ∷ pos 500000000 ∷ pos 1458129600000000000 ∷ [])
nanoseconds_of_days = refl

-- the nanoseconds of the day, the second and the part
a_moment_is_its_day_second_and_part : plain_moment (codes "2016-03-16T12:34:56.5") ≡ if_i64_range (nanoseconds (days_from_civil (pos 2016) 3 16) 45296 500000000)
a_moment_is_its_day_second_and_part = refl

no_plain_moment_ends_with_a_z : map plain_moment (codes "2016-03-16T12:34:56Z" ∷ codes "2016-03-16T12:34" ∷ codes "2016-02-30T00:00:00" ∷ codes "2016-03-16T24:00:00" ∷ codes "2016-03-16T12:34:56." ∷ []) ≡ (None ∷ None ∷ None ∷ None ∷ None ∷ [])
no_plain_moment_ends_with_a_z = refl

-- both ends of the range, and one nanosecond past each
range : (if_i64_range (pos 9223372036854775807) ∷ if_i64_range (pos 9223372036854775808) ∷ if_i64_range (negsuc 9223372036854775807) ∷ if_i64_range (negsuc 9223372036854775808) ∷ []) ≡ (Some (pos 9223372036854775807) ∷ None ∷ Some (negsuc 9223372036854775807) ∷ None ∷ [])
range = refl

-- each mark and each digit; a day, an hour, a minute and a second that are none
forms_of_moments : (moment_of (codes "2016-02-30T00:00:00Z") ∷ moment_of (codes "2016-03-16T24:00:00Z") ∷ moment_of (codes "2016-03-16T12:60:00Z") ∷ moment_of (codes "2016-03-16T12:00:60Z") ∷ moment_of (codes "2016-03-16T12:00:00") ∷ moment_of (codes "2016-03-16t12:00:00Z") ∷ moment_of (codes "2016/03-16T12:00:00Z") ∷ moment_of (codes "2016-03/16T12:00:00Z") ∷ moment_of (codes "2016-03-16T12.00:00Z") ∷ moment_of (codes "2016-03-16T12:00.00Z") ∷ moment_of (codes "2016-03-16T12:00:00.Z") ∷ moment_of (codes "2016-03-16T12:00:00.0123456789Z") ∷ moment_of (codes "2016-03-16T12:00:00,5Z") ∷ moment_of (codes "2016-3-016T12:00:00Z") ∷ moment_of (codes "201a-03-16T12:00:00Z") ∷ moment_of (codes "2016-03-16T12:00:0Z") ∷ []) ≡ (None ∷ None ∷ None ∷ None ∷ None ∷ None ∷ None ∷ None ∷ None ∷ None ∷ None ∷ None ∷ None ∷ None ∷ None ∷ None ∷ [])
unfolding moment_of
forms_of_moments = refl
