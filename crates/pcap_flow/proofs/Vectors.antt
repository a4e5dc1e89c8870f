-- What the definitions give at chosen places. Each is false where its definition is wrong.
use Rattle.std.proofs.Common.{◌≡◌, ℕ, ℤ, pos, negsuc, ◌*◌, true, false, List, [], ◌∷◌, Option, None, Some, codes, map, refl}
use Rattle.pcap_packet.specs.declared.parts.Parts.{Parts}
use Rattle.vast_value.specs.declared.kind.Elem.TheVariants as elem
use Rattle.vast_value.specs.declared.kind.Kind.TheVariants as kind
use Rattle.vast_value.specs.declared.value.Value.TheVariants as value
use Rattle.vast_value.specs.declared.cell.Cell.{Cell}
use Rattle.vast_value.specs.declared.cell.Cell.TheVariants.{Unset, One}
use Rattle.vast_value.specs.declared.transport.Transport.TheVariants.{Unknown}
use Rattle.pcap_flow.specs.Groups.{Group, begins, bytes_if, flow_of, flows_of, groups_after, idle_timeout, members}
use Rattle.pcap_flow.specs.Keys.{endpoint_before, key_between, same_endpoint, same_key}
use Rattle.pcap_flow.specs.Rows.{address_cell, digits, field, flow_heading, flow_row, flow_rows_of, packet_heading, packet_row, port_cell, protocol_cell, protocol_name}
use Rattle.pcap_flow.specs.Sightings.{has_key, key_of, nanoseconds, sighting_of, with_all}
use Rattle.pcap_flow.specs.declared.flow.Flow.{Flow}
use Rattle.pcap_flow.specs.declared.key.Endpoint.{Endpoint}
use Rattle.pcap_flow.specs.declared.key.FlowKey.{FlowKey}
use Rattle.pcap_flow.specs.declared.packet.Packet.{Packet}
use Rattle.pcap_flow.specs.declared.sighting.Sighting.{Sighting}

-- Ends and keys

abbrev endpoint : ℕ → ℕ → Endpoint
endpoint address port = record { address = address; port = port }

abbrev here : Endpoint
here = endpoint 10 1000

abbrev there : Endpoint
there = endpoint 20 53

abbrev key : Endpoint → Endpoint → ℕ → FlowKey
key low high protocol = record { low = low; high = high; protocol = protocol }

an_end_is_an_address_and_a_port : map (same_endpoint here) (here ∷ endpoint 10 1001 ∷ endpoint 11 1000 ∷ endpoint 1000 10 ∷ []) ≡ true ∷ false ∷ false ∷ false ∷ []
an_end_is_an_address_and_a_port = refl

ends_are_ordered_by_address_and_then_by_port :
    map (endpoint_before here) (endpoint 11 7 ∷ endpoint 9 2000 ∷ endpoint 10 1001 ∷ endpoint 10 999 ∷ here ∷ []) ≡ true ∷ false ∷ true ∷ false ∷ false ∷ []
ends_are_ordered_by_address_and_then_by_port = refl

a_key_has_the_lower_end_first :
    key_between here there 6 ∷ key_between there here 6 ∷ key_between (endpoint 10 53) here 17 ∷ key_between here (endpoint 10 53) 17 ∷ key_between here here 6 ∷ []
    ≡ key here there 6 ∷ key here there 6 ∷ key (endpoint 10 53) here 17 ∷ key (endpoint 10 53) here 17 ∷ key here here 6 ∷ []
a_key_has_the_lower_end_first = refl

keys_are_the_same_by_both_ends_and_the_protocol :
    map (same_key (key here there 6)) (key here there 6 ∷ key (endpoint 10 1001) there 6 ∷ key here (endpoint 21 53) 6 ∷ key here there 17 ∷ key there here 6 ∷ []) ≡ true ∷ false ∷ false ∷ false ∷ false ∷ []
keys_are_the_same_by_both_ends_and_the_protocol = refl

-- Packets

abbrev seen : Endpoint → Endpoint → ℕ → ℕ → ℕ → Sighting
seen source target protocol time original = record { source = source; target = target; protocol = protocol; time = time; original = original }

abbrev parts : Option ℕ → Option ℕ → Option ℕ → Option ℕ → Option ℕ → Parts
parts source source_port target target_port protocol = record { source = source; target = target; protocol = protocol; source_port = source_port; target_port = target_port }

abbrev packet : ℤ → ℕ → Parts → Packet
packet time original parts = record { time = time; captured = 40; original = original; parts = parts }

abbrev whole : Parts
whole = parts (Some 10) (Some 1000) (Some 20) (Some 53) (Some 6)

abbrev answering : Parts
answering = parts (Some 20) (Some 53) (Some 10) (Some 1000) (Some 6)

abbrev portless : Parts
portless = parts (Some 10) None (Some 20) None (Some 1)

no_time_is_before_1970 : map nanoseconds (pos 0 ∷ pos 7 ∷ negsuc 0 ∷ negsuc 7 ∷ []) ≡ 0 ∷ 7 ∷ 0 ∷ 0 ∷ []
no_time_is_before_1970 = refl

-- each part is unset once
a_packet_of_a_flow_has_all_five_parts :
    with_all (Some 10) (Some 1000) (Some 20) (Some 53) (Some 6) 7 90 ∷ with_all None (Some 1000) (Some 20) (Some 53) (Some 6) 7 90 ∷ with_all (Some 10) None (Some 20) (Some 53) (Some 6) 7 90 ∷ with_all (Some 10) (Some 1000) None (Some 53) (Some 6) 7 90 ∷ with_all (Some 10) (Some 1000) (Some 20) None (Some 6) 7 90 ∷ with_all (Some 10) (Some 1000) (Some 20) (Some 53) None 7 90 ∷ []
    ≡ Some (seen here there 6 7 90) ∷ None ∷ None ∷ None ∷ None ∷ None ∷ []
a_packet_of_a_flow_has_all_five_parts = refl

-- its original length counts, and not the captured one
packets_are_taken_by_their_parts :
    map sighting_of (packet (pos 7) 90 whole ∷ packet (pos 8) 91 answering ∷ packet (pos 9) 92 portless ∷ []) ≡ Some (seen here there 6 7 90) ∷ Some (seen there here 6 8 91) ∷ None ∷ []
packets_are_taken_by_their_parts = refl

both_directions_have_one_key : map key_of (seen here there 6 7 90 ∷ seen there here 6 8 91 ∷ seen there here 17 8 91 ∷ []) ≡ key here there 6 ∷ key here there 6 ∷ key here there 17 ∷ []
both_directions_have_one_key = refl

packets_of_a_key :
    map (has_key (key here there 6)) (seen here there 6 7 90 ∷ seen there here 6 8 91 ∷ seen here there 17 7 90 ∷ seen (endpoint 10 1001) there 6 7 90 ∷ seen there (endpoint 11 1000) 6 7 90 ∷ seen (endpoint 20 1000) (endpoint 10 53) 6 7 90 ∷ []) ≡ true ∷ true ∷ false ∷ false ∷ false ∷ false ∷ []
packets_of_a_key = refl

-- Flows. A packet goes at so many seconds, another comes back, and others have another protocol.

abbrev there_at : ℕ → Sighting
there_at seconds = seen here there 6 (seconds * 1_000_000_000) 100

abbrev back_at : ℕ → Sighting
back_at seconds = seen there here 6 (seconds * 1_000_000_000) 40

abbrev other_at : ℕ → Sighting
other_at seconds = seen here there 17 (seconds * 1_000_000_000) 7

abbrev group : Sighting → List Sighting → Group
group start others = record { first = start; others = others }

a_flow_stays_open_for_sixty_seconds : idle_timeout ≡ 60 * 1_000_000_000
a_flow_stays_open_for_sixty_seconds = refl

-- 60 seconds are not too late, and a nanosecond more is, in either direction; of other packets none counts
a_packet_begins_a_flow_where_none_is_open :
    begins [] (there_at 5) ∷ begins (there_at 0 ∷ []) (there_at 60) ∷ begins (there_at 0 ∷ []) (back_at 60) ∷ begins (there_at 0 ∷ []) (seen here there 6 60_000_000_001 1) ∷ begins (there_at 0 ∷ []) (seen there here 6 60_000_000_001 1) ∷ begins (other_at 5 ∷ []) (there_at 5) ∷ begins (there_at 0 ∷ other_at 50 ∷ []) (there_at 100) ∷ []
    ≡ true ∷ false ∷ false ∷ true ∷ true ∷ true ∷ true ∷ []
unfolding begins
a_packet_begins_a_flow_where_none_is_open = refl

-- each packet of the key moves the end on, in whatever order they come, and an earlier one comes not too late
the_greatest_time_counts :
    begins (there_at 0 ∷ back_at 50 ∷ []) (there_at 100) ∷ begins (there_at 50 ∷ back_at 0 ∷ []) (there_at 100) ∷ begins (there_at 0 ∷ back_at 30 ∷ []) (there_at 100) ∷ begins (there_at 100 ∷ []) (back_at 5) ∷ []
    ≡ false ∷ false ∷ true ∷ false ∷ []
unfolding begins
the_greatest_time_counts = refl

-- up to the one that comes 61 seconds after the last, and none behind it; the one that comes back 60 seconds later is in
members_are_those_of_the_key_before_the_next_flow :
    members (there_at 0 ∷ []) (key here there 6) (there_at 10 ∷ other_at 20 ∷ back_at 70 ∷ there_at 131 ∷ there_at 132 ∷ []) ∷ members (there_at 0 ∷ []) (key here there 17) (there_at 10 ∷ []) ∷ members (there_at 0 ∷ other_at 1 ∷ []) (key here there 17) (back_at 10 ∷ other_at 20 ∷ []) ∷ []
    ≡ (there_at 10 ∷ back_at 70 ∷ []) ∷ [] ∷ (other_at 20 ∷ []) ∷ []
unfolding members begins
members_are_those_of_the_key_before_the_next_flow = refl

-- a group has nothing else
groups_are_a_first_packet_and_others : (g : Group) → g ≡ group g.first g.others
groups_are_a_first_packet_and_others g = refl

-- in the order of their first packets
packets_are_grouped_by_key_and_time :
    groups_after [] (there_at 0 ∷ other_at 1 ∷ back_at 10 ∷ back_at 71 ∷ other_at 50 ∷ there_at 72 ∷ [])
    ≡ group (there_at 0) (back_at 10 ∷ []) ∷ group (other_at 1) (other_at 50 ∷ []) ∷ group (back_at 71) (there_at 72 ∷ []) ∷ []
unfolding groups_after members begins
packets_are_grouped_by_key_and_time = refl

only_flows_that_begin_behind_are_given : groups_after (there_at 0 ∷ []) (back_at 10 ∷ other_at 20 ∷ there_at 80 ∷ []) ≡ group (other_at 20) [] ∷ group (there_at 80) [] ∷ []
unfolding groups_after members begins
only_flows_that_begin_behind_are_given = refl

-- one of an earlier time than both
a_packet_joins_the_latest_flow : groups_after [] (there_at 10 ∷ there_at 100 ∷ back_at 5 ∷ []) ≡ group (there_at 10) [] ∷ group (there_at 100) (back_at 5 ∷ []) ∷ []
unfolding groups_after members begins
a_packet_joins_the_latest_flow = refl

bytes_count_where_they_should : bytes_if true (there_at 5) ∷ bytes_if false (there_at 5) ∷ [] ≡ 100 ∷ 0 ∷ []
bytes_count_where_they_should = refl

abbrev flow : Endpoint → Endpoint → ℕ → ℕ → ℕ → ℕ → ℕ → ℕ → ℕ → Flow
flow source target protocol start last orig_packets orig_bytes resp_packets resp_bytes = record { source = source; target = target; protocol = protocol; first = start; last = last; orig_packets = orig_packets; orig_bytes = orig_bytes; resp_packets = resp_packets; resp_bytes = resp_bytes }

-- the other end may originate, the greatest time need be neither the first packet's nor the last one's, and may be either
packets_are_counted_by_direction :
    map flow_of (group (seen here there 6 5 100) (seen there here 6 9 40 ∷ seen here there 6 7 60 ∷ []) ∷ group (seen there here 17 5 1) (seen here there 17 3 20 ∷ seen here there 17 4 300 ∷ []) ∷ group (seen here there 6 5 100) (seen here there 6 6 1 ∷ []) ∷ group (seen here there 6 5 0) [] ∷ [])
    ≡ flow here there 6 5 9 2 160 1 40 ∷ flow there here 17 5 5 1 1 2 320 ∷ flow here there 6 5 6 2 101 0 0 ∷ flow here there 6 5 5 1 0 0 0 ∷ []
packets_are_counted_by_direction = refl

-- the originator's port counts too, and a packet from an end to itself is the originator's
ends_of_one_address_are_told_apart :
    map flow_of (group (seen here (endpoint 10 53) 6 5 100) (seen (endpoint 10 53) here 6 6 40 ∷ []) ∷ group (seen here here 6 5 100) (seen here here 6 6 40 ∷ []) ∷ [])
    ≡ flow here (endpoint 10 53) 6 5 6 1 100 1 40 ∷ flow here here 6 5 6 2 140 0 0 ∷ []
ends_of_one_address_are_told_apart = refl

-- two that go and one that comes back within 60 seconds, one without ports, and one too late
abbrev capture : List Packet
capture = packet (pos 1_000_000_000) 100 whole ∷ packet (pos 2_000_000_000) 84 portless ∷ packet (pos 3_000_000_000) 40 answering ∷ packet (pos 2_500_000_000) 60 whole ∷ packet (pos 63_000_000_001) 50 answering ∷ []

packets_with_all_parts_form_flows :
    flows_of capture ≡ flow here there 6 1_000_000_000 3_000_000_000 2 160 1 40 ∷ flow there here 6 63_000_000_001 63_000_000_001 1 50 0 0 ∷ []
unfolding groups_after members begins
packets_with_all_parts_form_flows = refl

-- Rows

small_numbers_are_written_in_decimal_digits :
    map digits (0 ∷ 9 ∷ 10 ∷ 47 ∷ 99 ∷ 100 ∷ 105 ∷ 255 ∷ []) ≡ codes "0" ∷ codes "9" ∷ codes "10" ∷ codes "47" ∷ codes "99" ∷ codes "100" ∷ codes "105" ∷ codes "255" ∷ []
small_numbers_are_written_in_decimal_digits = refl

four_protocols_have_names :
    map protocol_name (6 ∷ 17 ∷ 1 ∷ 58 ∷ 0 ∷ 2 ∷ 7 ∷ 16 ∷ 59 ∷ 132 ∷ []) ≡ codes "tcp" ∷ codes "udp" ∷ codes "icmp" ∷ codes "icmp6" ∷ codes "0" ∷ codes "2" ∷ codes "7" ∷ codes "16" ∷ codes "59" ∷ codes "132" ∷ []
four_protocols_have_names = refl

abbrev name : List ℕ → Cell
name text = One (value.Name text)

abbrev port : ℕ → Cell
port number = One (value.Port number Unknown)

addresses_may_be_unset : map address_cell (None ∷ Some 0 ∷ Some 0xffff_0a01_0203 ∷ []) ≡ Unset ∷ One (value.Addr 0) ∷ One (value.Addr 0xffff_0a01_0203) ∷ []
addresses_may_be_unset = refl

ports_may_be_unset : map port_cell (None ∷ Some 0 ∷ Some 53 ∷ []) ≡ Unset ∷ port 0 ∷ port 53 ∷ []
ports_may_be_unset = refl

protocols_may_be_unset : map protocol_cell (None ∷ Some 17 ∷ Some 0 ∷ []) ≡ Unset ∷ name (codes "udp") ∷ name (codes "0") ∷ []
protocols_may_be_unset = refl

rows_of_packets_tell_what_is_set :
    map packet_row (packet (pos 7) 90 whole ∷ packet (pos 8) 91 portless ∷ packet (pos 9) 92 (parts None None None None None) ∷ [])
    ≡ (One (value.Time (pos 7)) ∷ One (value.Count 40) ∷ One (value.Count 90) ∷ One (value.Addr 10) ∷ port 1000 ∷ One (value.Addr 20) ∷ port 53 ∷ name (codes "tcp") ∷ [])
    ∷ (One (value.Time (pos 8)) ∷ One (value.Count 40) ∷ One (value.Count 91) ∷ One (value.Addr 10) ∷ Unset ∷ One (value.Addr 20) ∷ Unset ∷ name (codes "icmp") ∷ [])
    ∷ (One (value.Time (pos 9)) ∷ One (value.Count 40) ∷ One (value.Count 92) ∷ Unset ∷ Unset ∷ Unset ∷ Unset ∷ Unset ∷ [])
    ∷ []
rows_of_packets_tell_what_is_set = refl

abbrev counts : ℕ → ℕ → ℕ → ℕ → List Cell
counts orig_packets orig_bytes resp_packets resp_bytes = One (value.Count orig_packets) ∷ One (value.Count orig_bytes) ∷ One (value.Count resp_packets) ∷ One (value.Count resp_bytes) ∷ []

-- the duration is the last time less the first
rows_of_flows_tell_ends_duration_and_counts :
    map flow_row (flow here there 17 5 9 2 160 1 40 ∷ flow there here 132 5 5 1 0 0 0 ∷ [])
    ≡ (One (value.Time (pos 5)) ∷ One (value.Addr 10) ∷ port 1000 ∷ One (value.Addr 20) ∷ port 53 ∷ name (codes "udp") ∷ One (value.Span (pos 4)) ∷ counts 2 160 1 40)
    ∷ (One (value.Time (pos 5)) ∷ One (value.Addr 20) ∷ port 53 ∷ One (value.Addr 10) ∷ port 1000 ∷ name (codes "132") ∷ One (value.Span (pos 0)) ∷ counts 1 0 0 0)
    ∷ []
rows_of_flows_tell_ends_duration_and_counts = refl

rows_of_flows_stand_in_the_order_of_first_packets :
    flow_rows_of capture
    ≡ (One (value.Time (pos 1_000_000_000)) ∷ One (value.Addr 10) ∷ port 1000 ∷ One (value.Addr 20) ∷ port 53 ∷ name (codes "tcp") ∷ One (value.Span (pos 2_000_000_000)) ∷ counts 2 160 1 40)
    ∷ (One (value.Time (pos 63_000_000_001)) ∷ One (value.Addr 20) ∷ port 53 ∷ One (value.Addr 10) ∷ port 1000 ∷ name (codes "tcp") ∷ One (value.Span (pos 0)) ∷ counts 1 50 0 0)
    ∷ []
unfolding groups_after members begins
rows_of_flows_stand_in_the_order_of_first_packets = refl

-- Layouts

a_column_holds_single_values : field (codes "n") elem.Port ≡ record { name = codes "n"; kind = kind.One elem.Port }
a_column_holds_single_values = refl

columns_of_packets :
    (packet_heading.path ≡ codes "packet")
    × (map (λ f. f.name) packet_heading.fields ≡ codes "ts" ∷ codes "caplen" ∷ codes "origlen" ∷ codes "src" ∷ codes "sport" ∷ codes "dst" ∷ codes "dport" ∷ codes "proto" ∷ [])
    × (map (λ f. f.kind) packet_heading.fields ≡ map kind.One (elem.Time ∷ elem.Count ∷ elem.Count ∷ elem.Addr ∷ elem.Port ∷ elem.Addr ∷ elem.Port ∷ elem.Name ∷ []))
columns_of_packets = (refl, refl, refl)

columns_of_flows :
    (flow_heading.path ≡ codes "flow")
    × (map (λ f. f.name) flow_heading.fields ≡ codes "ts" ∷ codes "id.orig_h" ∷ codes "id.orig_p" ∷ codes "id.resp_h" ∷ codes "id.resp_p" ∷ codes "proto" ∷ codes "duration" ∷ codes "orig_pkts" ∷ codes "orig_bytes" ∷ codes "resp_pkts" ∷ codes "resp_bytes" ∷ [])
    × (map (λ f. f.kind) flow_heading.fields ≡ map kind.One (elem.Time ∷ elem.Addr ∷ elem.Port ∷ elem.Addr ∷ elem.Port ∷ elem.Name ∷ elem.Span ∷ elem.Count ∷ elem.Count ∷ elem.Count ∷ elem.Count ∷ []))
columns_of_flows = (refl, refl, refl)
