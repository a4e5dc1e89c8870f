-- What the definitions give at chosen places. Each is false where its definition is wrong.
use Rattle.std.proofs.Common.{◌≡◌, ℕ, ◌+◌, ◌*◌, true, false, List, [], ◌∷◌, ◌++◌, Option, None, Some, map, take, replicate, refl}
use Rattle.pcap_packet.specs.Headers.{carried_behind, carried_through, header_length, is_further, is_later_fragment, needed, nothing_carried, portless, ports_of, reached}
use Rattle.pcap_packet.specs.Numbers.{number_at}
use Rattle.pcap_packet.specs.Packets.{carried_by_v4, is_v4_head, is_v6_head, mapped, parts_of, parts_of_framed, parts_of_ip, parts_of_v4, parts_of_v6, untagged}
use Rattle.pcap_packet.specs.Parts.{between, no_parts}
use Rattle.pcap_packet.specs.declared.parts.Carried.{Carried}
use Rattle.pcap_packet.specs.declared.parts.Parts.{Parts}
use Rattle.pcap_packet.specs.declared.parts.Ports.{Ports}

abbrev pair : ℕ → ℕ → Ports
pair source target = record { source = source; target = target }

abbrev carrying : Option ℕ → Option Ports → Carried
carrying protocol ports = record { protocol = protocol; ports = ports }

-- the parts in which a packet of both addresses may differ
abbrev shown : ℕ → ℕ → Option ℕ → Option ℕ → Option ℕ → Parts
shown source target protocol source_port target_port = record { source = Some source; target = Some target; protocol = protocol; source_port = source_port; target_port = target_port }

abbrev hidden : Parts
hidden = record { source = None; target = None; protocol = None; source_port = None; target_port = None }

-- Numbers

numbers_are_read_from_their_place_the_highest_byte_first :
    number_at 2 1 (9 ∷ 1 ∷ 2 ∷ 3 ∷ []) ∷ number_at 4 0 (10 ∷ 1 ∷ 2 ∷ 3 ∷ 9 ∷ []) ∷ number_at 1 3 (9 ∷ 1 ∷ 2 ∷ 255 ∷ []) ∷ [] ≡ 258 ∷ 167838211 ∷ 255 ∷ []
numbers_are_read_from_their_place_the_highest_byte_first = refl

-- Parts

no_part_is_set : no_parts ≡ record { source = None; target = None; protocol = None; source_port = None; target_port = None }
no_part_is_set = refl

each_part_has_its_place :
    map (between 1 2) (carrying (Some 3) (Some (pair 4 5)) ∷ carrying (Some 3) None ∷ carrying None None ∷ [])
    ≡ shown 1 2 (Some 3) (Some 4) (Some 5) ∷ shown 1 2 (Some 3) None None ∷ shown 1 2 None None None ∷ []
each_part_has_its_place = refl

-- Ports

-- four bytes of TCP and UDP are ports, three are none, nor are those of the protocols beside
ports_are_two_numbers_of_tcp_and_udp :
    ports_of 6 (3 ∷ 232 ∷ 0 ∷ 53 ∷ []) ∷ ports_of 17 (0 ∷ 53 ∷ 200 ∷ 1 ∷ 9 ∷ []) ∷ ports_of 6 (3 ∷ 232 ∷ 0 ∷ []) ∷ ports_of 17 [] ∷ map (λ p. ports_of p (3 ∷ 232 ∷ 0 ∷ 53 ∷ [])) (1 ∷ 5 ∷ 7 ∷ 16 ∷ 18 ∷ 58 ∷ [])
    ≡ Some (pair 1000 53) ∷ Some (pair 53 51201) ∷ None ∷ None ∷ None ∷ None ∷ None ∷ None ∷ None ∷ None ∷ []
ports_are_two_numbers_of_tcp_and_udp = refl

a_protocol_tells_its_ports :
    reached 6 (3 ∷ 232 ∷ 0 ∷ 53 ∷ []) ∷ reached 17 (3 ∷ 232 ∷ 0 ∷ []) ∷ reached 1 (3 ∷ 232 ∷ 0 ∷ 53 ∷ []) ∷ [] ≡ carrying (Some 6) (Some (pair 1000 53)) ∷ carrying (Some 17) None ∷ carrying (Some 1) None ∷ []
a_protocol_tells_its_ports = refl

a_protocol_may_stand_without_ports : map portless (6 ∷ 17 ∷ []) ≡ carrying (Some 6) None ∷ carrying (Some 17) None ∷ []
a_protocol_may_stand_without_ports = refl

neither_protocol_nor_ports : nothing_carried ≡ record { protocol = None; ports = None }
neither_protocol_nor_ports = refl

-- Extension headers

four_headers_lead_further : map is_further (0 ∷ 43 ∷ 44 ∷ 60 ∷ 1 ∷ 6 ∷ 17 ∷ 42 ∷ 45 ∷ 50 ∷ 51 ∷ 58 ∷ 59 ∷ 61 ∷ []) ≡ true ∷ true ∷ true ∷ true ∷ false ∷ false ∷ false ∷ false ∷ false ∷ false ∷ false ∷ false ∷ false ∷ false ∷ []
four_headers_lead_further = refl

a_fragment_needs_its_eight_bytes : map needed (0 ∷ 43 ∷ 44 ∷ 60 ∷ []) ≡ 2 ∷ 2 ∷ 8 ∷ 2 ∷ []
a_fragment_needs_its_eight_bytes = refl

lengths_count_eight_bytes_beyond_the_first_eight :
    header_length 0 (6 ∷ 0 ∷ []) ∷ header_length 43 (6 ∷ 2 ∷ []) ∷ header_length 60 (6 ∷ 255 ∷ []) ∷ header_length 44 (6 ∷ 2 ∷ []) ∷ [] ≡ 8 ∷ 24 ∷ 2048 ∷ 8 ∷ []
lengths_count_eight_bytes_beyond_the_first_eight = refl

-- the low three bits are none of the offset
a_later_fragment_has_an_offset :
    map (is_later_fragment 44) ((6 ∷ 255 ∷ 0 ∷ 0 ∷ 255 ∷ []) ∷ (6 ∷ 0 ∷ 0 ∷ 7 ∷ []) ∷ (6 ∷ 0 ∷ 0 ∷ 8 ∷ []) ∷ (6 ∷ 0 ∷ 1 ∷ 0 ∷ []) ∷ []) ≡ false ∷ false ∷ true ∷ true ∷ []
a_later_fragment_has_an_offset = refl

no_other_header_is_a_fragment : map (λ next. is_later_fragment next (6 ∷ 0 ∷ 1 ∷ 8 ∷ [])) (0 ∷ 43 ∷ 60 ∷ []) ≡ false ∷ false ∷ false ∷ []
no_other_header_is_a_fragment = refl

-- a header of 8 bytes, and one of 16, before the ports 1000 and 53
abbrev options : ℕ → List ℕ
options next = next ∷ 0 ∷ 1 ∷ 8 ∷ 2 ∷ 2 ∷ 2 ∷ 2 ∷ []

abbrev routing : ℕ → List ℕ
routing next = next ∷ 1 ∷ replicate 14 2

-- a fragment of this offset, with more to follow
abbrev fragment : ℕ → ℕ → List ℕ
fragment next offset = next ∷ 9 ∷ 0 ∷ (8 * offset + 1) ∷ 0 ∷ 0 ∷ 0 ∷ 1 ∷ []

abbrev ports : List ℕ
ports = 3 ∷ 232 ∷ 0 ∷ 53 ∷ 7 ∷ 7 ∷ []

what_stands_behind_a_header_is_followed :
    carried_through reached 0 (options 17 ++ ports) ∷ carried_through reached 43 (routing 6 ++ ports) ∷ carried_through reached 44 (fragment 6 0 ++ ports) ∷ carried_through reached 60 (17 ∷ 0 ∷ []) ∷ []
    ≡ carrying (Some 17) (Some (pair 1000 53)) ∷ carrying (Some 6) (Some (pair 1000 53)) ∷ carrying (Some 6) (Some (pair 1000 53)) ∷ carrying (Some 17) None ∷ []
what_stands_behind_a_header_is_followed = refl

a_later_fragment_is_not_followed :
    carried_through reached 44 (fragment 6 1 ++ ports) ∷ carried_through reached 44 (fragment 43 1 ++ ports) ∷ [] ≡ carrying (Some 6) None ∷ carrying (Some 43) None ∷ []
a_later_fragment_is_not_followed = refl

a_header_cut_off_tells_nothing :
    carried_through reached 0 (17 ∷ []) ∷ carried_through reached 44 (take 7 (fragment 6 0)) ∷ carried_through reached 44 (take 7 (fragment 6 1)) ∷ carried_through reached 44 (fragment 6 0) ∷ []
    ≡ carrying None None ∷ carrying None None ∷ carrying None None ∷ carrying (Some 6) None ∷ []
a_header_cut_off_tells_nothing = refl

-- no header, one and two where one may be followed, and a protocol that is none of the four
only_so_many_headers_are_followed :
    carried_behind 1 17 ports ∷ carried_behind 1 0 (options 17 ++ ports) ∷ carried_behind 1 0 (options 43 ++ routing 17 ++ ports) ∷ carried_behind 2 0 (options 43 ++ routing 17 ++ ports) ∷ carried_behind 0 60 (options 17 ++ ports) ∷ carried_behind 0 6 ports ∷ carried_behind 2 51 (options 17 ++ ports) ∷ []
    ≡ carrying (Some 17) (Some (pair 1000 53)) ∷ carrying (Some 17) (Some (pair 1000 53)) ∷ carrying None None ∷ carrying (Some 17) (Some (pair 1000 53)) ∷ carrying None None ∷ carrying (Some 6) (Some (pair 1000 53)) ∷ carrying (Some 51) None ∷ []
unfolding carried_behind
only_so_many_headers_are_followed = refl

-- IPv4: a head of 5 units from 10.1.2.3 to 10.4.5.6 that must not be cut in fragments, and no byte behind it

abbrev v4_of : ℕ → ℕ → ℕ → ℕ → List ℕ
v4_of first high low protocol = first ∷ 1 ∷ 2 ∷ 3 ∷ 4 ∷ 5 ∷ high ∷ low ∷ 64 ∷ protocol ∷ 8 ∷ 9 ∷ 10 ∷ 1 ∷ 2 ∷ 3 ∷ 10 ∷ 4 ∷ 5 ∷ 6 ∷ []

abbrev v4 : ℕ → List ℕ
v4 protocol = v4_of 0x45 64 0 protocol

abbrev shown_v4 : Option ℕ → Option ℕ → Option ℕ → Parts
shown_v4 protocol source_port target_port = shown 0xffff_0a01_0203 0xffff_0a04_0506 protocol source_port target_port

addresses_are_kept_behind_ffff : map mapped (0 ∷ 0x7f00_0001 ∷ 0xffff_ffff ∷ []) ≡ 281470681743360 ∷ 281472812449793 ∷ 281474976710655 ∷ []
addresses_are_kept_behind_ffff = refl

-- 20 bytes and 19, versions 3, 5 and 6, and heads of 4, 5, 6 and 15 units
heads_of_version_4 :
    map is_v4_head (v4 17 ∷ take 19 (v4 17) ∷ v4_of 0x35 0 0 17 ∷ v4_of 0x55 0 0 17 ∷ v4_of 0x65 0 0 17 ∷ v4_of 0x44 0 0 17 ∷ v4_of 0x46 0 0 17 ∷ v4_of 0x4f 0 0 17 ∷ [])
    ≡ true ∷ false ∷ false ∷ false ∷ false ∷ false ∷ true ∷ true ∷ []
heads_of_version_4 = refl

-- behind 20 bytes, behind 24, cut off, and of a protocol without ports
ports_follow_the_head :
    map carried_by_v4 ((v4 17 ++ ports) ∷ (v4_of 0x46 0 0 6 ++ 1 ∷ 1 ∷ 1 ∷ 0 ∷ ports) ∷ (v4 17 ++ 3 ∷ 232 ∷ 0 ∷ []) ∷ (v4_of 0x4f 0 0 6 ++ ports) ∷ (v4 1 ++ ports) ∷ [])
    ≡ carrying (Some 17) (Some (pair 1000 53)) ∷ carrying (Some 6) (Some (pair 1000 53)) ∷ carrying (Some 17) None ∷ carrying (Some 6) None ∷ carrying (Some 1) None ∷ []
unfolding carried_by_v4
ports_follow_the_head = refl

-- the three high bits are none of the offset: offsets 0, 1, 256 and 4096
a_later_fragment_of_version_4_has_no_ports :
    map carried_by_v4 ((v4_of 0x45 0xe0 0 17 ++ ports) ∷ (v4_of 0x45 0 1 17 ++ ports) ∷ (v4_of 0x45 0x21 0 6 ++ ports) ∷ (v4_of 0x45 0x10 0 6 ++ ports) ∷ [])
    ≡ carrying (Some 17) (Some (pair 1000 53)) ∷ carrying (Some 17) None ∷ carrying (Some 6) None ∷ carrying (Some 6) None ∷ []
unfolding carried_by_v4
a_later_fragment_of_version_4_has_no_ports = refl

packets_of_version_4 :
    map parts_of_v4 ((v4 17 ++ ports) ∷ v4 6 ∷ v4 1 ∷ take 19 (v4 17) ∷ (v4_of 0x44 0 0 17 ++ ports) ∷ (v4_of 0x65 0 0 17 ++ replicate 40 0) ∷ [])
    ≡ shown_v4 (Some 17) (Some 1000) (Some 53) ∷ shown_v4 (Some 6) None None ∷ shown_v4 (Some 1) None None ∷ hidden ∷ hidden ∷ hidden ∷ []
unfolding parts_of_v4 carried_by_v4
packets_of_version_4 = refl

-- IPv6: a head of 40 bytes from 2001::1 to 2002::2

abbrev v6_of : ℕ → ℕ → List ℕ
v6_of first next = first ∷ 1 ∷ 2 ∷ 3 ∷ 4 ∷ 5 ∷ next ∷ 64 ∷ 32 ∷ 1 ∷ replicate 13 0 ++ 1 ∷ 32 ∷ 2 ∷ replicate 13 0 ++ 2 ∷ []

abbrev v6 : ℕ → List ℕ
v6 next = v6_of 0x6f next

abbrev shown_v6 : Option ℕ → Option ℕ → Option ℕ → Parts
shown_v6 protocol source_port target_port = shown 0x2001_0000_0000_0000_0000_0000_0000_0001 0x2002_0000_0000_0000_0000_0000_0000_0002 protocol source_port target_port

heads_of_version_6 : map is_v6_head (v6 17 ∷ take 39 (v6 17) ∷ v6_of 0x60 17 ∷ v6_of 0x45 17 ∷ v6_of 0x5f 17 ∷ v6_of 0x70 17 ∷ []) ≡ true ∷ false ∷ true ∷ false ∷ false ∷ false ∷ []
heads_of_version_6 = refl

-- the ports at once, behind options, none of ICMP, and a header that is cut off
packets_of_version_6 :
    map parts_of_v6 ((v6 17 ++ ports) ∷ (v6 0 ++ options 6 ++ ports) ∷ v6 58 ∷ v6 43 ∷ take 39 (v6 17) ∷ (v6_of 0x45 17 ++ ports) ∷ [])
    ≡ shown_v6 (Some 17) (Some 1000) (Some 53) ∷ shown_v6 (Some 6) (Some 1000) (Some 53) ∷ shown_v6 (Some 58) None None ∷ shown_v6 None None None ∷ hidden ∷ hidden ∷ []
unfolding parts_of_v6 carried_behind
packets_of_version_6 = refl

-- seven headers of 8 bytes: behind them an eighth, an eighth and a ninth, and a later fragment as the eighth and as the ninth
abbrev seven : ℕ → List ℕ
seven next = options 60 ++ options 60 ++ options 60 ++ options 60 ++ options 60 ++ options 60 ++ options next

eight_headers_are_followed_and_no_ninth :
    map parts_of_v6 ((v6 0 ++ seven 43 ++ routing 17 ++ ports) ∷ (v6 0 ++ seven 60 ++ options 43 ++ routing 17 ++ ports) ∷ (v6 0 ++ seven 44 ++ fragment 17 1 ++ ports) ∷ (v6 0 ++ seven 60 ++ options 44 ++ fragment 17 1 ++ ports) ∷ [])
    ≡ shown_v6 (Some 17) (Some 1000) (Some 53) ∷ shown_v6 None None None ∷ shown_v6 (Some 17) None None ∷ shown_v6 None None None ∷ []
unfolding parts_of_v6 carried_behind
eight_headers_are_followed_and_no_ninth = refl

the_first_half_byte_tells_the_version :
    map parts_of_ip ((v4 17 ++ ports) ∷ (v6 17 ++ ports) ∷ (v6_of 0x55 17 ++ ports) ∷ (v6_of 0x06 17 ++ ports) ∷ [] ∷ take 1 (v4 17) ∷ [])
    ≡ shown_v4 (Some 17) (Some 1000) (Some 53) ∷ shown_v6 (Some 17) (Some 1000) (Some 53) ∷ hidden ∷ hidden ∷ hidden ∷ hidden ∷ []
unfolding parts_of_ip parts_of_v4 carried_by_v4 parts_of_v6 carried_behind
the_first_half_byte_tells_the_version = refl

-- Frames

a_tag_is_four_bytes :
    map untagged ((129 ∷ 0 ∷ 5 ∷ 6 ∷ 8 ∷ 0 ∷ 7 ∷ []) ∷ (129 ∷ 0 ∷ 5 ∷ 6 ∷ []) ∷ (129 ∷ 0 ∷ 5 ∷ []) ∷ (8 ∷ 0 ∷ 129 ∷ 0 ∷ 5 ∷ []) ∷ (0 ∷ 129 ∷ 5 ∷ 6 ∷ 8 ∷ []) ∷ (129 ∷ 0 ∷ 5 ∷ 6 ∷ 129 ∷ 0 ∷ 7 ∷ 8 ∷ []) ∷ [])
    ≡ (8 ∷ 0 ∷ 7 ∷ []) ∷ [] ∷ (129 ∷ 0 ∷ 5 ∷ []) ∷ (8 ∷ 0 ∷ 129 ∷ 0 ∷ 5 ∷ []) ∷ (0 ∷ 129 ∷ 5 ∷ 6 ∷ 8 ∷ []) ∷ (129 ∷ 0 ∷ 7 ∷ 8 ∷ []) ∷ []
a_tag_is_four_bytes = refl

abbrev tag : List ℕ
tag = 129 ∷ 0 ∷ 5 ∷ 6 ∷ []

abbrev of_type : ℕ → ℕ → List ℕ → List ℕ
of_type high low content = high ∷ low ∷ content ++ ports

tags_are_followed_twice :
    map parts_of_framed (of_type 8 0 (v4 17) ∷ (tag ++ of_type 8 0 (v4 17)) ∷ (tag ++ tag ++ of_type 8 0 (v4 17)) ∷ (tag ++ tag ++ tag ++ of_type 8 0 (v4 17)) ∷ [])
    ≡ shown_v4 (Some 17) (Some 1000) (Some 53) ∷ shown_v4 (Some 17) (Some 1000) (Some 53) ∷ shown_v4 (Some 17) (Some 1000) (Some 53) ∷ hidden ∷ []
unfolding parts_of_framed parts_of_v4 carried_by_v4
tags_are_followed_twice = refl

-- each type with its version and with the other one, another type, and a type cut off
the_type_tells_the_version :
    map parts_of_framed (of_type 0x86 0xdd (v6 17) ∷ (tag ++ of_type 0x86 0xdd (v6 17)) ∷ of_type 8 0 (v6 17) ∷ of_type 0x86 0xdd (v4 17 ++ replicate 20 0) ∷ of_type 8 6 (v4 17) ∷ of_type 0 8 (v4 17) ∷ (8 ∷ []) ∷ (tag ++ 8 ∷ []) ∷ [])
    ≡ shown_v6 (Some 17) (Some 1000) (Some 53) ∷ shown_v6 (Some 17) (Some 1000) (Some 53) ∷ hidden ∷ hidden ∷ hidden ∷ hidden ∷ hidden ∷ hidden ∷ []
unfolding parts_of_framed parts_of_v4 carried_by_v4 parts_of_v6 carried_behind
the_type_tells_the_version = refl

-- 12 bytes before the type on Ethernet, 14 on Linux cooked, none before raw IP
each_link_has_its_place :
    parts_of 1 (replicate 12 129 ++ of_type 8 0 (v4 17)) ∷ parts_of 113 (replicate 14 129 ++ of_type 8 0 (v4 17)) ∷ parts_of 101 (v4 17 ++ ports) ∷ parts_of 101 (v6 17 ++ ports) ∷ parts_of 113 (replicate 14 129 ++ tag ++ of_type 0x86 0xdd (v6 17)) ∷ []
    ≡ shown_v4 (Some 17) (Some 1000) (Some 53) ∷ shown_v4 (Some 17) (Some 1000) (Some 53) ∷ shown_v4 (Some 17) (Some 1000) (Some 53) ∷ shown_v6 (Some 17) (Some 1000) (Some 53) ∷ shown_v6 (Some 17) (Some 1000) (Some 53) ∷ []
unfolding parts_of_framed parts_of_ip parts_of_v4 carried_by_v4 parts_of_v6 carried_behind
each_link_has_its_place = refl

no_link_is_read_as_another :
    parts_of 1 (replicate 14 129 ++ of_type 8 0 (v4 17)) ∷ parts_of 113 (replicate 12 129 ++ of_type 8 0 (v4 17)) ∷ parts_of 1 (v4 17 ++ ports) ∷ parts_of 101 (replicate 12 129 ++ of_type 8 0 (v4 17)) ∷ parts_of 0 (v4 17 ++ ports) ∷ parts_of 12 (v4 17 ++ ports) ∷ parts_of 1 (replicate 12 129) ∷ []
    ≡ hidden ∷ hidden ∷ hidden ∷ hidden ∷ hidden ∷ hidden ∷ hidden ∷ []
unfolding parts_of_framed parts_of_ip parts_of_v4 carried_by_v4 parts_of_v6 carried_behind
no_link_is_read_as_another = refl
