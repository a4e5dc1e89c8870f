-- The parts of a packet, from its link type and its captured bytes.
use Rattle.std.specs.Prelude.{ℕ, ◌+◌, ◌*◌, ◌/◌, ◌%◌, ◌==◌, ◌&&◌, Bool, false, not, nat_lt, nat_le, if◌then◌else◌, List, length, drop, slice_index}
use Rattle.pcap_packet.specs.Numbers.{number_at}
use Rattle.pcap_packet.specs.Parts.{no_parts, between}
use Rattle.pcap_packet.specs.Headers.{reached, portless, carried_behind}
use Rattle.pcap_packet.specs.declared.parts.Parts.{Parts}
use Rattle.pcap_packet.specs.declared.parts.Carried.{Carried}

-- 20 bytes are captured, of version 4, and the head is at least 5 units of 4 bytes long
abbrev pub is_v4_head : List ℕ → Bool
is_v4_head bytes =
    if nat_lt (length bytes) 20 then false
    else slice_index bytes 0 / 16 == 4 && nat_le 5 (slice_index bytes 0 % 16)

-- an IPv4 address in the 128 bits of ::ffff:a.b.c.d
abbrev pub mapped : ℕ → ℕ
mapped address = 0xffff_0000_0000 + address

-- the ports follow the head, whose length counts its options; a fragment with an offset has none
unfoldable pub carried_by_v4 : List ℕ → Carried
carried_by_v4 bytes =
    if not (number_at 2 6 bytes % 8192 == 0) then portless (slice_index bytes 9)
    else reached (slice_index bytes 9) (drop (4 * (slice_index bytes 0 % 16)) bytes)

unfoldable pub parts_of_v4 : List ℕ → Parts
parts_of_v4 bytes =
    if is_v4_head bytes
    then between (mapped (number_at 4 12 bytes)) (mapped (number_at 4 16 bytes)) (carried_by_v4 bytes)
    else no_parts

-- 40 bytes are captured, of version 6
abbrev pub is_v6_head : List ℕ → Bool
is_v6_head bytes = if nat_lt (length bytes) 40 then false else slice_index bytes 0 / 16 == 6

-- at most eight extension headers are followed
unfoldable pub parts_of_v6 : List ℕ → Parts
parts_of_v6 bytes =
    if is_v6_head bytes
    then between (number_at 16 8 bytes) (number_at 16 24 bytes) (carried_behind 8 (slice_index bytes 6) (drop 40 bytes))
    else no_parts

-- the upper half of the first byte tells the version
unfoldable pub parts_of_ip : List ℕ → Parts
parts_of_ip bytes =
    if nat_lt (length bytes) 1 then no_parts
    else (if slice_index bytes 0 / 16 == 4 then parts_of_v4 bytes
    else (if slice_index bytes 0 / 16 == 6 then parts_of_v6 bytes
    else no_parts))

-- what follows a tag, the four bytes 81 00 and two more, where the frame begins with one
abbrev pub untagged : List ℕ → List ℕ
untagged frame = if nat_le 4 (length frame) && number_at 2 0 frame == 0x8100 then drop 4 frame else frame

-- the bytes from the EtherType on, behind at most two tags: the type, and then the content
unfoldable pub parts_of_framed : List ℕ → Parts
parts_of_framed frame =
    let inner = untagged (untagged frame) in
    if nat_lt (length inner) 2 then no_parts
    else (if number_at 2 0 inner == 0x0800 then parts_of_v4 (drop 2 inner)
    else (if number_at 2 0 inner == 0x86dd then parts_of_v6 (drop 2 inner)
    else no_parts))

-- the EtherType stands behind 12 bytes on Ethernet and behind 14 on Linux cooked; raw IP begins at once
abbrev pub parts_of : ℕ → List ℕ → Parts
parts_of link bytes =
    if link == 1 then parts_of_framed (drop 12 bytes)
    else (if link == 113 then parts_of_framed (drop 14 bytes)
    else (if link == 101 then parts_of_ip bytes
    else no_parts))
