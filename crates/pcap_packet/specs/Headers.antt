-- What an IP packet carries: its protocol and ports, and the extension headers of IPv6.
use Rattle.std.specs.Prelude.{ℕ, zero, suc, ◌+◌, ◌*◌, ◌/◌, ◌==◌, ◌||◌, ◌&&◌, Bool, false, not, nat_lt, if◌then◌else◌, List, length, drop, slice_index, Option, Some, None}
use Rattle.pcap_packet.specs.Numbers.{number_at}
use Rattle.pcap_packet.specs.declared.parts.Ports.{Ports}
use Rattle.pcap_packet.specs.declared.parts.Carried.{Carried}

-- TCP and UDP begin with the source port and the target port, two bytes each
abbrev pub ports_of : ℕ → List ℕ → Option Ports
ports_of protocol bytes =
    if not (protocol == 6) && not (protocol == 17) then None
    else (if nat_lt (length bytes) 4 then None
    else Some (record { source = number_at 2 0 bytes; target = number_at 2 2 bytes }))

-- a protocol, and the bytes of it
abbrev pub reached : ℕ → List ℕ → Carried
reached protocol bytes = record { protocol = Some protocol; ports = ports_of protocol bytes }

-- a protocol of which no ports are seen
abbrev pub portless : ℕ → Carried
portless protocol = record { protocol = Some protocol; ports = None }

abbrev pub nothing_carried : Carried
nothing_carried = record { protocol = None; ports = None }

-- hop-by-hop options, routing, a fragment, destination options
abbrev pub is_further : ℕ → Bool
is_further next = next == 0 || next == 43 || next == 44 || next == 60

-- how many bytes of a extension header must be captured
abbrev pub needed : ℕ → ℕ
needed next = if next == 44 then 8 else 2

-- a fragment's header has 8 bytes, another tells its length in units of 8 beyond the first
abbrev pub header_length : ℕ → List ℕ → ℕ
header_length next bytes = if next == 44 then 8 else 8 * (slice_index bytes 1 + 1)

-- a fragment whose offset, the upper 13 bits of bytes 2 and 3, is above 0
abbrev pub is_later_fragment : ℕ → List ℕ → Bool
is_later_fragment next bytes = if next == 44 then not (number_at 2 2 bytes / 8 == 0) else false

-- the header `next` stands first in the bytes, and `follow` says what the header behind it leads to
abbrev pub carried_through : (ℕ → List ℕ → Carried) → ℕ → List ℕ → Carried
carried_through follow next bytes =
    if nat_lt (length bytes) (needed next) then nothing_carried
    else (if is_later_fragment next bytes then portless (slice_index bytes 0)
    else follow (slice_index bytes 0) (drop (header_length next bytes) bytes))

-- what stands behind the extension headers, of which at most `most` are followed
unfoldable pub carried_behind : ℕ → ℕ → List ℕ → Carried
carried_behind zero next bytes = if is_further next then nothing_carried else reached next bytes
carried_behind (suc most) next bytes =
    if is_further next then carried_through (carried_behind most) next bytes else reached next bytes
