-- The rows of packets and flows, and the headings of their layouts. No row tells the transport of a port: the protocol is
-- a column of its own.
use Rattle.std.specs.Prelude.{ℕ, pos, ◌+◌, ◌-◌, ◌/◌, ◌%◌, ◌==◌, nat_lt, if◌then◌else◌, List, [], ◌∷◌, map, Option, Some, None, codes}
use Rattle.vast_value.specs.declared.kind.Elem.{Elem}
use Rattle.vast_value.specs.declared.kind.Elem.TheVariants as elem
use Rattle.vast_value.specs.declared.kind.Kind.TheVariants.{One as OneOf}
use Rattle.vast_value.specs.declared.value.Value.TheVariants as value
use Rattle.vast_value.specs.declared.cell.Cell.{Cell}
use Rattle.vast_value.specs.declared.cell.Cell.TheVariants.{Unset, One}
use Rattle.vast_value.specs.declared.transport.Transport.TheVariants.{Unknown}
use Rattle.vast_value.specs.Headings.{Field, Heading}
use Rattle.pcap_flow.specs.Groups.{flows_of}
use Rattle.pcap_flow.specs.declared.packet.Packet.{Packet}
use Rattle.pcap_flow.specs.declared.flow.Flow.{Flow}

-- a number of at most three digits
abbrev pub digits : ℕ → List ℕ
digits n =
    if nat_lt n 10 then (48 + n) ∷ []
    else (if nat_lt n 100 then (48 + n / 10) ∷ (48 + n % 10) ∷ []
    else (48 + n / 100) ∷ (48 + n / 10 % 10) ∷ (48 + n % 10) ∷ [])

-- a protocol by its number
abbrev pub protocol_name : ℕ → List ℕ
protocol_name n =
    if n == 6 then codes "tcp"
    else (if n == 17 then codes "udp"
    else (if n == 1 then codes "icmp"
    else (if n == 58 then codes "icmp6"
    else digits n)))

abbrev pub address_cell : Option ℕ → Cell
address_cell None = Unset
address_cell (Some address) = One (value.Addr address)

abbrev pub port_cell : Option ℕ → Cell
port_cell None = Unset
port_cell (Some port) = One (value.Port port Unknown)

abbrev pub protocol_cell : Option ℕ → Cell
protocol_cell None = Unset
protocol_cell (Some protocol) = One (value.Name (protocol_name protocol))

abbrev pub packet_row : Packet → List Cell
packet_row p =
    One (value.Time p.time) ∷ One (value.Count p.captured) ∷ One (value.Count p.original)
    ∷ address_cell p.parts.source ∷ port_cell p.parts.source_port ∷ address_cell p.parts.target ∷ port_cell p.parts.target_port
    ∷ protocol_cell p.parts.protocol ∷ []

abbrev pub flow_row : Flow → List Cell
flow_row f =
    One (value.Time (pos f.first))
    ∷ One (value.Addr f.source.address) ∷ One (value.Port f.source.port Unknown)
    ∷ One (value.Addr f.target.address) ∷ One (value.Port f.target.port Unknown)
    ∷ One (value.Name (protocol_name f.protocol))
    ∷ One (value.Span (pos (f.last - f.first)))
    ∷ One (value.Count f.orig_packets) ∷ One (value.Count f.orig_bytes)
    ∷ One (value.Count f.resp_packets) ∷ One (value.Count f.resp_bytes) ∷ []

-- the flow rows of a list of packets
abbrev pub flow_rows_of : List Packet → List (List Cell)
flow_rows_of packets = map flow_row (flows_of packets)

-- a column of single values
abbrev pub field : List ℕ → Elem → Field
field name e = record { name = name; kind = OneOf e }

abbrev pub packet_heading : Heading
packet_heading = record {
  path = codes "packet";
  fields = field (codes "ts") elem.Time ∷ field (codes "caplen") elem.Count ∷ field (codes "origlen") elem.Count
      ∷ field (codes "src") elem.Addr ∷ field (codes "sport") elem.Port
      ∷ field (codes "dst") elem.Addr ∷ field (codes "dport") elem.Port
      ∷ field (codes "proto") elem.Name ∷ [];
}

abbrev pub flow_heading : Heading
flow_heading = record {
  path = codes "flow";
  fields = field (codes "ts") elem.Time
      ∷ field (codes "id.orig_h") elem.Addr ∷ field (codes "id.orig_p") elem.Port
      ∷ field (codes "id.resp_h") elem.Addr ∷ field (codes "id.resp_p") elem.Port
      ∷ field (codes "proto") elem.Name ∷ field (codes "duration") elem.Span
      ∷ field (codes "orig_pkts") elem.Count ∷ field (codes "orig_bytes") elem.Count
      ∷ field (codes "resp_pkts") elem.Count ∷ field (codes "resp_bytes") elem.Count ∷ [];
}
