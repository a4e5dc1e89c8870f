-- What packet by packet comes to.
use Rattle.std.specs.Prelude.{◌≡◌, ◌⊎◌, ◌↔◌, true, List, [], map, fold}
use Rattle.pcap_flow.specs.Sightings.{key_of, has_key}
use Rattle.pcap_flow.specs.Groups.{flows_of}
use Rattle.pcap_flow.specs.Steps.{with_packet}
use Rattle.pcap_flow.specs.Rows.{flow_row, flow_rows_of}
use Rattle.pcap_flow.specs.declared.packet.Packet.{Packet}
use Rattle.pcap_flow.specs.declared.sighting.Sighting.{Sighting}

-- the steps from no flows give the flows of the whole list of packets
abbrev pub StepsGiveFlows : Type 0
StepsGiveFlows = (packets : List Packet) → fold with_packet [] packets ≡ flows_of packets

-- the same protocol, and the same ends in either order
abbrev pub ShareEnds : Sighting → Sighting → Type 0
ShareEnds s t =
    (s.protocol ≡ t.protocol) × (((s.source ≡ t.source) × (s.target ≡ t.target)) ⊎ ((s.source ≡ t.target) × (s.target ≡ t.source)))

-- packets have one key where they share their ends
abbrev pub KeyIsEnds : Type 0
KeyIsEnds = (s t : Sighting) → (has_key (key_of s) t ≡ true) ↔ ShareEnds s t

-- and so the rows
abbrev pub StepsGiveRows : Type 0
StepsGiveRows = (packets : List Packet) → map flow_row (fold with_packet [] packets) ≡ flow_rows_of packets
