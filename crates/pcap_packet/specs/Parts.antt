-- The parts of a packet.
use Rattle.std.specs.Prelude.{ℕ, Some, None, option_map}
use Rattle.pcap_packet.specs.declared.parts.Parts.{Parts}
use Rattle.pcap_packet.specs.declared.parts.Ports.{Ports}
use Rattle.pcap_packet.specs.declared.parts.Carried.{Carried}

-- all parts unset
abbrev pub no_parts : Parts
no_parts = record { source = None; target = None; protocol = None; source_port = None; target_port = None }

-- a packet between two addresses
abbrev pub between : ℕ → ℕ → Carried → Parts
between source target carried = record {
  source = Some source;
  target = Some target;
  protocol = carried.protocol;
  source_port = option_map (λ (ports : Ports). ports.source) carried.ports;
  target_port = option_map (λ (ports : Ports). ports.target) carried.ports;
}
