-- Packets that belong to a flow.
use Rattle.std.specs.Prelude.{ℕ, ℤ, pos, negsuc, Bool, Option, Some, None}
use Rattle.pcap_flow.specs.declared.key.FlowKey.{FlowKey}
use Rattle.pcap_flow.specs.declared.packet.Packet.{Packet}
use Rattle.pcap_flow.specs.declared.sighting.Sighting.{Sighting}
use Rattle.pcap_flow.specs.Keys.{key_between, same_key}

-- the nanoseconds of a time that isn't before 1970
abbrev pub nanoseconds : ℤ → ℕ
nanoseconds (pos n) = n
nanoseconds (negsuc n) = 0

-- a packet of these parts, if it has all of them
abbrev pub with_all : Option ℕ → Option ℕ → Option ℕ → Option ℕ → Option ℕ → ℕ → ℕ → Option Sighting
with_all (Some source) (Some source_port) (Some target) (Some target_port) (Some protocol) time original =
    Some (record {
      source = record { address = source; port = source_port };
      target = record { address = target; port = target_port };
      protocol = protocol;
      time = time;
      original = original;
    })
with_all _ _ _ _ _ time original = None

abbrev pub sighting_of : Packet → Option Sighting
sighting_of p =
    with_all p.parts.source p.parts.source_port p.parts.target p.parts.target_port p.parts.protocol (nanoseconds p.time) p.original

abbrev pub key_of : Sighting → FlowKey
key_of s = key_between s.source s.target s.protocol

abbrev pub has_key : FlowKey → Sighting → Bool
has_key k s = same_key (key_of s) k
