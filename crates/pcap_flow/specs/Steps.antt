-- Flows packet by packet.
use Rattle.std.specs.Prelude.{ℕ, ◌+◌, ◌-◌, ◌*◌, ◌^◌, Bool, true, ◌&&◌, max, nat_lt, nat_le, if◌then◌else◌, List, [], ◌∷◌, ◌++◌, Option, Some, None, is_some}
use Rattle.std.specs.Option.{option_map_or, option_or}
use Rattle.pcap_flow.specs.Keys.{same_endpoint, key_between, same_key}
use Rattle.pcap_flow.specs.Sightings.{sighting_of, key_of}
use Rattle.pcap_flow.specs.Groups.{idle_timeout}
use Rattle.pcap_flow.specs.declared.key.FlowKey.{FlowKey}
use Rattle.pcap_flow.specs.declared.packet.Packet.{Packet}
use Rattle.pcap_flow.specs.declared.sighting.Sighting.{Sighting}
use Rattle.pcap_flow.specs.declared.flow.Flow.{Flow}

abbrev pub flow_key : Flow → FlowKey
flow_key f = key_between f.source f.target f.protocol

-- a flow of one packet
abbrev pub begun : Sighting → Flow
begun s = record {
  source = s.source;
  target = s.target;
  protocol = s.protocol;
  first = s.time;
  last = s.time;
  orig_packets = 1;
  orig_bytes = s.original;
  resp_packets = 0;
  resp_bytes = 0;
}

-- the flow with one more packet
abbrev pub joined : Sighting → Flow → Flow
joined s f =
    if same_endpoint s.source f.source
    then record f { last = max f.last s.time; orig_packets = f.orig_packets + 1; orig_bytes = f.orig_bytes + s.original }
    else record f { last = max f.last s.time; resp_packets = f.resp_packets + 1; resp_bytes = f.resp_bytes + s.original }

-- a packet of this time comes more than 60 seconds after the flow
abbrev pub is_over : ℕ → Flow → Bool
is_over time f = nat_lt (f.last + idle_timeout) time

-- the last of the flows that has the key
unfoldable pub latest_flow : FlowKey → List Flow → Option Flow
latest_flow k [] = None
latest_flow k (f ∷ fs) = option_or (latest_flow k fs) (if same_key (flow_key f) k then Some f else None)

-- the packet put to the last flow of its key
unfoldable pub join_latest : Sighting → List Flow → List Flow
join_latest s [] = []
join_latest s (f ∷ fs) =
    if is_some (latest_flow (key_of s) fs) then f ∷ join_latest s fs
    else (if same_key (flow_key f) (key_of s) then joined s f ∷ fs else f ∷ fs)

-- a packet joins the latest flow of its key, unless there is none or that one is over: then it begins a flow
abbrev pub with_sighting : List Flow → Sighting → List Flow
with_sighting flows s =
    if option_map_or (is_over s.time) (latest_flow (key_of s) flows) true then flows ++ begun s ∷ [] else join_latest s flows

-- a packet without all its parts belongs to no flow
abbrev pub with_packet : List Flow → Packet → List Flow
with_packet flows p = option_map_or (with_sighting flows) (sighting_of p) flows

-- its first packet is none of the last, and its times are those of signed numbers
abbrev pub is_timed : Flow → Bool
is_timed f = nat_le f.first f.last && nat_lt f.last (2 ^ 63)

-- what is true of each flow of so many packets: its counts and times are within the types' ranges
abbrev pub is_bounded : ℕ → Flow → Bool
is_bounded added f =
    is_timed f
    && nat_le f.orig_packets added && nat_le f.resp_packets added
    && nat_le f.orig_bytes (f.orig_packets * (2 ^ 32 - 1)) && nat_le f.resp_bytes (f.resp_packets * (2 ^ 32 - 1))
