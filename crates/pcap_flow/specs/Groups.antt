-- Which packets share a flow, said of the whole list of packets.
use Rattle.std.specs.Prelude.{ℕ, ◌+◌, Bool, not, max, ◌||◌, nat_lt, if◌then◌else◌, List, [], ◌∷◌, ◌++◌, map, fold, filter_map, sum_by, count_by}
use Rattle.std.specs.List.{list_all}
use Rattle.pcap_flow.specs.Keys.{same_endpoint}
use Rattle.pcap_flow.specs.Sightings.{sighting_of, key_of, has_key}
use Rattle.pcap_flow.specs.declared.key.FlowKey.{FlowKey}
use Rattle.pcap_flow.specs.declared.packet.Packet.{Packet}
use Rattle.pcap_flow.specs.declared.sighting.Sighting.{Sighting}
use Rattle.pcap_flow.specs.declared.flow.Flow.{Flow}

-- 60 seconds in nanoseconds
abbrev pub idle_timeout : ℕ
idle_timeout = 60_000_000_000

-- a packet begins a flow where its time is more than 60 seconds above that of every earlier packet of its ends and protocol
unfoldable pub begins : List Sighting → Sighting → Bool
begins earlier s = list_all (λ e. not (has_key (key_of s) e) || nat_lt (e.time + idle_timeout) s.time) earlier

-- of the packets that follow `earlier`, those of this key before the next one that begins a flow
unfoldable pub members : List Sighting → FlowKey → List Sighting → List Sighting
members earlier k [] = []
members earlier k (s ∷ rest) =
    if has_key k s
    then (if begins earlier s then [] else s ∷ members (earlier ++ s ∷ []) k rest)
    else members (earlier ++ s ∷ []) k rest

-- the packets of a flow: the one that began it, and the others
pub record Group : Type 0 where
  pub first : Sighting
  pub others : List Sighting

-- the flows that begin in what follows `earlier`, in the order of their first packets
unfoldable pub groups_after : List Sighting → List Sighting → List Group
groups_after earlier [] = []
groups_after earlier (s ∷ rest) =
    if begins earlier s
    then record { first = s; others = members (earlier ++ s ∷ []) (key_of s) rest } ∷ groups_after (earlier ++ s ∷ []) rest
    else groups_after (earlier ++ s ∷ []) rest

-- the bytes that a packet adds to the sum of those that pass a test
abbrev pub bytes_if : Bool → Sighting → ℕ
bytes_if counts s = if counts then s.original else 0

-- the counts of a flow's packets, the originator being the source of the first
abbrev pub flow_of : Group → Flow
flow_of g =
    let from_originator = λ (s : Sighting). same_endpoint s.source g.first.source in
    let all = g.first ∷ g.others in
    record {
      source = g.first.source;
      target = g.first.target;
      protocol = g.first.protocol;
      first = g.first.time;
      last = fold (λ (greatest : ℕ) (s : Sighting). max greatest s.time) g.first.time g.others;
      orig_packets = count_by from_originator all;
      orig_bytes = sum_by (λ s. bytes_if (from_originator s) s) all;
      resp_packets = count_by (λ s. not (from_originator s)) all;
      resp_bytes = sum_by (λ s. bytes_if (not (from_originator s)) s) all;
    }

-- the flows of a list of packets, of which those with all parts belong to one
abbrev pub flows_of : List Packet → List Flow
flows_of packets = map flow_of (groups_after [] (filter_map sighting_of packets))
