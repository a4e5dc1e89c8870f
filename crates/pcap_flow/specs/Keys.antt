-- The ends and the protocol of a flow.
use Rattle.std.specs.Prelude.{ℕ, Bool, ◌==◌, ◌&&◌, nat_lt, if◌then◌else◌}
use Rattle.pcap_flow.specs.declared.key.Endpoint.{Endpoint}
use Rattle.pcap_flow.specs.declared.key.FlowKey.{FlowKey}

abbrev pub same_endpoint : Endpoint → Endpoint → Bool
same_endpoint a b = a.address == b.address && a.port == b.port

-- by address, then by port
abbrev pub endpoint_before : Endpoint → Endpoint → Bool
endpoint_before a b = if a.address == b.address then nat_lt a.port b.port else nat_lt a.address b.address

-- the two ends in either order, and the protocol
abbrev pub key_between : Endpoint → Endpoint → ℕ → FlowKey
key_between source target protocol =
    if endpoint_before target source
    then record { low = target; high = source; protocol = protocol }
    else record { low = source; high = target; protocol = protocol }

abbrev pub same_key : FlowKey → FlowKey → Bool
same_key k l = same_endpoint k.low l.low && (same_endpoint k.high l.high && k.protocol == l.protocol)
