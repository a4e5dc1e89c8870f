-- The headers that are left lead to what all of them lead to.
use Rattle.std.proofs.Common.{◌≡◌, ◌-◌}
use Rattle.pcap_packet.specs.Headers.{carried_behind}
use Rattle.pcap_packet.proofs.ip.carried_behind.Given as goal

abbrev pub invariant-loop-followed : goal.invariant-loop-followed
invariant-loop-followed l = carried_behind (8 - l._followed) l.next l.rest ≡ carried_behind 8 l.first l.bytes
