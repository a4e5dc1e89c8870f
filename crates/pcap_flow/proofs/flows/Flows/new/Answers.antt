use Rattle.std.proofs.Common.{refl}
use Rattle.pcap_flow.specs.Tracked.{latest_place}
use Rattle.pcap_flow.proofs.flows.Flows.new.Goals as goal

pub invariant_of-result : goal.invariant_of-result
unfolding latest_place
invariant_of-result c = (λ k. rw (c.new-2.ensures.empty, c.new.ensures.items) refl, rw c.new.ensures.items refl)
