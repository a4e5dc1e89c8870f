use Rattle.pcap_flow.proofs.FlowLemmas.{all_bounded}
use Rattle.pcap_flow.proofs.flows.Flows.count.Goals as goal

pub invariant_of-self : goal.invariant_of-self
invariant_of-self c = (c.self.invariant.0, all_bounded c.self.inside.added c.self.inside.flows.items c.self.invariant.1)
