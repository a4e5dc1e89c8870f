use Rattle.std.proofs.Common.{map, ap}
use Rattle.pcap_flow.specs.Rows.{flow_row}
use Rattle.pcap_flow.proofs.GroupLemmas.{steps_give_flows}
use Rattle.pcap_flow.proofs.KeyLemmas.{key_is_ends}
use Rattle.pcap_flow.proofs.law.flows_of_packets.Goals as goal

pub returns-clause-steps : goal.returns-clause-steps
returns-clause-steps c = steps_give_flows

pub returns-clause-rows : goal.returns-clause-rows
returns-clause-rows c = λ packets. ap (map flow_row) (steps_give_flows packets)

pub returns-clause-key : goal.returns-clause-key
returns-clause-key c = key_is_ends
