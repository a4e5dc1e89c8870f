use Rattle.std.proofs.Common.{◌≡◌, map, take}
use Rattle.pcap_flow.specs.Rows.{flow_row}
use Rattle.pcap_flow.proofs.rows.rows_of.Given as goal

abbrev pub invariant-loop-flow : goal.invariant-loop-flow
invariant-loop-flow l = l.rows ≡ map flow_row (take l.flow-index l.flows)
