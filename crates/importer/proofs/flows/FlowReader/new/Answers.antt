use Rattle.importer.proofs.CaptureLemmas.{flows_begun}
use Rattle.importer.proofs.flows.FlowReader.new.Goals as goal

pub returns : goal.returns
returns c = rw c.new.ensures (flows_begun c.in_ok-rows.rows c.args.flows.flows c.args.end c.in_ok-rows.ensures.value)
