use Rattle.std.proofs.Common.{sym, ap, ◌∙◌}
use Rattle.importer.specs.Coming.{Standpoint}
use Rattle.importer.specs.Inputs.{standing_of}
use Rattle.importer.proofs.FlowLemmas.{flows_faults_read, flows_read}
use Rattle.importer.proofs.input.Input.read_capture.Goals as goal

pub returns-in-Flows-clause-next : goal.returns-in-Flows-clause-next
returns-in-Flows-clause-next g c =
    flows_read c.args.self.now.at c.in-Flows.flows.at c.next-in-Flows.new.self.at c.next-in-Flows.result c.step_or_end.result _ _
    (ap (λ (s : Standpoint g.row.S.Denot). s.at) (sym c.self.view_is) ∙ ap standing_of c.in-Flows.is)
    (ap (λ (s : Standpoint g.row.S.Denot). g.S.Source.left s.source) c.self.view_is) c.step_or_end.ensures (c.next-in-Flows.ensures.goes (g.S.Source.left c.args.self.now.source))

pub returns-in-Flows-clause-faults : goal.returns-in-Flows-clause-faults
returns-in-Flows-clause-faults g c =
    flows_faults_read c.args.self.now.at c.in-Flows.flows.at c.next-in-Flows.new.self.at c.next-in-Flows.result c.step_or_end.result _ _
    (ap (λ (s : Standpoint g.row.S.Denot). s.at) (sym c.self.view_is) ∙ ap standing_of c.in-Flows.is)
    (ap (λ (s : Standpoint g.row.S.Denot). g.S.Source.faults s.source) c.self.view_is) c.step_or_end.ensures c.next-in-Flows.ensures.answers c.next-in-Flows.ensures.end
