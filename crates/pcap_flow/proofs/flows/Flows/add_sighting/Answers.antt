use Rattle.std.proofs.Common.{◌∙◌, sym, ap}
use Rattle.pcap_flow.specs.Tracked.{latest_place}
use Rattle.pcap_flow.specs.declared.key.FlowKey.{FlowKey}
use Rattle.pcap_flow.proofs.PlaceLemmas.{latest_within, step_none, step_over, step_joined}
use Rattle.pcap_flow.proofs.flows.Flows.add_sighting.Goals as goal

pub returns-in_default-clause-ok : goal.returns-in_default-clause-ok
returns-in_default-clause-ok c =
    let place = ap (λ (k : FlowKey). latest_place k c.args.self.now.flows) (sym c.key-key.ensures) ∙ sym c.place.ensures ∙ c.in_default.is in
    rw (step_none c.args.sighting c.args.self.now.flows place) c.begin.ensures.ok

pub flow-flow-requires : goal.flow-flow-requires
flow-flow-requires c = latest_within c.key-key.result c.args.self.now.flows c.in-Some.place (sym c.place.ensures ∙ c.in-Some.is)

pub returns-then-is_over-clause-ok : goal.returns-then-is_over-clause-ok
returns-then-is_over-clause-ok c =
    let place = ap (λ (k : FlowKey). latest_place k c.args.self.now.flows) (sym c.key-key.ensures) ∙ sym c.place.ensures ∙ c.in-Some.is in
    let over = sym c.is_over.ensures ∙ c.if-is_over.true in
    rw (step_over c.args.sighting c.args.self.now.flows c.in-Some.place c.flow-flow.result place c.flow-flow.ensures.value over) c.begin-then-is_over.ensures.ok

pub returns-clause-ok : goal.returns-clause-ok
returns-clause-ok c =
    let place = ap (λ (k : FlowKey). latest_place k c.args.self.now.flows) (sym c.key-key.ensures) ∙ sym c.place.ensures ∙ c.in-Some.is in
    let over = sym c.is_over.ensures ∙ c.if-is_over.false in
    rw (step_joined c.args.sighting c.args.self.now.flows c.in-Some.place c.flow-flow.result place c.flow-flow.ensures.value over, ← c.joined.ensures.value) c.replace.ensures
