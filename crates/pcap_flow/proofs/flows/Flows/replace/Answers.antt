use Rattle.std.proofs.Common.{◌≡◌, ◌+◌, ◌∙◌, sym, subst, slice_get, IsSomeAnd, IsTrue}
use Rattle.pcap_flow.specs.Steps.{flow_key, is_bounded}
use Rattle.pcap_flow.specs.Tracked.{Tracked}
use Rattle.pcap_flow.specs.declared.flow.Flow.{Flow}
use Rattle.pcap_flow.proofs.FlowLemmas.{all_bounded, all_bounded_set}
use Rattle.pcap_flow.proofs.PlaceLemmas.{place_kept}
use Rattle.pcap_flow.proofs.flows.Flows.replace.Goals as goal

pub invariant_of-self : goal.invariant_of-self
invariant_of-self c =
    let same = subst (λ (t : Tracked). IsSomeAnd (slice_get t.flows c.args.place) (λ (old : Flow). flow_key c.args.flow ≡ flow_key old)) (sym c.self.view_is) c.requires.same in
    let bounded = subst (λ (t : Tracked). IsTrue (is_bounded (t.added + 1) c.args.flow)) (sym c.self.view_is) c.requires.bounded in (
      λ k. c.self.invariant.0 k ∙ sym (place_kept c.self.inside.flows.items c.args.place c.args.flow same k),
      all_bounded_set (c.self.inside.added + 1) c.self.inside.flows.items c.args.place c.args.flow
          (all_bounded c.self.inside.added c.self.inside.flows.items c.self.invariant.1) bounded,
    )
