use Rattle.std.proofs.Common.{◌≡◌, ◌+◌, ◌∙◌, ◌∷◌, ◌++◌, [], ℕ, Option, Some, sym, ap, cond, length}
use Rattle.indexmap.specs.IndexMap.{get}
use Rattle.pcap_flow.specs.Keys.{same_key}
use Rattle.pcap_flow.specs.Sightings.{key_of}
use Rattle.pcap_flow.specs.Steps.{begun}
use Rattle.pcap_flow.specs.Tracked.{latest_place}
use Rattle.pcap_flow.specs.declared.key.FlowKey.{FlowKey}
use Rattle.pcap_flow.specs.declared.flow.Flow.{Flow}
use Rattle.pcap_flow.proofs.FlowLemmas.{all_bounded, all_bounded_push, on_ok}
use Rattle.pcap_flow.proofs.PlaceLemmas.{place_push}
use Rattle.pcap_flow.proofs.flows.Flows.begin.Goals as goal

pub invariant_of-self-2 : goal.invariant_of-self-2
invariant_of-self-2 c =
    let fs = c.self.inside.flows.items in
    let s = c.args.sighting in
    let items = c.in_ok-push.ensures.items ∙ ap (λ (f : Flow). fs ++ f ∷ []) c.begun.ensures.value in
    let updates = on_ok c.insert.result (sym c.if-is_err.ensures.value) c.insert.ensures.updates in
    let count : length c.as_slice-place.result.now ≡ length fs = ap length c.as_slice-place.ensures.value in
    let bounded = all_bounded_push (c.self.inside.added + 1) fs c.begun.result (all_bounded c.self.inside.added fs c.self.invariant.1) (c.begun.ensures.more c.self.inside.added) in (
      λ k. updates.0 k
          ∙ ap (λ (q : FlowKey). cond (same_key q k) (Some (length c.as_slice-place.result.now)) (get same_key c.self.inside.latest k)) c.key.ensures
          ∙ ap (λ (n : ℕ). cond (same_key (key_of s) k) (Some n) (get same_key c.self.inside.latest k)) count
          ∙ ap (λ (o : Option ℕ). cond (same_key (key_of s) k) (Some (length fs)) o) (c.self.invariant.0 k)
          ∙ sym (place_push k fs (begun s)) ∙ ap (latest_place k) (sym items),
      rw c.in_ok-push.ensures.items bounded,
    )
