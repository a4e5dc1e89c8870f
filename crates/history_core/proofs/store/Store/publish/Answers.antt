use Rattle.std.proofs.Common.{◌≡◌, ◌++◌, ◌∷◌, [], List, Bool, true, false, is_some, ap, ◌∙◌, arith, subst, sym, if◌then◌else◌}
use Rattle.event_history.specs.declared.entry.Deed.TheVariants.{Index}
use Rattle.event_history.specs.declared.entry.Entry.{Entry}
use Rattle.event_history.specs.Histories.{is_indexed, past}
use Rattle.event_history.specs.Steps as s
use Rattle.history_core.specs.declared.kept.Kept.{Kept}
use Rattle.history_core.specs.Replies.{IsClaim}
use Rattle.history_core.specs.Shown.{Shown, with_entries}
use Rattle.history_core.specs.Stores.{IsKept}
use Rattle.history_core.proofs.CarryLemmas.{carried, groups_carried}
use Rattle.history_core.proofs.ClaimLemmas.{claim_within, claimed_stands, index_keeps}
use Rattle.partition.proofs.ListLemmas.{same_element}
use Rattle.history_core.proofs.MakeLemmas.{makes_none, makes_one}
use Rattle.history_core.proofs.store.Store.publish.Goals as goal

pub index-requires : goal.index-requires
index-requires c =
    let i = c.self.inside in
    let claim : IsClaim (record { limits = i.limits; history = i.entries.items }) c.args.claim = subst (λ (x : Shown). IsClaim x c.args.claim) (sym c.self.view_is) c.requires.claim in
    omega (arith, i.kept.ok.0, claim_within i.limits i.entries.items (past i.entries.items) i.rows i.kept.items i.low c.args.claim.batch i.queries.items c.args.claim.packed c.self.invariant.main claim.0)

pub returns-then-is_some-clause-step : goal.returns-then-is_some-clause-step
returns-then-is_some-clause-step c =
    let i = c.self.inside in
    let now = c.args.self.now in
    let at = c.args.claim.batch in
    let claim : IsClaim (record { limits = i.limits; history = i.entries.items }) c.args.claim = subst (λ (x : Shown). IsClaim x c.args.claim) (sym c.self.view_is) c.requires.claim in
    let there = claim_within i.limits i.entries.items (past i.entries.items) i.rows i.kept.items i.low at i.queries.items c.args.claim.packed c.self.invariant.main claim.0 in
    let one : IsKept (past i.entries.items) at c.index.result.now = c.self.invariant.main.each at c.index.result.now there c.index.ensures in
    let indexed : is_indexed at (past now.history) ≡ true =
    ap (λ (x : Shown). is_indexed at (past x.history)) (sym c.self.view_is) ∙ sym one.3 ∙ sym c.if-is_some.ensures in
    makes_none now c.args.seat (s.Publish at) (s.Already at) (ap (λ (b : Bool). if b then s.replies (s.Already at) else s.does s.Done (Index at)) indexed)

pub index_mut-requires : goal.index_mut-requires
index_mut-requires c =
    let i = c.self.inside in
    let claim : IsClaim (record { limits = i.limits; history = i.entries.items }) c.args.claim = subst (λ (x : Shown). IsClaim x c.args.claim) (sym c.self.view_is) c.requires.claim in
    omega (arith, i.kept.ok.0, claim_within i.limits i.entries.items (past i.entries.items) i.rows i.kept.items i.low c.args.claim.batch i.queries.items c.args.claim.packed c.self.invariant.main claim.0)

pub invariant_of-self-2 : goal.invariant_of-self-2
invariant_of-self-2 c =
    let i = c.self.inside in
    let at = c.args.claim.batch in
    let e : Entry = record { seat = c.args.seat; deed = Index at } in
    let is : c.push_reserved.new.self.items ≡ i.entries.items ++ e ∷ [] =
    c.push_reserved.ensures.items ∙ ap (λ (xs : List Entry). xs ++ e ∷ []) c.reserve.ensures.items in
    let claim : IsClaim (record { limits = i.limits; history = i.entries.items }) c.args.claim = subst (λ (x : Shown). IsClaim x c.args.claim) (sym c.self.view_is) c.requires.claim in
    let there = claim_within i.limits i.entries.items (past i.entries.items) i.rows i.kept.items i.low at i.queries.items c.args.claim.packed c.self.invariant.main claim.0 in
    let one : IsKept (past i.entries.items) at c.index_mut.result.now = c.self.invariant.main.each at c.index_mut.result.now there c.index_mut.ensures.value in
    let same : c.index.result.now ≡ c.index_mut.result.now = same_element i.kept.items at c.index.result.now c.index_mut.result.now there c.index.ensures c.index_mut.ensures.value in
    let none : is_some c.index_mut.result.now.index ≡ false = ap (λ (k : Kept). is_some k.index) (sym same) ∙ sym c.if-is_some.ensures in
    record {
      main = carried i.limits i.entries.items c.push_reserved.new.self.items e i.rows _ i.low i.queries.items is
          (index_keeps i.limits i.entries.items (past i.entries.items) c.args.seat i.rows i.kept.items i.low at i.queries.items c.index_mut.result.now c.new.result
          c.self.invariant.main there c.index_mut.ensures.value none
          (c.new.ensures ∙ c.requires.fragment ∙ claimed_stands (past i.entries.items) at c.args.claim.first c.args.claim.packed c.index_mut.result.now one claim.0 claim.1));
      groups = groups_carried i.limits i.entries.items c.push_reserved.new.self.items e i.seals.items i.unsealed is tt c.self.invariant.groups;
    }

pub returns-clause-step : goal.returns-clause-step
returns-clause-step c =
    let i = c.self.inside in
    let now = c.args.self.now in
    let at = c.args.claim.batch in
    let e : Entry = record { seat = c.args.seat; deed = Index at } in
    let is : c.push_reserved.new.self.items ≡ i.entries.items ++ e ∷ [] =
    c.push_reserved.ensures.items ∙ ap (λ (xs : List Entry). xs ++ e ∷ []) c.reserve.ensures.items in
    let claim : IsClaim (record { limits = i.limits; history = i.entries.items }) c.args.claim = subst (λ (x : Shown). IsClaim x c.args.claim) (sym c.self.view_is) c.requires.claim in
    let there = claim_within i.limits i.entries.items (past i.entries.items) i.rows i.kept.items i.low at i.queries.items c.args.claim.packed c.self.invariant.main claim.0 in
    let one : IsKept (past i.entries.items) at c.index.result.now = c.self.invariant.main.each at c.index.result.now there c.index.ensures in
    let none : is_indexed at (past now.history) ≡ false =
    ap (λ (x : Shown). is_indexed at (past x.history)) (sym c.self.view_is) ∙ sym one.3 ∙ sym c.if-is_some.ensures in
    makes_one now _ c.args.seat (s.Publish at) s.Done (Index at) (ap (λ (b : Bool). if b then s.replies (s.Already at) else s.does s.Done (Index at)) none)
    (ap (λ (h : List Entry). record { limits = i.limits; history = h }) is ∙ ap (λ (x : Shown). with_entries x (e ∷ [])) c.self.view_is)
