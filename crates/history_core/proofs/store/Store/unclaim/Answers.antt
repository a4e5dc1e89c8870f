use Rattle.std.proofs.Common.{◌≡◌, ◌++◌, ◌∷◌, [], List, ap, ◌∙◌, arith, subst, sym}
use Rattle.event_history.specs.declared.entry.Deed.TheVariants.{Unclaim}
use Rattle.event_history.specs.declared.entry.Entry.{Entry}
use Rattle.event_history.specs.Histories.{past}
use Rattle.history_core.specs.Replies.{IsClaim}
use Rattle.history_core.specs.Shown.{Shown}
use Rattle.history_core.proofs.CarryLemmas.{carried, groups_carried}
use Rattle.history_core.proofs.ClaimLemmas.{claim_within, unclaim_keeps}
use Rattle.history_core.proofs.store.Store.unclaim.Goals as goal

pub index_mut-requires : goal.index_mut-requires
index_mut-requires c =
    let i = c.self.inside in
    let claim : IsClaim (record { limits = i.limits; history = i.entries.items }) c.args.claim = subst (λ (x : Shown). IsClaim x c.args.claim) (sym c.self.view_is) c.requires in
    omega (arith, i.kept.ok.0, claim_within i.limits i.entries.items (past i.entries.items) i.rows i.kept.items i.low c.args.claim.batch i.queries.items c.args.claim.packed c.self.invariant.main claim.0)

pub invariant_of-self-2 : goal.invariant_of-self-2
invariant_of-self-2 c =
    let i = c.self.inside in
    let at = c.args.claim.batch in
    let e : Entry = record { seat = c.args.seat; deed = Unclaim at } in
    let is : c.push_reserved.new.self.items ≡ i.entries.items ++ e ∷ [] =
    c.push_reserved.ensures.items ∙ ap (λ (xs : List Entry). xs ++ e ∷ []) c.reserve.ensures.items in
    let claim : IsClaim (record { limits = i.limits; history = i.entries.items }) c.args.claim = subst (λ (x : Shown). IsClaim x c.args.claim) (sym c.self.view_is) c.requires in
    let there = claim_within i.limits i.entries.items (past i.entries.items) i.rows i.kept.items i.low at i.queries.items c.args.claim.packed c.self.invariant.main claim.0 in
    record {
      main = carried i.limits i.entries.items c.push_reserved.new.self.items e i.rows _ c.lesser-self-inside.result i.queries.items is
          (unclaim_keeps i.limits i.entries.items (past i.entries.items) c.args.seat i.rows i.kept.items i.low c.lesser-self-inside.result at i.queries.items c.index_mut.result.now
          c.self.invariant.main there c.index_mut.ensures.value c.lesser-self-inside.ensures.low c.lesser-self-inside.ensures.at);
      groups = groups_carried i.limits i.entries.items c.push_reserved.new.self.items e i.seals.items i.unsealed is tt c.self.invariant.groups;
    }
