use Rattle.std.proofs.Common.{◌≡◌, ◌+◌, ◌++◌, ◌∷◌, [], List, length, ap, ◌∙◌, arith, None, false}
use Rattle.event_history.specs.declared.entry.Deed.TheVariants.{Accept}
use Rattle.event_history.specs.declared.entry.Entry.{Entry}
use Rattle.event_history.specs.Histories.{past}
use Rattle.history_core.specs.declared.kept.Kept.{Kept}
use Rattle.history_core.proofs.AcceptLemmas.{accept_stands}
use Rattle.history_core.proofs.CarryLemmas.{carried, groups_carried}
use Rattle.history_core.proofs.store.Store.accept.Goals as goal

pub invariant_of-self-2 : goal.invariant_of-self-2
invariant_of-self-2 c =
    let i = c.self.inside in
    let e : Entry = record { seat = c.args.seat; deed = Accept c.args.packed } in
    let is : c.push_reserved-2.new.self.items ≡ i.entries.items ++ e ∷ [] =
    c.push_reserved-2.ensures.items ∙ ap (λ (xs : List Entry). xs ++ e ∷ []) c.reserve.ensures.items in
    let more = c.from-more.result in
    let kept : c.push_reserved.new.self.items ≡ i.kept.items ++ record { packed = c.in-Ok.shared; first = i.rows; end = i.rows + more; index = None; marked = false } ∷ [] =
    c.push_reserved.ensures.items
    ∙ ap (λ (xs : List Kept). xs ++ record { packed = c.in-Ok.shared; first = i.rows; end = i.rows + more; index = None; marked = false } ∷ []) c.reserve-else-is_err.ensures.items in
    let count : more ≡ length c.args.packed.content.rows = c.from-more.ensures ∙ c.rows.ensures.count in
    record {
      main = carried i.limits i.entries.items c.push_reserved-2.new.self.items e (i.rows + more) c.push_reserved.new.self.items i.low i.queries.items is
          (accept_stands i.limits i.entries.items (past i.entries.items) c.args.seat c.args.packed c.in-Ok.shared i.rows more i.kept.items c.push_reserved.new.self.items i.low i.queries.items
          c.self.invariant.main (c.in-Ok.ensures) count (omega (arith, c.self.invariant.main.fits)) kept);
      groups = groups_carried i.limits i.entries.items c.push_reserved-2.new.self.items e i.seals.items i.unsealed is tt c.self.invariant.groups;
    }
