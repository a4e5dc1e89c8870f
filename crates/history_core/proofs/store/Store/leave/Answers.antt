use Rattle.std.proofs.Common.{◌≡◌, ◌-◌, ◌<◌, ◌++◌, ◌∷◌, [], List, length, ap, ◌∙◌, arith, subst, sym}
use Rattle.event_history.specs.declared.entry.Deed.TheVariants.{Leave}
use Rattle.event_history.specs.declared.entry.Entry.{Entry}
use Rattle.event_history.specs.Histories.{past}
use Rattle.history_core.specs.declared.kept.Query.{Query}
use Rattle.history_core.specs.Replies.{IsRegistered}
use Rattle.history_core.specs.Shown.{Shown}
use Rattle.history_core.proofs.CarryLemmas.{carried, groups_carried}
use Rattle.partition.proofs.ListLemmas.{same_element}
use Rattle.history_core.proofs.QueryLemmas.{leave_keeps}
use Rattle.history_core.proofs.store.Store.leave.Goals as goal

pub invariant_of-self-2 : goal.invariant_of-self-2
invariant_of-self-2 c =
    let i = c.self.inside in
    let e : Entry = record { seat = c.args.seat; deed = Leave c.args.query } in
    let is : c.push_reserved.new.self.items ≡ i.entries.items ++ e ∷ [] =
    c.push_reserved.ensures.items ∙ ap (λ (xs : List Entry). xs ++ e ∷ []) c.reserve.ensures.items in
    let known : IsRegistered (record { limits = i.limits; history = i.entries.items }) c.args.query = subst (λ (x : Shown). IsRegistered x c.args.query) (sym c.self.view_is) c.requires in
    let there : c.args.query - 1 < length i.queries.items = omega (arith, known.0, known.1, c.self.invariant.main.queries_are) in
    let same : c.index.result.now ≡ c.index_mut.result.now = same_element i.queries.items (c.args.query - 1) c.index.result.now c.index_mut.result.now there c.index.ensures c.index_mut.ensures.value in
    record {
      main = carried i.limits i.entries.items c.push_reserved.new.self.items e i.rows i.kept.items i.low _ is
          (leave_keeps i.limits i.entries.items (past i.entries.items) c.args.seat c.args.query i.rows i.kept.items i.low (c.args.query - 1) i.queries.items c.index_mut.result.now
          c.self.invariant.main there c.index_mut.ensures.value (ap (λ (q : Query). q.left) (sym same) ∙ c.if-index.false) (omega (arith, known.0)));
      groups = groups_carried i.limits i.entries.items c.push_reserved.new.self.items e i.seals.items i.unsealed is tt c.self.invariant.groups;
    }
