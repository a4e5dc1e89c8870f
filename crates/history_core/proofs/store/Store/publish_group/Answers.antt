use Rattle.std.proofs.Common.{◌≡◌, ◌+◌, ◌*◌, ◌≤◌, ◌++◌, ◌∷◌, [], List, Some, true, false, length, ap, ◌∙◌, arith, subst, sym}
use Rattle.std.proofs.Math.ListN.{set}
use Rattle.event_history.specs.declared.entry.Deed.TheVariants.{Seal}
use Rattle.event_history.specs.declared.entry.Entry.{Entry}
use Rattle.event_history.specs.Histories.{is_full, is_sealed, past}
use Rattle.event_history.specs.Pieces.{Piece, group_piece, joined}
use Rattle.event_history.specs.Steps.{group_pieces}
use Rattle.history_core.specs.declared.kept.Seal.{Seal as KeptSeal}
use Rattle.history_core.specs.Searches.{AllSealed}
use Rattle.history_core.specs.Shown.{Shown}
use Rattle.history_core.specs.Stores.{KeepsGroups}
use Rattle.history_core.proofs.CarryLemmas.{carried, past_more}
use Rattle.history_core.proofs.GroupLemmas.{full_within, joined_group, number_within, on_ok, seal_groups, seal_keeps}
use Rattle.history_core.proofs.store.Store.publish_group.Goals as goal

pub overflow_add-at : goal.overflow_add-at
overflow_add-at c =
    let i = c.self.inside in
    let m = c.self.invariant.main in
    let k = c.args.group.number in
    let full : is_full i.limits.group k (past i.entries.items) ≡ true =
    ap (λ (s : Shown). is_full s.limits.group k (past s.history)) c.self.view_is ∙ c.requires.group.0 in
    let there = full_within i.limits (past i.entries.items) k m.legal c.self.invariant.groups.size full in
    omega (arith, number_within k i.limits.group (length i.kept.items) c.self.invariant.groups.size (omega (arith, there, m.count)), i.kept.ok.0, i.kept.ok.1, i.kept.small)

pub invariant_of-self-2 : goal.invariant_of-self-2
invariant_of-self-2 c =
    let i = c.self.inside in
    let m = c.self.invariant.main in
    let k = c.args.group.number in
    let full : is_full i.limits.group k (past i.entries.items) ≡ true =
    ap (λ (s : Shown). is_full s.limits.group k (past s.history)) c.self.view_is ∙ c.requires.group.0 in
    let there = full_within i.limits (past i.entries.items) k m.legal c.self.invariant.groups.size full in
    let e : Entry = record { seat = c.args.seat; deed = Seal k } in
    let is : c.push_reserved.new.self.items ≡ i.entries.items ++ e ∷ [] =
    c.push_reserved.ensures.items ∙ ap (λ (xs : List Entry). xs ++ e ∷ []) c.reserve.ensures.items in
    let unsealed_yet : is_sealed k (past i.entries.items) ≡ false =
    ap (λ (s : Shown). is_sealed k (past s.history)) c.self.view_is ∙ sym c.is_sealed.ensures ∙ c.if-is_sealed.false in
    let stands : c.new.result ≡ group_piece i.limits.group k (past i.entries.items) =
    c.new.ensures ∙ c.requires.sealed
    ∙ ap (λ (ps : List Piece). joined ps)
    (c.requires.group.1 ∙ ap (λ (s : Shown). group_pieces (past s.history) (k * s.limits.group) s.limits.group) (sym c.self.view_is))
    ∙ joined_group i.limits.group k (past i.entries.items) c.self.invariant.groups.size in
    let new : KeptSeal = record { sealed = Some c.new.result } in
    let seals : List KeptSeal = set c.grow.new.seals.items k new in
    let after = c.first_unsealed-self-inside.result in
    let long : k + 1 ≤ length c.grow.new.seals.items = on_ok c.grow.result (k + 1 ≤ length c.grow.new.seals.items) (sym c.is_err-else-is_err.ensures.value ∙ c.if-is_err-2.false) c.grow.ensures.long in
    let all : AllSealed seals i.unsealed after = subst (λ (xs : List KeptSeal). AllSealed xs i.unsealed after) c.as_slice.ensures.value c.first_unsealed-self-inside.ensures in
    record {
      main = carried i.limits i.entries.items c.push_reserved.new.self.items e i.rows i.kept.items i.low i.queries.items is
          (seal_keeps i.limits i.entries.items (past i.entries.items) c.args.seat k i.rows i.kept.items i.low i.queries.items m full unsealed_yet);
      groups =
          subst (λ (h : List Entry). KeepsGroups i.limits (past h) seals after) (sym is)
          (subst (λ (b : List Entry). KeepsGroups i.limits b seals after) (sym (past_more i.entries.items e))
          (seal_groups i.limits (past i.entries.items) c.args.seat k i.seals.items c.grow.new.seals.items c.new.result there c.grow.ensures.same (omega (arith, long)) stands
          i.unsealed after c.self.invariant.groups all));
    }
