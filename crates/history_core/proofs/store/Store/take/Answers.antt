use Rattle.std.proofs.Common.{◌≡◌, ◌+◌, ◌-◌, ◌<◌, ◌++◌, ◌∷◌, [], ℕ, List, length, ap, ◌∙◌, arith, subst, sym}
use Rattle.event_history.specs.declared.entry.Deed.TheVariants.{Take}
use Rattle.event_history.specs.declared.entry.Entry.{Entry}
use Rattle.event_history.specs.Histories.{past}
use Rattle.event_history.specs.Legal.{GoesTo}
use Rattle.event_history.specs.Queries.{registration}
use Rattle.history_core.specs.Replies.{IsRegistered}
use Rattle.history_core.specs.Shown.{Shown}
use Rattle.history_core.specs.Snapshots.{IsSnapshot}
use Rattle.history_core.specs.Stores.{IsQuery}
use Rattle.history_core.specs.Telling.{TellsUpTo}
use Rattle.history_core.proofs.CarryLemmas.{carried, groups_carried, past_more}
use Rattle.history_core.proofs.TakeLemmas.{snapshot_goes, take_keeps, tells_then}
use Rattle.history_core.proofs.store.Store.take.Goals as goal

pub invariant_of-self-2 : goal.invariant_of-self-2
invariant_of-self-2 c =
    let i = c.self.inside in
    let m = c.self.invariant.main in
    let now = c.args.self.now in
    let r = c.args.session.query in
    let past_to = c.past-past_to.result.1 in
    let live_to = c.live-live_to.result.1 in
    let e : Entry = record { seat = c.args.seat; deed = Take r past_to live_to } in
    let is : c.push_reserved.new.self.items ≡ i.entries.items ++ e ∷ [] =
    c.push_reserved.ensures.items ∙ ap (λ (xs : List Entry). xs ++ e ∷ []) c.reserve.ensures.items in
    let known : IsRegistered (record { limits = i.limits; history = i.entries.items }) r = subst (λ (x : Shown). IsRegistered x r) (sym c.self.view_is) c.requires in
    let there : r - 1 < length i.queries.items = omega (arith, known.0, known.1, m.queries_are) in
    let told : GoesTo (past now.history) r c.in-Ok.snapshot.taking.past_to c.in-Ok.snapshot.taking.live_to (registration r (past now.history)) =
    snapshot_goes now.limits.group (past now.history) r c.in-Ok.snapshot (registration r (past now.history)) c.in-Ok.ensures in
    let one : past_to ≡ c.in-Ok.snapshot.taking.past_to = ap (λ (x : ℕ × ℕ). x.1) c.past-past_to.ensures in
    let two : live_to ≡ c.in-Ok.snapshot.taking.live_to = ap (λ (x : ℕ × ℕ). x.1) c.live-live_to.ensures in
    let moved : GoesTo (past now.history) r past_to live_to (registration r (past now.history)) =
    subst (λ (n : ℕ). GoesTo (past now.history) r n live_to (registration r (past now.history))) (sym one)
    (subst (λ (n : ℕ). GoesTo (past now.history) r c.in-Ok.snapshot.taking.past_to n (registration r (past now.history))) (sym two) told) in
    let goes : GoesTo (past i.entries.items) r past_to live_to (registration r (past i.entries.items)) =
    subst (λ (x : Shown). GoesTo (past x.history) r past_to live_to (registration r (past x.history))) (sym c.self.view_is) moved in
    record {
      main = carried i.limits i.entries.items c.push_reserved.new.self.items e i.rows i.kept.items i.low _ is
          (take_keeps i.limits i.entries.items (past i.entries.items) c.args.seat r past_to live_to i.rows i.kept.items i.low (r - 1) i.queries.items c.index-known.result.now
          m there c.index-known.ensures c.if-known.false (omega (arith, known.0)) goes);
      groups = groups_carried i.limits i.entries.items c.push_reserved.new.self.items e i.seals.items i.unsealed is tt c.self.invariant.groups;
    }

pub returns-clause-told : goal.returns-clause-told
returns-clause-told c =
    let i = c.self.inside in
    let m = c.self.invariant.main in
    let before = past i.entries.items in
    let r = c.args.session.query in
    let x = c.in-Ok.snapshot in
    let deed_of : ℕ → ℕ → Entry = λ p l. record { seat = c.args.seat; deed = Take r p l } in
    let e : Entry = deed_of c.past-past_to.result.1 c.live-live_to.result.1 in
    let is : c.push_reserved.new.self.items ≡ i.entries.items ++ e ∷ [] =
    c.push_reserved.ensures.items ∙ ap (λ (xs : List Entry). xs ++ e ∷ []) c.reserve.ensures.items in
    let known : IsRegistered (record { limits = i.limits; history = i.entries.items }) r = subst (λ (y : Shown). IsRegistered y r) (sym c.self.view_is) c.requires in
    let there : r - 1 < length i.queries.items = omega (arith, known.0, known.1, m.queries_are) in
    let number : r - 1 + 1 ≡ r = omega (arith, known.0) in
    let one : IsQuery i.entries.items before r c.index-known.result.now =
    subst (λ (n : ℕ). IsQuery i.entries.items before n c.index-known.result.now) number (m.each_query (r - 1) c.index-known.result.now there c.index-known.ensures) in
    let snap : IsSnapshot i.limits.group before r x (registration r before) =
    subst (λ (y : Shown). IsSnapshot y.limits.group (past y.history) r x (registration r (past y.history))) (sym c.self.view_is) c.in-Ok.ensures in
    let told = tells_then c.each_is_told_once.ensures i.limits before c.args.seat r x snap m.legal (sym one.3 ∙ c.if-known.false) in
    let goes : past c.push_reserved.new.self.items ≡ deed_of x.taking.past_to x.taking.live_to ∷ before =
    ap (λ (h : List Entry). past h) is
    ∙ past_more i.entries.items e
    ∙ ap (λ (p : ℕ × ℕ). deed_of p.1 c.live-live_to.result.1 ∷ before) c.past-past_to.ensures
    ∙ ap (λ (p : ℕ × ℕ). deed_of x.taking.past_to p.1 ∷ before) c.live-live_to.ensures in
    subst (λ (h : List Entry). TellsUpTo h r x.taking (registration r h)) (sym goes) told
