use Rattle.std.proofs.Common.{◌≡◌, ◌≤◌, ◌+◌, ◌++◌, ◌∷◌, [], List, length, ap, ◌∙◌, arith, subst, sym, ℕ, false}
use Rattle.query_meaning.specs.declared.expr.Expr.{Expr}
use Rattle.event_history.specs.declared.entry.Deed.TheVariants.{Register}
use Rattle.event_history.specs.declared.entry.Entry.{Entry}
use Rattle.event_history.specs.Histories.{past}
use Rattle.event_history.specs.Modes.{past_begin}
use Rattle.history_core.specs.declared.kept.Query.{Query}
use Rattle.history_core.specs.Stores.{Keeps}
use Rattle.history_core.proofs.CarryLemmas.{carried, groups_carried}
use Rattle.history_core.proofs.QueryLemmas.{register_keeps}
use Rattle.history_core.proofs.store.Store.register.Goals as goal

pub invariant_of-self-2 : goal.invariant_of-self-2
invariant_of-self-2 c =
    let i = c.self.inside in
    let rows = i.rows in
    let mode = c.args.mode in
    let r : ℕ = length i.queries.items + 1 in
    let entry_of : ℕ → Expr → Entry = λ n expr. record { seat = c.args.seat; deed = Register n mode expr } in
    let e : Entry = entry_of r c.args.expr in
    let count : c.len-count.result ≡ length i.queries.items = omega (arith, i.queries.ok.0, c.len-count.ensures) in
    let place : c.len-place.result ≡ length i.entries.items =
    omega (arith, c.len-place.ensures, c.reserve-else-is_err.new.self.ok.0, ap (λ (xs : List Entry). length xs) c.reserve-else-is_err.ensures.items) in
    let is : c.push_reserved-2.new.self.items ≡ i.entries.items ++ e ∷ [] =
    c.push_reserved-2.ensures.items
    ∙ ap (λ (xs : List Entry). xs ++ entry_of (c.len-count.result + 1) c.in-Ok.expr ∷ []) c.reserve-else-is_err.ensures.items
    ∙ ap (λ (n : ℕ). i.entries.items ++ entry_of (n + 1) c.in-Ok.expr ∷ []) count
    ∙ ap (λ (x : Expr). i.entries.items ++ entry_of r x ∷ []) c.in-Ok.ensures.value in
    let begins : past_begin mode rows ≤ rows = omega (arith, c.past_begin-from.ensures, c.if-from-have.false) in
    let query : ℕ → ℕ → Query = λ p b. record { place = p; mode = mode; registered = rows; past_to = b; live_to = rows; left = false } in
    let queries : c.push_reserved.new.self.items ≡ i.queries.items ++ query c.len-place.result (past_begin mode rows) ∷ [] =
    c.push_reserved.ensures.items
    ∙ ap (λ (xs : List Query). xs ++ query c.len-place.result c.past_begin-from.result ∷ []) c.reserve.ensures.items
    ∙ ap (λ (b : ℕ). i.queries.items ++ query c.len-place.result b ∷ []) c.past_begin-from.ensures in
    record {
      main = carried i.limits i.entries.items c.push_reserved-2.new.self.items e rows i.kept.items i.low c.push_reserved.new.self.items is
          (subst (λ (xs : List Query). Keeps i.limits (i.entries.items ++ e ∷ []) (e ∷ past i.entries.items) rows i.kept.items i.low xs) (sym queries)
          (register_keeps i.limits i.entries.items (past i.entries.items) c.args.seat mode c.args.expr rows i.kept.items i.low i.queries.items c.len-place.result
          c.self.invariant.main (omega (arith, count, c.if-count-limit.false)) begins place));
      groups = groups_carried i.limits i.entries.items c.push_reserved-2.new.self.items e i.seals.items i.unsealed is tt c.self.invariant.groups;
    }
