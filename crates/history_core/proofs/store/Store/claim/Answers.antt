use Rattle.std.proofs.Common.{◌≡◌, ◌+◌, ◌++◌, ◌∷◌, [], List, Option, None, Some, ap, ◌∙◌, subst, sym, slice_get, ℕ}
use Rattle.event_batch.specs.Contents.{Spelled}
use Rattle.event_history.specs.declared.entry.Deed.TheVariants.{Claim}
use Rattle.event_history.specs.declared.entry.Entry.{Entry}
use Rattle.event_history.specs.Choices.{next_claim}
use Rattle.event_history.specs.Histories.{accepted, first_of, past}
use Rattle.event_history.specs.Steps as s
use Rattle.history_core.specs.declared.kept.Kept.{Kept}
use Rattle.history_core.specs.Searches.{IsFirstFree, NoneFree}
use Rattle.history_core.specs.Shown.{Shown, with_entries}
use Rattle.history_core.specs.Stores.{IsKept}
use Rattle.history_core.proofs.CarryLemmas.{carried, groups_carried}
use Rattle.history_core.proofs.ClaimLemmas.{claim_keeps, first_to_claim, none_to_claim}
use Rattle.history_core.proofs.MakeLemmas.{makes_none, makes_one}
use Rattle.history_core.proofs.store.Store.claim.Goals as goal

pub returns-in_default-clause-step : goal.returns-in_default-clause-step
returns-in_default-clause-step c =
    let i = c.self.inside in
    let now = c.args.self.now in
    let none : NoneFree i.kept.items i.low = subst (λ (xs : List Kept). NoneFree xs i.low) c.as_slice.ensures.value c.in_default.ensures in
    let next : next_claim (past now.history) ≡ None =
    ap (λ (x : Shown). next_claim (past x.history)) (sym c.self.view_is)
    ∙ none_to_claim i.limits i.entries.items (past i.entries.items) i.rows i.kept.items i.low i.queries.items c.self.invariant.main none in
    makes_none now c.args.seat s.Claim s.NoneFree (ap (λ (o : Option ℕ). s.claim_step (past now.history) o) next)

pub invariant_of-self-2 : goal.invariant_of-self-2
invariant_of-self-2 c =
    let i = c.self.inside in
    let at = c.in-Some.at in
    let e : Entry = record { seat = c.args.seat; deed = Claim at } in
    let is : c.push_reserved.new.self.items ≡ i.entries.items ++ e ∷ [] =
    c.push_reserved.ensures.items ∙ ap (λ (xs : List Entry). xs ++ e ∷ []) c.in_ok-reserve.ensures.items in
    let first : IsFirstFree i.kept.items i.low at = subst (λ (xs : List Kept). IsFirstFree xs i.low at) c.as_slice.ensures.value c.in-Some.ensures in
    record {
      main = carried i.limits i.entries.items c.push_reserved.new.self.items e i.rows _ (at + 1) i.queries.items is
          (claim_keeps i.limits i.entries.items (past i.entries.items) c.args.seat i.rows i.kept.items i.low at i.queries.items c.index_mut.result.now
          c.self.invariant.main first c.index_mut.ensures.value);
      groups = groups_carried i.limits i.entries.items c.push_reserved.new.self.items e i.seals.items i.unsealed is tt c.self.invariant.groups;
    }

pub returns-clause-step : goal.returns-clause-step
returns-clause-step c =
    let i = c.self.inside in
    let now = c.args.self.now in
    let at = c.in-Some.at in
    let before = past now.history in
    let e : Entry = record { seat = c.args.seat; deed = Claim at } in
    let first : IsFirstFree i.kept.items i.low at = subst (λ (xs : List Kept). IsFirstFree xs i.low at) c.as_slice.ensures.value c.in-Some.ensures in
    let next : next_claim before ≡ Some at =
    ap (λ (x : Shown). next_claim (past x.history)) (sym c.self.view_is)
    ∙ first_to_claim i.limits i.entries.items (past i.entries.items) i.rows i.kept.items i.low at i.queries.items c.self.invariant.main first in
    let one : IsKept (past i.entries.items) at c.index.result.now = c.self.invariant.main.each at c.index.result.now first.there c.index.ensures in
    let two : IsKept (past i.entries.items) at c.index-2.result.now = c.self.invariant.main.each at c.index-2.result.now first.there c.index-2.ensures in
    let bytes : slice_get (accepted before) at ≡ Some c.in_ok-packed.packed =
    ap (λ (x : Shown). slice_get (accepted (past x.history)) at) (sym c.self.view_is) ∙ two.0 ∙ ap (λ (p : Spelled). Some p) (sym c.in_ok-packed.ensures) in
    let id : first_of at before ≡ c.index.result.now.first =
    ap (λ (x : Shown). first_of at (past x.history)) (sym c.self.view_is) ∙ sym one.1 in
    let step : s.claim_step before (next_claim before) ≡ s.does (s.Claimed at c.index.result.now.first c.in_ok-packed.packed) (Claim at) =
    ap (λ (o : Option ℕ). s.claim_step before o) next
    ∙ ap (λ (o : Option Spelled). s.does (s.claim_of before at o) (Claim at)) bytes
    ∙ ap (λ (n : ℕ). s.does (s.Claimed at n c.in_ok-packed.packed) (Claim at)) id in
    let is : c.push_reserved.new.self.items ≡ i.entries.items ++ e ∷ [] =
    c.push_reserved.ensures.items ∙ ap (λ (xs : List Entry). xs ++ e ∷ []) c.in_ok-reserve.ensures.items in
    makes_one now _ c.args.seat s.Claim (s.Claimed at c.index.result.now.first c.in_ok-packed.packed) (Claim at) step
    (ap (λ (h : List Entry). record { limits = i.limits; history = h }) is ∙ ap (λ (x : Shown). with_entries x (e ∷ [])) c.self.view_is)
