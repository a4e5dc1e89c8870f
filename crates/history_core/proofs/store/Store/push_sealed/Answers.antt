use Rattle.std.proofs.Common.{◌≡◌, ◌+◌, ◌-◌, ◌*◌, ◌<◌, ◌≤◌, ◌++◌, ◌∷◌, [], ℕ, Bool, List, Option, Some, true, length, map, max, min, ap, ◌∙◌, arith, subst, sym}
use Rattle.std.proofs.lemmas.List.{map-append}
use Rattle.event_history.specs.Histories.{first_of, is_sealed, past}
use Rattle.event_history.specs.Pieces.{Piece, group_piece, group_reaches, one_if}
use Rattle.event_history.proofs.AnswerLemmas.{lt_true}
use Rattle.partition.specs.declared.part.Part.{Part}
use Rattle.partition.specs.declared.part.Part.TheVariants.{Many}
use Rattle.partition.specs.Parts.{piece_of}
use Rattle.history_core.specs.Shown.{Shown}
use Rattle.history_core.specs.Stores.{IsKept, Stands, seal_at}
use Rattle.history_core.proofs.GroupLemmas.{seal_here, sealed_there}
use Rattle.history_core.proofs.store.Store.push_sealed.Goals as goal

pub returns : goal.returns
returns c =
    let i = c.self.inside in
    let now = c.args.self.now in
    let k = c.args.number in
    let low = c.args.low in
    let high = c.args.high in
    let size = i.limits.group in
    let before = past i.entries.items in
    let m = c.self.invariant.main in
    let some : 0 < size = c.self.invariant.groups.size in
    let sealed : is_sealed k before ≡ true = ap (λ (s : Shown). is_sealed k (past s.history)) c.self.view_is ∙ c.requires in
    let group = c.self.invariant.groups.each k in
    let within : k * size + size ≤ length i.kept.items = omega (arith, group.2 sealed, m.count) in
    let there : k < length i.seals.items = sealed_there i.seals.items k (group.0 ∙ sealed) in
    let found : seal_at i.seals.items k ≡ Some c.in-Some.sealed = seal_here i.seals.items k c.index-3.result.now there c.index-3.ensures ∙ c.in-Some.is in
    let stands : c.in-Some.sealed ≡ group_piece size k before = subst (λ (o : Option Piece). Stands o (group_piece size k before)) found group.1 in
    let one : IsKept before (k * size) c.index.result.now = m.each (k * size) c.index.result.now (omega (arith, within, some)) c.index.ensures in
    let two : IsKept before (k * size + size - 1) c.index-2.result.now = m.each (k * size + size - 1) c.index-2.result.now (omega (arith, within, some)) c.index-2.ensures in
    let next : k * size + size - 1 + 1 ≡ k * size + size = omega (arith, some) in
    let ends : c.index-2.result.now.end ≡ first_of (k * size + size) before = two.2 ∙ ap (λ (n : ℕ). first_of n before) next in
    let reach : group_reaches size low high before k ≡ true =
    lt_true (max low (first_of (k * size) before)) (min high (first_of (k * size + size) before))
    (omega (arith, c.if-max-min.false, c.max.ensures, c.min.ensures, one.1, ends)) in
    let part : Part = Many c.in_ok-share.field-0 in
    let piece : piece_of part ≡ group_piece size k before = c.in_ok-share.ensures ∙ stands in
    let front = map piece_of c.args.parts.now.items in
    ap (λ (xs : List Part). map piece_of xs) c.in_ok-push.ensures.items
    ∙ map-append piece_of c.args.parts.now.items (part ∷ [])
    ∙ ap (λ (p : Piece). front ++ p ∷ []) piece
    ∙ sym (ap (λ (b : Bool). front ++ one_if b (group_piece size k before)) reach)
    ∙ ap (λ (s : Shown). front ++ one_if (group_reaches s.limits.group low high (past s.history) k) (group_piece s.limits.group k (past s.history))) c.self.view_is
