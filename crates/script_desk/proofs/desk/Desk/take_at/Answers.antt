use Rattle.std.proofs.Common.{◌≡◌, ℕ, None, Some, refl, ap, ◌∙◌, sym, subst, arith, Option, is_some}
use Rattle.event_history.specs.Steps as s
use Rattle.history_core.specs.Snapshots.{Snapshot}
use Rattle.history_core.specs.Replies.{Makes}
use Rattle.script_desk.specs.Desks.{Desk, held_of_query, holding, moved, taken_at}
use Rattle.script_desk.specs.Kept.{query_of, take_in, take_reply}
use Rattle.script_desk.proofs.QueryLemmas.{free_there, place_there, take_is, taken_is}
use Rattle.script_desk.proofs.desk.Desk.take_at.Goals as goal

pub take_hold-requires-clause-free : goal.take_hold-requires-clause-free
take_hold-requires-clause-free c =
    let i = c.self.inside in
    let q = c.args.query in
    free_there i.queries.items q c.args.at c.index_mut.result.now c.requires.place
    (subst (λ (d : Desk). held_of_query d.queries q ≡ Some None) (sym c.self.view_is) c.requires.free) c.index_mut.ensures.value

pub take_hold-requires-clause-known : goal.take_hold-requires-clause-known
take_hold-requires-clause-known c =
    let i = c.self.inside in
    let q = c.args.query in
    let at = c.args.at in
    let there = place_there i.queries.items q at None c.requires.place (subst (λ (d : Desk). held_of_query d.queries q ≡ Some None) (sym c.self.view_is) c.requires.free) in
    let of_it = c.self.invariant.each at c.index_mut.result.now there c.index_mut.ensures.value in
    (omega (arith, of_it), omega (arith, of_it, there, c.self.invariant.count))

pub returns-clause-desk : goal.returns-clause-desk
returns-clause-desk c =
    let i = c.self.inside in
    let q = c.args.query in
    let at = c.args.at in
    let h = c.index_mut.result.now in
    let held = c.take_hold.new.hold in
    let free = subst (λ (d : Desk). held_of_query d.queries q ≡ Some None) (sym c.self.view_is) c.requires.free in
    let there = place_there i.queries.items q at None c.requires.place free in
    let of_it : query_of h ≡ q = c.self.invariant.each at h there c.index_mut.ensures.value ∙ c.requires.place in
    let made = subst (λ (n : ℕ). Makes i.store c.take_hold.new.store 0 (s.Take n) (Some (take_reply n (take_in held)))) of_it c.in_ok-told.ensures.step in
    take_is i.store c.take_hold.new.store i.claims.items i.groups.items i.queries.items _ q at h held c.requires.place c.index_mut.ensures.value
    (free_there i.queries.items q at h c.requires.place free c.index_mut.ensures.value) refl made
    ∙ ap (λ (d : Desk). holding q (taken_at q d) (moved d (s.Take q))) c.self.view_is

pub returns-clause-told : goal.returns-clause-told
returns-clause-told c =
    let i = c.self.inside in
    let q = c.args.query in
    let at = c.args.at in
    let h = c.index_mut.result.now in
    let held = c.take_hold.new.hold in
    let free = subst (λ (d : Desk). held_of_query d.queries q ≡ Some None) (sym c.self.view_is) c.requires.free in
    let there = place_there i.queries.items q at None c.requires.place free in
    let of_it : query_of h ≡ q = c.self.invariant.each at h there c.index_mut.ensures.value ∙ c.requires.place in
    let made = subst (λ (n : ℕ). Makes i.store c.take_hold.new.store 0 (s.Take n) (Some (take_reply n (take_in held)))) of_it c.in_ok-told.ensures.step in
    c.in_ok-told.ensures.told
    ∙ ap (λ (o : Option Snapshot). is_some o) (sym (taken_is i.store c.take_hold.new.store i.claims.items i.groups.items i.queries.items q held made))
    ∙ ap (λ (d : Desk). is_some (taken_at q d)) c.self.view_is
