use Rattle.std.proofs.Common.{◌≡◌, map, Option, OnOk, true, is_some, slice_set, ap, ◌∙◌, sym, subst, arith}
use Rattle.event_history.specs.Histories.{past}
use Rattle.history_core.specs.Snapshots.{Snapshot}
use Rattle.script_desk.specs.declared.desk.Hold.{Hold}
use Rattle.script_desk.specs.Desks.{Desk, Plays, held_in, held_of_query, play_page, reads_of, take_of}
use Rattle.script_desk.specs.Kept.{HoldsAccepted, desk_of, take_in}
use Rattle.script_desk.proofs.PageLemmas.{page_played, take_here, taken_there}
use Rattle.script_desk.proofs.StayLemmas.{agrees}
use Rattle.script_desk.proofs.desk.Desk.page_at.Goals as goal

pub finish_hold-requires-clause-taken : goal.finish_hold-requires-clause-taken
finish_hold-requires-clause-taken g c =
    let i = c.self.inside in
    let q = c.args.query in
    let at = c.args.at in
    let h = c.index_mut.result.now in
    let some : is_some (held_in (held_of_query (map take_in i.queries.items) q)) ≡ true = subst (λ (d : Desk). is_some (take_of q d) ≡ true) (sym c.self.view_is) c.requires.taken in
    let there = taken_there i.queries.items q at c.requires.place some in
    let here = take_here i.queries.items q at h c.requires.place there c.index_mut.ensures.value in
    ap (λ (o : Option Snapshot). is_some o) (sym here) ∙ some

pub finish_hold-requires-clause-agree : goal.finish_hold-requires-clause-agree
finish_hold-requires-clause-agree g c =
    let i = c.self.inside in
    let q = c.args.query in
    let at = c.args.at in
    let h = c.index_mut.result.now in
    let some : is_some (held_in (held_of_query (map take_in i.queries.items) q)) ≡ true = subst (λ (d : Desk). is_some (take_of q d) ≡ true) (sym c.self.view_is) c.requires.taken in
    let there = taken_there i.queries.items q at c.requires.place some in
    let here = take_here i.queries.items q at h c.requires.place there c.index_mut.ensures.value in
    let before = past i.store.history in
    let accepted : HoldsAccepted before h = subst (λ (x : Hold). HoldsAccepted before x) (sym c.index_mut.ensures.value) (c.self.invariant.takes at h there) in
    agrees i.store.limits before h i.cache accepted c.self.invariant.kept

pub returns-clause-plays : goal.returns-clause-plays
returns-clause-plays g c =
    let i = c.self.inside in
    let q = c.args.query in
    let at = c.args.at in
    let h = c.index_mut.result.now in
    let some : is_some (held_in (held_of_query (map take_in i.queries.items) q)) ≡ true = subst (λ (d : Desk). is_some (take_of q d) ≡ true) (sym c.self.view_is) c.requires.taken in
    let there = taken_there i.queries.items q at c.requires.place some in
    let here = take_here i.queries.items q at h c.requires.place there c.index_mut.ensures.value in
    let out = c.args.out.now in
    let out_now = c.push_page.new.out in
    let held = c.finish_hold.new.hold in
    let taken : is_some (take_in h) ≡ true = ap (λ (o : Option Snapshot). is_some o) (sym here) ∙ some in
    let now = desk_of i.store i.claims.items i.groups.items (slice_set i.queries.items at held) in
    subst (λ (d : Desk). OnOk c.push_page.result (Plays (play_page q d) now out out_now)) c.self.view_is
    (page_played c.push_page.result i.store i.claims.items i.groups.items i.queries.items q at h held i.cache c.in_ok-page.page out out_now
    c.requires.place there c.index_mut.ensures.value taken c.in_ok-page.ensures.free c.in_ok-page.ensures.page c.push_page.ensures)

pub returns-clause-steps : goal.returns-clause-steps
returns-clause-steps g c =
    let i = c.self.inside in
    let q = c.args.query in
    let at = c.args.at in
    let h = c.index_mut.result.now in
    let some : is_some (held_in (held_of_query (map take_in i.queries.items) q)) ≡ true = subst (λ (d : Desk). is_some (take_of q d) ≡ true) (sym c.self.view_is) c.requires.taken in
    let there = taken_there i.queries.items q at c.requires.place some in
    let here = take_here i.queries.items q at h c.requires.place there c.index_mut.ensures.value in
    let same : reads_of (take_of q c.args.self.now) ≡ reads_of (take_in h) = ap (λ (d : Desk). reads_of (take_of q d)) (sym c.self.view_is) ∙ ap (λ (o : Option Snapshot). reads_of o) here in
    omega (arith, same, c.finish_hold.ensures.steps)

pub returns-in_err-page-clause-steps : goal.returns-in_err-page-clause-steps
returns-in_err-page-clause-steps g c =
    let i = c.self.inside in
    let q = c.args.query in
    let at = c.args.at in
    let h = c.index_mut.result.now in
    let some : is_some (held_in (held_of_query (map take_in i.queries.items) q)) ≡ true = subst (λ (d : Desk). is_some (take_of q d) ≡ true) (sym c.self.view_is) c.requires.taken in
    let there = taken_there i.queries.items q at c.requires.place some in
    let here = take_here i.queries.items q at h c.requires.place there c.index_mut.ensures.value in
    let same : reads_of (take_of q c.args.self.now) ≡ reads_of (take_in h) = ap (λ (d : Desk). reads_of (take_of q d)) (sym c.self.view_is) ∙ ap (λ (o : Option Snapshot). reads_of o) here in
    omega (arith, same, c.finish_hold.ensures.steps)
