use Rattle.std.proofs.Common.{◌≡◌, ℕ, List, OnOk, ap, ◌∙◌, subst}
use Rattle.history_core.specs.declared.answers.Claim.{Claim}
use Rattle.event_history.specs.Steps as s
use Rattle.script_desk.specs.Desks.{Desk, Plays, moved, play_unclaim}
use Rattle.script_desk.specs.Kept.{IsFirstOn, NoneOn, desk_of}
use Rattle.script_desk.proofs.PlayLemmas.{unclaimed, not_unclaimed}
use Rattle.script_desk.proofs.desk.Desk.unclaim.Goals as goal

pub returns-in_default : goal.returns-in_default
returns-in_default c =
    let i = c.self.inside in
    let b = c.args.batch in
    let out = c.args.out.now in
    let none : NoneOn i.claims.items b = subst (λ (xs : List Claim). NoneOn xs b) c.as_slice.ensures.value c.in_default.ensures in
    subst (λ (d : Desk). OnOk c.push_line.result (Plays (play_unclaim b d) d out c.push_line.new.out)) c.self.view_is
    (not_unclaimed c.push_line.result i.store i.claims.items i.groups.items i.queries.items b out c.push_line.new.out none c.push_line.ensures)

pub returns : goal.returns
returns c =
    let i = c.self.inside in
    let b = c.args.batch in
    let out = c.args.out.now in
    let out_now = c.push_line-2.new.out in
    let claims = c.remove-claim.new.self.items in
    let first : IsFirstOn i.claims.items b c.in-Some.at = subst (λ (xs : List Claim). IsFirstOn xs b c.in-Some.at) c.as_slice.ensures.value c.in-Some.ensures in
    let of_it : c.remove-claim.result.batch ≡ b = first.here c.remove-claim.result c.remove-claim.ensures.value in
    let left = desk_of i.store claims i.groups.items i.queries.items in
    let after : c.give_back.new.self ≡ moved left (s.Unclaim b) = c.in_ok-give_back.ensures ∙ ap (λ (n : ℕ). moved left (s.Unclaim n)) of_it in
    subst (λ (d : Desk). OnOk c.push_line-2.result (Plays (play_unclaim b d) c.give_back.new.self out out_now)) c.self.view_is
    (unclaimed c.push_line-2.result i.store i.claims.items claims i.groups.items i.queries.items b c.in-Some.at c.give_back.new.self out out_now first c.remove-claim.ensures.items after c.push_line-2.ensures)
