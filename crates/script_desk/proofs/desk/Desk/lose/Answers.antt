use Rattle.std.proofs.Common.{List, OnOk, subst}
use Rattle.history_core.specs.declared.answers.Claim.{Claim}
use Rattle.script_desk.specs.Desks.{Desk, Plays, play_lose}
use Rattle.script_desk.specs.Kept.{IsFirstOn, NoneOn, desk_of}
use Rattle.script_desk.proofs.PlayLemmas.{lost, not_lost}
use Rattle.script_desk.proofs.desk.Desk.lose.Goals as goal

pub returns-in_default : goal.returns-in_default
returns-in_default c =
    let i = c.self.inside in
    let b = c.args.batch in
    let out = c.args.out.now in
    let none : NoneOn i.claims.items b = subst (λ (xs : List Claim). NoneOn xs b) c.as_slice.ensures.value c.in_default.ensures in
    subst (λ (d : Desk). OnOk c.push_line.result (Plays (play_lose b d) d out c.push_line.new.out)) c.self.view_is
    (not_lost c.push_line.result i.store i.claims.items i.groups.items i.queries.items b out c.push_line.new.out none c.push_line.ensures)

pub returns : goal.returns
returns c =
    let i = c.self.inside in
    let b = c.args.batch in
    let out = c.args.out.now in
    let out_now = c.push_line-2.new.out in
    let first : IsFirstOn i.claims.items b c.in-Some.at = subst (λ (xs : List Claim). IsFirstOn xs b c.in-Some.at) c.as_slice.ensures.value c.in-Some.ensures in
    let now = desk_of i.store c.remove-claim.new.self.items i.groups.items i.queries.items in
    subst (λ (d : Desk). OnOk c.push_line-2.result (Plays (play_lose b d) now out out_now)) c.self.view_is
    (lost c.push_line-2.result i.store i.claims.items c.remove-claim.new.self.items i.groups.items i.queries.items b c.in-Some.at out out_now first c.remove-claim.ensures.items c.push_line-2.ensures)
