use Rattle.std.proofs.Common.{◌≡◌, ◌∷◌, ◌++◌, [], List, OnOk, ap, ◌∙◌, subst}
use Rattle.history_core.specs.declared.answers.Claim.{Claim}
use Rattle.script_desk.specs.Desks.{Desk, Plays, play_claim}
use Rattle.script_desk.specs.Kept.{desk_of}
use Rattle.script_desk.proofs.PlayLemmas.{none_claimed, one_claimed}
use Rattle.script_desk.proofs.desk.Desk.claim.Goals as goal

pub returns-in-Ok-None : goal.returns-in-Ok-None
returns-in-Ok-None c =
    let i = c.self.inside in
    let out = c.args.out.now in
    let out_now = c.push_words.new.out in
    let now = desk_of c.claim-end.new.self c.reserve.new.self.items i.groups.items i.queries.items in
    subst (λ (d : Desk). OnOk c.push_words.result (Plays (play_claim d) now out out_now)) c.self.view_is
    (none_claimed c.push_words.result i.store c.claim-end.new.self i.claims.items c.reserve.new.self.items i.groups.items i.queries.items c.in-Ok-None.field-0 out out_now
    c.in-Ok-None.ensures.step c.in-Ok-None.field-0-is c.reserve.ensures.items c.push_words.ensures)

pub returns-in-Ok-Some : goal.returns-in-Ok-Some
returns-in-Ok-Some c =
    let i = c.self.inside in
    let out = c.args.out.now in
    let out_now = c.push_line.new.out in
    let claim = c.in-Ok-Some.claim in
    let claims = c.push_reserved.new.self.items in
    let more : claims ≡ i.claims.items ++ claim ∷ [] = c.push_reserved.ensures.items ∙ ap (λ (xs : List Claim). xs ++ claim ∷ []) c.reserve.ensures.items in
    let now = desk_of c.claim-end.new.self claims i.groups.items i.queries.items in
    subst (λ (d : Desk). OnOk c.push_line.result (Plays (play_claim d) now out out_now)) c.self.view_is
    (one_claimed c.push_line.result i.store c.claim-end.new.self i.claims.items claims i.groups.items i.queries.items c.in-Ok-Some.field-0 claim out out_now
    c.in-Ok-Some.ensures.step c.in-Ok-Some.field-0-is more c.push_line.ensures)
