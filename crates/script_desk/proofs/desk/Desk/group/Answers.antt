use Rattle.std.proofs.Common.{◌≡◌, ◌∷◌, ◌++◌, [], List, OnOk, ap, ◌∙◌, subst}
use Rattle.history_core.specs.declared.answers.Group.{Group}
use Rattle.script_desk.specs.Desks.{Desk, Plays, play_group}
use Rattle.script_desk.specs.Kept.{desk_of}
use Rattle.script_desk.proofs.PlayLemmas.{none_grouped, one_grouped}
use Rattle.script_desk.proofs.desk.Desk.group.Goals as goal

pub returns-in-Ok-None : goal.returns-in-Ok-None
returns-in-Ok-None c =
    let i = c.self.inside in
    let out = c.args.out.now in
    let out_now = c.push_words.new.out in
    let now = desk_of i.store i.claims.items c.reserve.new.self.items i.queries.items in
    subst (λ (d : Desk). OnOk c.push_words.result (Plays (play_group d) now out out_now)) c.self.view_is
    (none_grouped c.push_words.result i.store i.claims.items i.groups.items c.reserve.new.self.items i.queries.items c.in-Ok-None.field-0 out out_now
    c.in-Ok-None.ensures.step c.in-Ok-None.field-0-is c.reserve.ensures.items c.push_words.ensures)

pub returns-in-Ok-Some : goal.returns-in-Ok-Some
returns-in-Ok-Some c =
    let i = c.self.inside in
    let out = c.args.out.now in
    let out_now = c.push_line.new.out in
    let group = c.in-Ok-Some.group in
    let groups = c.push_reserved.new.self.items in
    let more : groups ≡ i.groups.items ++ group ∷ [] = c.push_reserved.ensures.items ∙ ap (λ (xs : List Group). xs ++ group ∷ []) c.reserve.ensures.items in
    let now = desk_of i.store i.claims.items groups i.queries.items in
    subst (λ (d : Desk). OnOk c.push_line.result (Plays (play_group d) now out out_now)) c.self.view_is
    (one_grouped c.push_line.result i.store i.claims.items i.groups.items groups i.queries.items c.in-Ok-Some.field-0 group out out_now
    c.in-Ok-Some.ensures.step c.in-Ok-Some.field-0-is more c.push_line.ensures)
