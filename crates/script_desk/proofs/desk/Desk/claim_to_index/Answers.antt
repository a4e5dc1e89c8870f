use Rattle.std.proofs.Common.{◌≡◌, List, ap, ◌∙◌, subst}
use Rattle.history_core.specs.declared.answers.Claim.{Claim}
use Rattle.script_desk.specs.Desks.{Desk, without_claim}
use Rattle.script_desk.specs.Kept.{IsFirstOn, NoneOn}
use Rattle.script_desk.proofs.PlayLemmas.{claims_left, if_ok, none_left}
use Rattle.script_desk.proofs.desk.Desk.claim_to_index.Goals as goal

pub returns-in-Some-clause-desk : goal.returns-in-Some-clause-desk
returns-in-Some-clause-desk c =
    let i = c.self.inside in
    let b = c.args.batch in
    let first : IsFirstOn i.claims.items b c.in-Some.at = subst (λ (xs : List Claim). IsFirstOn xs b c.in-Some.at) c.as_slice.ensures.value c.in-Some.ensures in
    claims_left i.store i.claims.items c.remove.new.self.items i.groups.items i.queries.items b c.in-Some.at first c.remove.ensures.items
    ∙ ap (λ (d : Desk). without_claim b d) c.self.view_is

pub returns-in-None-clause-desk : goal.returns-in-None-clause-desk
returns-in-None-clause-desk c =
    let i = c.self.inside in
    let b = c.args.batch in
    let none : NoneOn i.claims.items b = subst (λ (xs : List Claim). NoneOn xs b) c.as_slice.ensures.value c.in-None.ensures in
    let same = none_left i.store i.claims.items i.groups.items i.queries.items b none in
    if_ok _ _ (λ claim. subst (λ (d : Desk). d ≡ without_claim b d) c.self.view_is same)
