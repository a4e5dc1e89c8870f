use Rattle.std.proofs.Common.{◌<◌, length, OnOk, ap, ◌∙◌, sym, subst, arith}
use Rattle.std.proofs.lemmas.Bool.Decides.{nat_tests}
use Rattle.script_desk.specs.Desks.{Desk, Played, Plays, play_seal}
use Rattle.script_desk.proofs.PlayLemmas.{first_group}
use Rattle.script_desk.proofs.desk.Desk.seal.Goals as goal

pub returns : goal.returns
returns c =
    let i = c.self.inside in
    let g = c.remove-group.result in
    let some : 0 < length i.groups.items = grind (arith, nat_tests) in
    let first = ap (λ (d : Desk). play_seal d) (sym c.self.view_is)
    ∙ first_group i.store i.claims.items i.groups.items c.remove-group.new.self.items i.queries.items g some c.remove-group.ensures.value c.remove-group.ensures.items in
    subst (λ (p : Played). OnOk c.seal_one.result (Plays p c.seal_one.new.self c.args.out.now c.seal_one.new.out)) (sym first) c.seal_one.ensures
