use Rattle.std.proofs.Common.{◌≡◌, ◌+◌, ◌-◌, ◌<◌, length, None, Option, true, is_some, ap, ◌∙◌, subst, arith}
use Rattle.history_core.specs.Snapshots.{Snapshot}
use Rattle.script_desk.specs.declared.desk.Hold.{Hold}
use Rattle.script_desk.specs.Desks.{Desk, take_of}
use Rattle.script_desk.specs.Kept.{take_in}
use Rattle.script_desk.proofs.PageLemmas.{nothing_taken, take_here}
use Rattle.script_desk.proofs.desk.Desk.taken_place.Goals as goal

pub returns-in-Taken : goal.returns-in-Taken
returns-in-Taken c =
    let i = c.self.inside in
    let q = c.args.query in
    let is : q - 1 + 1 ≡ q = omega arith in
    let there : q - 1 < length i.queries.items = omega arith in (
      is,
      subst (λ (d : Desk). is_some (take_of q d) ≡ true) c.self.view_is
          (ap (λ (o : Option Snapshot). is_some o)
          (take_here i.queries.items q (q - 1) c.index.result.now is there c.index.ensures ∙ ap (λ (x : Hold). take_in x) c.in-Taken.is)),
    )

pub returns-in_default : goal.returns-in_default
returns-in_default c =
    let i = c.self.inside in
    let q = c.args.query in
    let h = c.index.result.now in
    let is : q - 1 + 1 ≡ q = omega arith in
    let there : q - 1 < length i.queries.items = omega arith in
    subst (λ (d : Desk). take_of q d ≡ None) c.self.view_is
    (take_here i.queries.items q (q - 1) h is there c.index.ensures ∙ nothing_taken h c.in_default.not-Taken)
