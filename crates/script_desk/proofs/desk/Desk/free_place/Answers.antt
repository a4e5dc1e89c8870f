use Rattle.std.proofs.Common.{◌≡◌, ◌+◌, ◌-◌, ◌<◌, length, None, Some, ap, ◌∙◌, sym, subst, arith}
use Rattle.script_desk.specs.declared.desk.Hold.{Hold}
use Rattle.script_desk.specs.Desks.{Desk, held_of_query}
use Rattle.script_desk.specs.Kept.{take_in}
use Rattle.script_desk.proofs.QueryLemmas.{free_there, held_at, no_session}
use Rattle.script_desk.proofs.desk.Desk.free_place.Goals as goal

pub returns-in-Session : goal.returns-in-Session
returns-in-Session c =
    let i = c.self.inside in
    let q = c.args.query in
    let is : q - 1 + 1 ≡ q = omega arith in (
      is,
      subst (λ (d : Desk). held_of_query d.queries q ≡ Some None) c.self.view_is
          (held_at i.queries.items q (q - 1) c.index.result.now is (omega arith) c.index.ensures ∙ ap (λ (x : Hold). Some (take_in x)) c.in-Session.is),
    )

pub returns-in_default : goal.returns-in_default
returns-in_default c = λ e.
    let i = c.self.inside in
    let q = c.args.query in
    let h = c.index.result.now in
    let is : q - 1 + 1 ≡ q = omega arith in
    let there : q - 1 < length i.queries.items = omega arith in
    no_session h (q - 1) (free_there i.queries.items q (q - 1) h is (subst (λ (d : Desk). held_of_query d.queries q ≡ Some None) (sym c.self.view_is) e) c.index.ensures)
    (c.self.invariant.each (q - 1) h there c.index.ensures) c.in_default.not-Session
