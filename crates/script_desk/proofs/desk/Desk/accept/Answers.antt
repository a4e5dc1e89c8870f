use Rattle.std.proofs.Common.{◌≡◌, ◌∙◌, IfOk, Err, Option, Result, ap, sym, subst}
use Rattle.std.specs.declared.alloc.AllocError.{AllocError}
use Rattle.event_history.specs.Steps as s
use Rattle.history_core.specs.declared.answers.AcceptEnd.{AcceptEnd}
use Rattle.script_desk.specs.declared.desk.Refused.{Refused}
use Rattle.script_desk.specs.Desks.{step_at}
use Rattle.script_desk.specs.Refusals.{IsBack}
use Rattle.script_desk.proofs.PlayLemmas.{accepted_back, full_back}
use Rattle.script_desk.proofs.desk.Desk.accept.Goals as goal
use Rattle.script_desk.proofs.desk.Desk.accept.Goals.{in-Ok+in_ok-push_told-in-Ok+in_ok-push_both-in-Ok, in-Err+in-Full+in_ok-push_both-in-Full, in-Err+in-Memory}

pub returns-clause-back : goal.returns-clause-back
returns-clause-back c =
    let i = c.self.inside in
    let packed = c.args.packed in
    let reply : s.Reply = (step_at c.args.self.now (s.Accept packed)).reply in
    elim c.match-end.branch [
      | in-Ok+in_ok-push_told-in-Ok+in_ok-push_both-in-Ok w ↦
          subst (λ (r : Result (Option Refused) AllocError). IfOk r (λ back. IsBack back packed reply)) (sym w.result-is)
          (accepted_back i.store c.accept-end.new.self i.claims.items i.groups.items i.queries.items packed c.accept-end.result c.args.self.now w.in-Ok.field-0 c.self.view_is c.accept-end.ensures.step w.in-Ok.is)
      | in-Err+in-Full+in_ok-push_both-in-Full w ↦
          subst (λ (r : Result (Option Refused) AllocError). IfOk r (λ back. IsBack back packed reply)) (sym w.result-is)
          (full_back i.store c.accept-end.new.self i.claims.items i.groups.items i.queries.items packed c.accept-end.result c.args.self.now (record { packed = w.in-Err.packed; have = w.in-Full.have; limit = w.in-Full.limit }) c.self.view_is c.accept-end.ensures.step
          (w.in-Err.is ∙ ap (λ (e : AcceptEnd). Err (w.in-Err.packed, e)) w.in-Full.is) w.in-Err.ensures.back)
      | in-Err+in-Memory w ↦ subst (λ (r : Result (Option Refused) AllocError). IfOk r (λ back. IsBack back packed reply)) (sym w.result-is) tt
    ]
