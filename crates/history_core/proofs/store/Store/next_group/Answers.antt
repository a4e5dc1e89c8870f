use Rattle.std.proofs.Common.{◌≡◌, ◌<◌, ◌≤◌, ◌/◌, length, ap, ◌∙◌, arith, subst, sym}
use Rattle.event_history.specs.Histories.{batch_count, past}
use Rattle.event_history.specs.Legal.{Legal}
use Rattle.history_core.specs.Shown.{Shown}
use Rattle.history_core.proofs.GroupLemmas.{no_group, this_group}
use Rattle.history_core.proofs.store.Store.next_group.Goals as goal

pub returns-then-is_waiting : goal.returns-then-is_waiting
returns-then-is_waiting c =
    let i = c.self.inside in
    let now = c.args.self.now in
    let m = c.self.invariant.main in
    let legal : Legal now.limits (past now.history) = subst (λ (s : Shown). Legal s.limits (past s.history)) c.self.view_is m.legal in
    let size : 0 < now.limits.group = subst (λ (s : Shown). 0 < s.limits.group) c.self.view_is c.self.invariant.groups.size in
    sym (this_group now.limits (past now.history) c.loop-number.number legal size (sym c.is_waiting.ensures ∙ c.if-is_waiting.true) c.loop-number.invariant)

pub returns : goal.returns
returns c =
    let i = c.self.inside in
    let now = c.args.self.now in
    let m = c.self.invariant.main in
    let legal : Legal now.limits (past now.history) = subst (λ (s : Shown). Legal s.limits (past s.history)) c.self.view_is m.legal in
    let size : 0 < now.limits.group = subst (λ (s : Shown). 0 < s.limits.group) c.self.view_is c.self.invariant.groups.size in
    let count : length i.kept.items ≡ batch_count (past now.history) = m.count ∙ ap (λ (s : Shown). batch_count (past s.history)) c.self.view_is in
    let far : c.len.result / now.limits.group ≤ c.loop-number.number =
    subst (λ (s : Shown). c.len.result / s.limits.group ≤ c.loop-number.number) c.self.view_is c.loop-number-test.false in
    sym (no_group now.limits (past now.history) c.len.result c.loop-number.number legal size (omega (arith, c.len.ensures, i.kept.ok.0, count)) far c.loop-number.invariant)
