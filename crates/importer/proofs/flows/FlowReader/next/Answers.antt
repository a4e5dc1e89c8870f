use Rattle.std.proofs.Common.{Err, Some, ap, sym, ◌∙◌}
use Rattle.std.proofs.lemmas.Result.{err_from_is_err_and}
use Rattle.importer.proofs.FlowLemmas.{carried_is, end_answers, end_given, given_fits, head_given, memory_given, row_given}
use Rattle.importer.proofs.flows.FlowReader.next.Goals as goal

pub returns-then-not-self-clause-goes : goal.returns-then-not-self-clause-goes
returns-then-not-self-clause-goes c = λ left.
    let i = c.self.inside in
    head_given c.args.self.now c.head.new.self i.told i.rows i.at i.end i.row _ _ left c.self.view_is c.if-not-self.true c.in_ok-head.ensures.told c.in_ok-head.ensures.head

pub returns-in_default-clause-goes : goal.returns-in_default-clause-goes
returns-in_default-clause-goes c = λ left.
    let i = c.self.inside in
    end_given c.args.self.now i.told i.rows i.at i.end i.row c.end_answer.result left c.self.view_is c.if-not-self.false c.in_default.ensures.found c.end_answer.ensures

pub returns-in_err-row-clause-goes : goal.returns-in_err-row-clause-goes
returns-in_err-row-clause-goes c = λ left.
    let h = err_from_is_err_and c.from_residual-in_err-row.result c.from_residual-in_err-row.ensures.1 in
    memory_given c.args.self.now.at _ c.from_residual-in_err-row.result left (h.1 ∙ ap Err h.2)

pub returns-clause-goes : goal.returns-clause-goes
returns-clause-goes c = λ left.
    let i = c.self.inside in
    row_given c.args.self.now i.told i.rows i.at i.end i.row c.as_slice.result.now c.in_ok-row.row left c.self.view_is c.if-not-self.false (c.in-Some.ensures.found ∙ ap Some (sym c.as_slice.ensures))
    (carried_is i.rows i.at c.as_slice.result.now c.in_ok-row.row c.self.invariant.2 (c.in-Some.ensures.found ∙ ap Some (sym c.as_slice.ensures)) c.in_ok-row.ensures.carried)

pub returns-clause-fits : goal.returns-clause-fits
returns-clause-fits c =
    let i = c.self.inside in
    given_fits c.args.self.now i.told i.rows i.at i.end i.row c.as_slice.result.now c.in_ok-row.row c.self.view_is c.if-not-self.false c.self.invariant.2 (c.in-Some.ensures.found ∙ ap Some (sym c.as_slice.ensures)) c.in_ok-row.ensures.carried

pub returns-in_default-clause-answers : goal.returns-in_default-clause-answers
returns-in_default-clause-answers c =
    let i = c.self.inside in
    end_answers c.args.self.now i.told i.rows i.at i.end i.row c.end_answer.result c.self.view_is c.end_answer.ensures
