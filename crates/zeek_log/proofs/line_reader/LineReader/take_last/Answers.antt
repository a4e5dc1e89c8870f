use Rattle.std.proofs.Common.{Ok, ap, refl, sym, ◌∙◌}
use Rattle.std.proofs.lemmas.Result.{err_from_is_err_and}
use Rattle.zeek_log.specs.Answers.{told_of}
use Rattle.zeek_log.specs.Going.{reading}
use Rattle.zeek_log.proofs.GoingLemmas.{last_step_at, last_none_at, last_end_at}
use Rattle.zeek_log.proofs.line_reader.LineReader.take_last.Goals as goal

pub returns-in-Some-clause-next : goal.returns-in-Some-clause-next
returns-in-Some-clause-next c =
    last_step_at c.args.self.now c.self.inside.phase (told_of c.self.inside.known) (told_of c.take_line-outcome.new.known) c.self.inside.line c.self.inside.line
    c.self.inside.block c.as_slice.result.now c.take_line-outcome.result c.in-Some.step
    (sym c.self.view_is) c.requires.reads c.requires.found c.as_slice.ensures
    c.take_line-outcome.ensures.does c.take_line-outcome.ensures.fits (ap Ok (sym c.in-Some.is) ∙ c.in_ok-step.ensures)

pub returns-in-None-clause-next : goal.returns-in-None-clause-next
returns-in-None-clause-next c =
    last_none_at c.args.self.now c.self.inside.phase (told_of c.self.inside.known) (told_of c.take_line-outcome.new.known) c.self.inside.line
    c.self.inside.block (reading c.self.inside.phase (told_of c.take_line-outcome.new.known) c.self.inside.line c.self.inside.block)
    c.as_slice.result.now c.take_line-outcome.result
    (sym c.self.view_is) c.requires.reads c.requires.found c.as_slice.ensures
    c.take_line-outcome.ensures.does (ap Ok (sym c.in-None.is) ∙ c.in_ok-step.ensures) refl

pub returns-in_err-step-clause-next : goal.returns-in_err-step-clause-next
returns-in_err-step-clause-next c =
    let p = err_from_is_err_and c.from_residual.result c.from_residual.ensures.1 in
    rw (p.1, p.2) (last_end_at c.args.self.now c.self.inside.phase (told_of c.self.inside.known) (told_of c.take_line-outcome.new.known) c.self.inside.line
    c.self.inside.block (reading c.self.inside.phase (told_of c.take_line-outcome.new.known) c.self.inside.line c.self.inside.block)
    c.as_slice.result.now c.take_line-outcome.result c.in_err-step.field-0.0
    (sym c.self.view_is) c.requires.reads c.requires.found c.as_slice.ensures
    c.take_line-outcome.ensures.does c.in_err-step.ensures refl)
