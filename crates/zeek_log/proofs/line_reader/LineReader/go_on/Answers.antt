use Rattle.std.proofs.Common.{Option, Ok, Err, Some, None, arith, ap, subst, refl, ◌∙◌}
use Rattle.zeek_log.specs.declared.line_reader.Phase.TheVariants.{Ended}
use Rattle.zeek_log.specs.declared.step.Step.{Step}
use Rattle.zeek_log.specs.Answers.{told_of}
use Rattle.zeek_log.specs.Going.{LineAnswer, reading}
use Rattle.zeek_log.specs.Reader.{Reading}
use Rattle.zeek_log.proofs.GoingLemmas.{then_answer, closes}
use Rattle.zeek_log.proofs.line_reader.LineReader.go_on.Goals as goal

pub returns-in-Ok-Some-clause-next : goal.returns-in-Ok-Some-clause-next
returns-in-Ok-Some-clause-next g c =
    let now = g.S.Source.left c.take_next.new.source in
    let step : LineAnswer c.loop-step.self c.take_next.new.self (g.S.Source.left c.loop-step.source) now (Ok (Some c.in-Ok-Some.step)) =
    subst (λ (o : Option Step). LineAnswer c.loop-step.self c.take_next.new.self (g.S.Source.left c.loop-step.source) now (Ok o)) c.in-Ok-Some.field-0-is c.in-Ok-Some.ensures.next in
    let both = then_answer c.args.self.now c.loop-step.self c.take_next.new.self _ _ now (Ok (Some c.in-Ok-Some.step)) c.loop-step.invariant.goes step in
    both.steps

pub loop-step-preserved : goal.loop-step-preserved
loop-step-preserved g c =
    let now = g.S.Source.left c.take_next.new.source in
    let none : LineAnswer c.loop-step.self c.take_next.new.self (g.S.Source.left c.loop-step.source) now (Ok None) =
    subst (λ (o : Option Step). LineAnswer c.loop-step.self c.take_next.new.self (g.S.Source.left c.loop-step.source) now (Ok o)) c.in-Ok-None.field-0-is c.in-Ok-None.ensures.next in
    record {
      goes = then_answer c.args.self.now c.loop-step.self c.take_next.new.self _ _ now (Ok None) c.loop-step.invariant.goes none;
      less = omega (arith, c.in-Ok-None.ensures.less, c.loop-step.invariant.less);
      kept = c.in-Ok-None.ensures.counts ∙ c.loop-step.invariant.kept;
    }

pub returns-in-Err-clause-next : goal.returns-in-Err-clause-next
returns-in-Err-clause-next g c =
    closes c.args.self.now c.take_next.new.self _ _ c.in-Err.end (reading (Ended c.in-Err.end) (told_of c.self.inside.known) c.self.inside.line c.self.inside.block)
    (then_answer c.args.self.now c.loop-step.self c.take_next.new.self _ _ _ (Err c.in-Err.end) c.loop-step.invariant.goes c.in-Err.ensures.next)
    (ap (λ (r : Reading). r.taken) c.self.view_is) refl
