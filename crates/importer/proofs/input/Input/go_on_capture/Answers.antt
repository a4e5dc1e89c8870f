use Rattle.std.proofs.Common.{subst}
use Rattle.zeek_log.specs.declared.step.Step.{Step}
use Rattle.zeek_log.specs.Reader.{StepFits}
use Rattle.zeek_log.specs.Steps.{step_of}
use Rattle.zeek_log.specs.Table.{Line}
use Rattle.importer.specs.Coming.{heading_at}
use Rattle.importer.proofs.GoingLemmas.{has_fit}
use Rattle.importer.proofs.input.Input.go_on_capture.Goals as goal

pub returns-clause-has : goal.returns-clause-has
returns-clause-has g c =
    let old = heading_at c.args.self.now.at in
    let new = heading_at c.read_capture.new.self.at in
    rw c.stand_at.ensures (has_fit old new (Line c.in-Line.row) (subst (λ (s : Step). StepFits old new (step_of s)) c.in-Line.is c.in_ok-read_capture.ensures.fits))
