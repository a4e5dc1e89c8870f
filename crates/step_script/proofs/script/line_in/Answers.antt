use Rattle.step_script.proofs.ScriptLemmas.{none_asks, utf8_asks}
use Rattle.step_script.proofs.script.line_in.Goals as goal

pub returns-in-Ok-clause-asked : goal.returns-in-Ok-clause-asked
returns-in-Ok-clause-asked c = utf8_asks c.args.text.now c.in-Ok.text.now _ c.in-Ok.ensures.cases.0 c.in-Ok.ensures.cases.1 c.read_line.ensures.asked

pub returns-in-Err-clause-asked : goal.returns-in-Err-clause-asked
returns-in-Err-clause-asked c = none_asks c.args.text.now c.in-Err.ensures.cases.0
