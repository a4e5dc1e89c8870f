use Rattle.std.proofs.Common.{map}
use Rattle.step_script.specs.Scripts.{script_of}
use Rattle.step_script.specs.Told.{end_of}
use Rattle.step_script.proofs.CompleteLemmas.{completes}
use Rattle.step_script.proofs.running.run_steps.Goals as goal

pub returns-clause-complete : goal.returns-clause-complete
returns-clause-complete g c told agree =
    completes told (script_of c.args.script.now) _ _ _ _ c.play_script.result.status c.play_script.result.store (map (end_of (record { left = g.O.Src.Source.left; faults = g.O.Src.Source.faults })) c.play_script.result.ends)
    (c.play_script.ensures.plays told agree)
