use Rattle.std.proofs.Common.{map}
use Rattle.step_script.specs.Feeds.{Outward}
use Rattle.step_script.specs.Told.{end_of}
use Rattle.vast.proofs.StepsLemmas.{plays_here}
use Rattle.vast.proofs.steps.play.Goals as goal

pub returns-clause-plays : goal.returns-clause-plays
returns-clause-plays g c told agree =
    let end = c.steps_source.result in
    plays_here g.O.Src.Source.left g.O.Src.Source.faults told (g.O.Src.Source.left c.args.source) (g.O.Src.Source.faults c.args.source) _ _ _ _ end.status end.store
    (map (end_of (record { left = g.O.Src.Source.left; faults = g.O.Src.Source.faults })) end.ends) end.script (c.steps_source.ensures.plays told agree)
