use Rattle.std.proofs.Common.{map, ◌∙◌}
use Rattle.step_script.specs.Feeds.{Outward}
use Rattle.step_script.specs.Told.{end_of}
use Rattle.vast.specs.Causes.{Outside, outside}
use Rattle.vast.proofs.StepsLemmas.{plays_opened, same_moment, unopened_so}
use Rattle.vast.proofs.steps.steps_file.Goals as goal

pub returns-in-Ok : goal.returns-in-Ok
returns-in-Ok g c =
    let before : Outside = outside (g.O.Opener.bytes_of c.args.opener.now) (g.O.Opener.faults c.args.opener.now) (g.K.Sink.written c.args.sink.now) (g.K.Sink.faults c.args.sink.now) in
    let now : Outside = outside (g.O.Opener.bytes_of c.play.new.opener) (g.O.Opener.faults c.play.new.opener) (g.K.Sink.written c.play.new.sink) (g.K.Sink.faults c.play.new.sink) in
    let opened = c.open_file.new in
    let end = c.play.result in
    plays_opened g.O.Src.Source.left g.O.Src.Source.faults c.args.script.now before now end.status end.store
    (map (end_of (record { left = g.O.Src.Source.left; faults = g.O.Src.Source.faults })) end.ends) (g.O.Src.Source.left c.in-Ok.source) (g.O.Src.Source.faults c.in-Ok.source) _ end.script
    c.in-Ok.ensures.left c.in-Ok.ensures.fresh
    (same_moment before (g.O.Opener.faults opened.opener) (g.K.Sink.written opened.sink) (g.K.Sink.faults opened.sink) c.in-Ok.ensures.opens c.in-Ok.ensures.written c.in-Ok.ensures.writes)
    c.play.ensures.script (c.play.ensures.plays before.bytes_of c.open_file.ensures.same)

pub returns : goal.returns
returns g c =
    let end = c.ended in
    unopened_so g.O.Src.Source.left g.O.Src.Source.faults c.args.script.now _ _ end.result.status c.in-Err.status end.result.store end.result.ends end.result.script end.ensures.status end.ensures.store (end.ensures.ends ∙ c.new-in-Err.ensures) end.ensures.script
    c.in-Err.ensures.unopened
