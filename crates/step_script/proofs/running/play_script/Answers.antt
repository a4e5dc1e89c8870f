use Rattle.std.proofs.Common.{ℕ, List, map, Some, refl, ap, subst}
use Rattle.script_lines.specs.Lines.{asked_by}
use Rattle.step_script.specs.Feeds.{Fed, Outward}
use Rattle.step_script.specs.Finishing.{Closes, Sent}
use Rattle.step_script.specs.Playing.{starting}
use Rattle.step_script.specs.Reading.{script_seen}
use Rattle.step_script.specs.Runs.{RunEnds}
use Rattle.step_script.specs.Scripts.{Script, script_of}
use Rattle.step_script.specs.Told.{Outside, PlaysScript, end_of}
use Rattle.step_script.specs.Wholes.{sent_of}
use Rattle.step_script.proofs.RunLemmas.{nothing_played, plays_script}
use Rattle.step_script.proofs.running.play_script.Goals as goal

pub returns-in_default-clause-plays : goal.returns-in_default-clause-plays
returns-in_default-clause-plays g c told agree =
    nothing_played told (script_of c.args.script.now) _ _ c.args.steps.now c.out_of_memory.result.status c.out_of_memory.result.store
    (map (end_of (record { left = g.O.Src.Source.left; faults = g.O.Src.Source.faults })) c.out_of_memory.result.ends) c.out_of_memory.ensures.status refl refl

pub returns-in_default-new-clause-plays : goal.returns-in_default-new-clause-plays
returns-in_default-new-clause-plays g c told agree =
    let end = c.out_of_memory-in_default-new in
    nothing_played told (script_of c.args.script.now) _ _ c.args.steps.now end.result.status end.result.store
    (map (end_of (record { left = g.O.Src.Source.left; faults = g.O.Src.Source.faults })) end.result.ends) end.ensures.status refl refl

pub returns-clause-plays : goal.returns-clause-plays
returns-clause-plays g c told agree =
    let out : Outward g.row.O-Src.Denot = record { left = g.O.Src.Source.left; faults = g.O.Src.Source.faults } in
    let s = c.in-Ok.script in
    let script : Script = script_seen s.settings s.lines.items s.bad in
    let played = c.play_all-stop in
    let parts = c.into_parts-store in
    let close = c.close-status in
    let before : Outside = record { opens = g.O.Opener.faults c.args.opener.now; written = g.K.Sink.written c.args.sink.now; writes = g.K.Sink.faults c.args.sink.now } in
    let mid : Sent = record { written = g.K.Sink.written played.new.sink; writes = g.K.Sink.faults played.new.sink } in
    let now : Outside = record { opens = g.O.Opener.faults played.new.opener; written = g.K.Sink.written close.new.sink; writes = g.K.Sink.faults close.new.sink } in
    subst (λ (x : Script). PlaysScript told x before now c.args.steps.now played.new.steps close.result.0 (Some parts.result.0) (map (end_of out) close.result.1)) c.in-Ok.ensures.script
    (plays_script played.result out told script played.new.self before mid now c.args.steps.now played.new.steps close.result.0 (Some parts.result.0) close.result.1
    (subst (λ ls. RunEnds out played.result told (map asked_by ls) (starting s.settings) played.new.self before.written mid.written c.args.steps.now played.new.steps) c.deref.ensures.value
    (played.ensures.runs told (starting s.settings) agree (c.in-Ok-new.ensures told)))
    played.ensures.opens played.ensures.writes (ap Some parts.ensures.store)
    (subst (λ (fs : List (Fed g.row.O-Src.Denot)). Closes out fs played.result close.result.0 s.bad close.result.1 played.new.self.text mid (sent_of now)) parts.ensures.feeds
    (subst (λ (t : List ℕ). Closes out parts.result.1.items played.result close.result.0 s.bad close.result.1 t mid (sent_of now)) parts.ensures.text close.ensures)))
