use Rattle.std.proofs.Common.{suc, List, map, take, drop, sym, ◌∙◌, subst}
use Rattle.std.proofs.lemmas.Result.{err_from_is_err_and}
use Rattle.script_lines.specs.Lines.{Asked, asked_by}
use Rattle.step_script.specs.Feeds.{Outward}
use Rattle.step_script.specs.Runs.{Goes}
use Rattle.step_script.proofs.PlayerLemmas.{cuts, goes_on, if_sent, lines_next, lines_split, stops, unsent_writes}
use Rattle.step_script.proofs.player.Player.play_all.Goals as goal

pub returns-in_err-play-clause-runs : goal.returns-in_err-play-clause-runs
returns-in_err-play-clause-runs g c told p agree stands =
    let h = err_from_is_err_and c.from_residual.result c.from_residual.ensures.1 in
    let goes = c.loop-line.invariant.goes told p agree stands in
    let i = c.loop-line.line-index in
    let lines = c.args.lines.now in
    rw (h.1, h.2)
    (stops (Unit {0}) (Unit {0}) (record { left = g.O.Src.Source.left; faults = g.O.Src.Source.faults }) told c.in_err-play.field-0.0 (map asked_by (take i lines)) _ (map asked_by (drop (suc i) lines)) (map asked_by lines) p c.loop-line.self c.play.new.self
    (g.K.Sink.written c.args.sink.now) (g.K.Sink.written c.loop-line.sink) c.args.steps.now c.loop-line.steps c.play.new.steps (lines_split lines i _ c.loop-line-test.true) goes
    (c.in_err-play.ensures.plays told goes.sent goes.at (λ any. c.loop-line.invariant.same any ∙ agree any) goes.stands) c.play.ensures.steps)

pub returns-in_err-play-clause-writes : goal.returns-in_err-play-clause-writes
returns-in_err-play-clause-writes g c =
    let h = err_from_is_err_and c.from_residual.result c.from_residual.ensures.1 in
    rw (h.1, h.2) (unsent_writes (Unit {0}) (Unit {0}) c.in_err-play.field-0.0 (g.K.Sink.faults c.args.sink.now) (g.K.Sink.faults c.loop-line.sink) c.in_err-play.ensures.unsent c.loop-line.invariant.writes)

pub returns-then-is_err-clause-runs : goal.returns-then-is_err-clause-runs
returns-then-is_err-clause-runs g c told p agree stands =
    let goes = c.loop-line.invariant.goes told p agree stands in
    let i = c.loop-line.line-index in
    let lines = c.args.lines.now in
    cuts (Unit {0}) (record { left = g.O.Src.Source.left; faults = g.O.Src.Source.faults }) told (map asked_by (take i lines)) _ (map asked_by (drop (suc i) lines)) (map asked_by lines) p c.loop-line.self c.play.new.self c.send_full.new.self
    (g.K.Sink.written c.args.sink.now) (g.K.Sink.written c.loop-line.sink) (g.K.Sink.written c.send_full.new.sink) c.args.steps.now c.loop-line.steps c.play.new.steps (lines_split lines i _ c.loop-line-test.true) goes
    (c.in_ok-play.ensures.plays told goes.sent goes.at (λ any. c.loop-line.invariant.same any ∙ agree any) goes.stands) c.send_full.ensures.keeps c.send_full.ensures.part c.play.ensures.steps

pub loop-line-preserved : goal.loop-line-preserved
loop-line-preserved g c =
    let i = c.loop-line.line-index in
    let lines = c.args.lines.now in
    let out : Outward g.row.O-Src.Denot = record { left = g.O.Src.Source.left; faults = g.O.Src.Source.faults } in
    let sent = sym c.is_err.ensures.value ∙ c.if-is_err.false in
    record {
      goes = λ told p agree stands.
          let goes = c.loop-line.invariant.goes told p agree stands in
          subst (λ (played : List Asked). Goes out told played p c.send_full.new.self (g.K.Sink.written c.args.sink.now) (g.K.Sink.written c.send_full.new.sink) c.args.steps.now c.play.new.steps) (sym (lines_next lines i _ c.loop-line-test.true))
          (goes_on out told (map asked_by (take i lines)) _ p c.loop-line.self c.play.new.self c.send_full.new.self (g.K.Sink.written c.args.sink.now) (g.K.Sink.written c.loop-line.sink) (g.K.Sink.written c.send_full.new.sink)
          c.args.steps.now c.loop-line.steps c.play.new.steps goes (c.in_ok-play.ensures.plays told goes.sent goes.at (λ any. c.loop-line.invariant.same any ∙ agree any) goes.stands)
          (if_sent c.send_full.result c.send_full.ensures.sends sent) c.play.ensures.steps);
      opens = c.in_ok-play.ensures.opens ∙ c.loop-line.invariant.opens;
      writes = if_sent c.send_full.result c.send_full.ensures.cause.kept sent ∙ c.loop-line.invariant.writes;
      same = λ any. c.play.ensures.same any ∙ c.loop-line.invariant.same any;
    }
