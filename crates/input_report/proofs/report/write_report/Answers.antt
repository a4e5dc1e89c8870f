use Rattle.std.proofs.Common.{◌++◌, ◌∷◌, [], refl, Option, subst, sym, ap, ◌∙◌, arith}
use Rattle.vast_value.specs.Headings.{Heading}
use Rattle.source_block.proofs.TakeLemmas.{prepend_nothing}
use Rattle.importer.specs.declared.ends.How.{How}
use Rattle.importer.specs.Coming.{heading_at, step_at, steps_left}
use Rattle.importer.specs.Ending.{ahead, only_end}
use Rattle.input_report.specs.Causes.{GoesWith}
use Rattle.input_report.specs.Reports.{heading_after}
use Rattle.input_report.proofs.GoingLemmas.{EndsSo, IsCut, Parts, counts_on, cut_status, cut_tells, end_tells, goes_with, going_left, going_moves, going_next, going_part, going_sends, going_start, heading_goes, never_lost, never_read, nothing_tells, part_held, sink_on, some_cut, still_quiet, told_cut}
use Rattle.input_report.proofs.report.write_report.Goals as goal

pub returns-in_default-clause-source : goal.returns-in_default-clause-source
returns-in_default-clause-source g c =
    nothing_tells c.cut_off.result.status c.cut_off.result.how (g.W.Report.behind c.args.report.now) (g.S.Source.left c.args.input.now.source) (g.S.Source.faults c.args.input.now.source)
    (g.K.Sink.written c.args.sink.now) (subst IsCut (sym c.cut_off.ensures.status) tt) c.cut_off.ensures.how

pub returns-in-Err-clause-source : goal.returns-in-Err-clause-source
returns-in-Err-clause-source g c =
    let whole = g.W.Report.behind c.args.report.now in
    let behind = g.W.Report.behind c.loop-moved.report in
    let left = g.S.Source.left c.args.input.now.source in
    let left_now = g.S.Source.left c.go_on.new.input.source in
    let before = g.K.Sink.written c.args.sink.now in
    let mid = g.K.Sink.written c.go_on.new.sink in
    let now = g.K.Sink.written c.write_step.new.sink in
    let new = c.go_on.new.input.at in
    let step = step_at new c.go_on.new.input.row c.in-Step.moved in
    let held = c.go_on.new.buffer.text in
    let cut = subst IsCut (sym (c.cut_off-in-Err.ensures.status ∙ c.status.ensures.value)) (cut_status c.in-Err.end) in
    let sent = going_sends whole behind c.loop-moved.buffer.text held c.loop-moved.input.at left (g.S.Source.left c.loop-moved.input.source) before
    (g.K.Sink.written c.loop-moved.sink) mid c.loop-moved.invariant.going c.in-Step.ensures.sends in
    let so = going_next whole behind held c.loop-moved.input.at new left (g.S.Source.left c.loop-moved.input.source) left_now before mid step sent c.in-Step.ensures.goes.next in
    let f = g.S.Source.faults c.args.input.now.source in
    let g_now = g.S.Source.faults c.go_on.new.input.source in
    let parts : Parts whole left left_now f g_now before now =
    going_part whole (λ rest. behind (ahead (step ∷ []) rest)) held new left left_now left_now before mid now [] f g_now g_now so
    c.in-Step.ensures.goes.there (sym (prepend_nothing left_now))
    (counts_on c.loop-moved.input.at new f (g.S.Source.faults c.loop-moved.input.source) g_now c.loop-moved.invariant.there c.loop-moved.invariant.source_faults c.in-Step.ensures.goes.counts)
    (still_quiet new left_now left_now g_now g_now refl refl) c.in-Err.ensures.part in
    cut_tells c.cut_off-in-Err.result.status c.cut_off-in-Err.result.how whole left left_now (g.S.Source.faults c.args.input.now.source) (g.S.Source.faults c.go_on.new.input.source) before now
    cut c.cut_off-in-Err.ensures.how
    (told_cut c.cut_off-in-Err.result.status whole left left_now (g.S.Source.faults c.args.input.now.source) (g.S.Source.faults c.go_on.new.input.source) before now
    cut parts)
    (some_cut c.cut_off-in-Err.result.status whole (λ rest. behind (ahead (step ∷ []) rest)) held new left left_now before mid now cut so c.in-Err.ensures.part)
    (c.go_on.ensures.tells ∙ c.loop-moved.invariant.tells)

-- the sink failed before the step
pub returns-in-Refused-clause-source : goal.returns-in-Refused-clause-source
returns-in-Refused-clause-source g c =
    let whole = g.W.Report.behind c.args.report.now in
    let behind = g.W.Report.behind c.loop-moved.report in
    let left = g.S.Source.left c.args.input.now.source in
    let left_now = g.S.Source.left c.go_on.new.input.source in
    let before = g.K.Sink.written c.args.sink.now in
    let mid = g.K.Sink.written c.loop-moved.sink in
    let now = g.K.Sink.written c.go_on.new.sink in
    let held = c.loop-moved.buffer.text in
    let at = c.loop-moved.input.at in
    let cut = subst IsCut (sym c.cut_off-in-Refused.ensures.status) tt in
    let part = part_held behind held mid now c.in-Refused.ensures.sends in
    let so = going_left whole behind held at left (g.S.Source.left c.loop-moved.input.source) left_now before mid c.loop-moved.invariant.going c.in-Refused.ensures.goes.left in
    cut_tells c.cut_off-in-Refused.result.status c.cut_off-in-Refused.result.how whole left left_now (g.S.Source.faults c.args.input.now.source) (g.S.Source.faults c.go_on.new.input.source) before now
    cut c.cut_off-in-Refused.ensures.how
    (told_cut c.cut_off-in-Refused.result.status whole left left_now (g.S.Source.faults c.args.input.now.source) (g.S.Source.faults c.go_on.new.input.source) before now
    cut
    (going_part whole behind held at left left_now left_now before mid now [] (g.S.Source.faults c.args.input.now.source) (g.S.Source.faults c.loop-moved.input.source) (g.S.Source.faults c.go_on.new.input.source)
    so c.loop-moved.invariant.there (sym (prepend_nothing left_now)) c.loop-moved.invariant.source_faults
    (still_quiet at left_now left_now (g.S.Source.faults c.loop-moved.input.source) (g.S.Source.faults c.go_on.new.input.source) refl c.in-Refused.ensures.goes.count) part))
    (some_cut c.cut_off-in-Refused.result.status whole behind held at left left_now before mid now cut so part)
    (c.go_on.ensures.tells ∙ c.loop-moved.invariant.tells)

-- the input ended
pub returns-in-Ended-clause-source : goal.returns-in-Ended-clause-source
returns-in-Ended-clause-source g c =
    let whole = g.W.Report.behind c.args.report.now in
    let behind = g.W.Report.behind c.loop-moved.report in
    let left = g.S.Source.left c.args.input.now.source in
    let before = g.K.Sink.written c.args.sink.now in
    let mid = g.K.Sink.written c.go_on.new.sink in
    let at = c.loop-moved.input.at in
    let sent = going_sends whole behind c.loop-moved.buffer.text c.go_on.new.buffer.text at left (g.S.Source.left c.loop-moved.input.source) before
    (g.K.Sink.written c.loop-moved.sink) mid c.loop-moved.invariant.going c.in-Ended.ensures.sends in
    let ends : EndsSo at (g.S.Source.left c.loop-moved.input.source) (g.S.Source.left c.go_on.new.input.source) c.in-Ended.end
    (g.S.Source.faults c.args.input.now.source) (g.S.Source.faults c.loop-moved.input.source) (g.S.Source.faults c.go_on.new.input.source) = record {
      last = c.in-Ended.ensures.goes.next;
      there = c.loop-moved.invariant.there;
      counts = c.loop-moved.invariant.source_faults;
      counts_end = c.in-Ended.ensures.goes.counts;
      quiet = c.in-Ended.ensures.goes.quiet;
    } in
    end_tells c.ended-how.result whole behind c.go_on.new.buffer.text at left (g.S.Source.left c.loop-moved.input.source) (g.S.Source.left c.go_on.new.input.source)
    before mid (g.K.Sink.written c.write_end-status.new.sink) c.in-Ended.end c.write_end-status.result
    (g.S.Source.faults c.args.input.now.source) (g.S.Source.faults c.loop-moved.input.source) (g.S.Source.faults c.go_on.new.input.source)
    sent ends c.write_end-status.ensures.ended c.write_end-status.ensures.memory c.write_end-status.ensures.read c.ended-how.ensures
    (c.go_on.ensures.tells ∙ c.loop-moved.invariant.tells)

pub returns-in-Ended-clause-how : goal.returns-in-Ended-clause-how
returns-in-Ended-clause-how g c =
    subst (λ (h : How). GoesWith c.write_end-status.result h) (sym c.ended-how.ensures)
    (goes_with c.write_end-status.result c.in-Ended.end (c.go_on.new.buffer.text ++ g.W.Report.behind c.loop-moved.report (only_end c.in-Ended.end)) (g.K.Sink.written c.go_on.new.sink)
    (g.K.Sink.written c.write_end-status.new.sink) c.write_end-status.ensures.ended c.write_end-status.ensures.memory)

pub returns-in-Ended-clause-stands : goal.returns-in-Ended-clause-stands
returns-in-Ended-clause-stands g c =
    sink_on c.write_end-status.result (g.K.Sink.faults c.args.sink.now) (g.K.Sink.faults c.go_on.new.sink) (g.K.Sink.faults c.write_end-status.new.sink) c.write_end-status.ensures.stands
    (c.in-Ended.ensures.cause ∙ c.loop-moved.invariant.sink_kept)

pub loop-moved-init : goal.loop-moved-init
loop-moved-init g c = record {
  going = going_start (g.W.Report.behind c.args.report.now) c.in-Ok.buffer.text c.args.input.now.at (g.S.Source.left c.args.input.now.source) (g.K.Sink.written c.args.sink.now)
      c.requires.fresh c.in-Ok.ensures;
  heading = c.requires.heading ∙ sym (ap heading_at c.requires.fresh);
  rows = omega (arith, c.requires.rows, ap steps_left c.requires.fresh);
  there = never_lost c.args.input.now.at c.requires.fresh;
  tells = refl;
  source_faults = never_read c.args.input.now.at (g.S.Source.faults c.args.input.now.source) c.requires.fresh;
  sink_kept = refl;
}

pub loop-moved-preserved : goal.loop-moved-preserved
loop-moved-preserved g c =
    let whole = g.W.Report.behind c.args.report.now in
    let behind = g.W.Report.behind c.loop-moved.report in
    let left = g.S.Source.left c.args.input.now.source in
    let left_now = g.S.Source.left c.go_on.new.input.source in
    let before = g.K.Sink.written c.args.sink.now in
    let mid = g.K.Sink.written c.go_on.new.sink in
    let new = c.go_on.new.input.at in
    let step = step_at new c.go_on.new.input.row c.in-Step.moved in
    let has = c.in-Step.ensures.goes.has in
    let sent = going_sends whole behind c.loop-moved.buffer.text c.go_on.new.buffer.text c.loop-moved.input.at left (g.S.Source.left c.loop-moved.input.source) before
    (g.K.Sink.written c.loop-moved.sink) mid c.loop-moved.invariant.going c.in-Step.ensures.sends in
    record {
      going = going_moves whole behind (g.W.Report.behind c.write_step.new.report) c.go_on.new.buffer.text c.write_step.new.buffer.text new step left left_now
          before mid (g.K.Sink.written c.write_step.new.sink)
          (going_next whole behind c.go_on.new.buffer.text c.loop-moved.input.at new left (g.S.Source.left c.loop-moved.input.source) left_now before mid step sent c.in-Step.ensures.goes.next)
          c.in_default-write_step.ensures.moves;
      heading = c.in_default-write_step.ensures.heading ∙ ap (λ (h : Option Heading). heading_after h step) c.loop-moved.invariant.heading
          ∙ heading_goes (heading_at c.loop-moved.input.at) (heading_at new) step has;
      rows = omega (arith, c.in_default-write_step.ensures.rows, c.in-Step.ensures.goes.less, c.loop-moved.invariant.rows);
      there = c.in-Step.ensures.goes.there;
      tells = c.go_on.ensures.tells ∙ c.loop-moved.invariant.tells;
      source_faults = counts_on c.loop-moved.input.at new (g.S.Source.faults c.args.input.now.source) (g.S.Source.faults c.loop-moved.input.source) (g.S.Source.faults c.go_on.new.input.source)
          c.loop-moved.invariant.there c.loop-moved.invariant.source_faults c.in-Step.ensures.goes.counts;
      sink_kept = c.in_default-write_step.ensures.kept ∙ (c.in-Step.ensures.cause ∙ c.loop-moved.invariant.sink_kept);
    }
