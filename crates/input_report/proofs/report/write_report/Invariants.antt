use Rattle.std.proofs.Common.{◌≡◌, ◌+◌, ◌^◌, ◌≤◌, is_some}
use Rattle.importer.specs.Coming.{HasFaults, IsLost, fresh, heading_at, steps_left}
use Rattle.input_report.proofs.GoingLemmas.{Going}
use Rattle.input_report.proofs.report.write_report.Given as goal

abbrev pub invariant-loop-moved : goal.invariant-loop-moved
invariant-loop-moved g l = record {
  going : Going (g.W.Report.behind l.initial.report) (g.W.Report.behind l.report) l.buffer.text l.input.at
      (g.S.Source.left l.initial.input.source) (g.S.Source.left l.input.source) (g.K.Sink.written l.initial.sink) (g.K.Sink.written l.sink);
  heading : g.W.Report.heading l.report ≡ heading_at l.input.at;
  rows : g.W.Report.rows l.report + steps_left l.input.at ≤ 2 ^ 36 + 2;
  there : IsLost l.input.at → ⊥;
  tells : is_some (g.S.Source.left l.input.source) ≡ is_some (g.S.Source.left l.initial.input.source);
  source_faults : HasFaults fresh l.input.at (g.S.Source.faults l.initial.input.source) (g.S.Source.faults l.input.source);
  sink_kept : g.K.Sink.faults l.sink ≡ g.K.Sink.faults l.initial.sink;
}

abbrev pub decreases-loop-moved : goal.decreases-loop-moved
decreases-loop-moved g l = steps_left l.input.at
