-- The lines so far gave no step.
use Rattle.std.proofs.Common.{◌≡◌, ◌≤◌}
use Rattle.zeek_log.specs.Going.{GoesOn, lines_left}
use Rattle.zeek_log.proofs.line_reader.LineReader.go_on.Given as goal

abbrev pub invariant-loop-step : goal.invariant-loop-step
invariant-loop-step g l = record {
  goes : GoesOn l.initial.self l.self (g.S.Source.left l.initial.source) (g.S.Source.left l.source);
  less : lines_left l.self.state ≤ lines_left l.initial.self.state;
  kept : g.S.Source.faults l.source ≡ g.S.Source.faults l.initial.source;
}

abbrev pub decreases-loop-step : goal.decreases-loop-step
decreases-loop-step g l = lines_left l.self.state
