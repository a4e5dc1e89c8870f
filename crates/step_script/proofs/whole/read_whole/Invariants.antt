use Rattle.std.proofs.Common.{◌≡◌, ◌+◌, ◌-◌, ◌≤◌, ◌^◌, length}
use Rattle.std.specs.Io.KnownBytes.{prepend_known}
use Rattle.step_script.proofs.whole.read_whole.Given as goal

abbrev pub invariant-loop-bytes : goal.invariant-loop-bytes
invariant-loop-bytes g l = record {
  took : g.S.Source.left l.fn.source ≡ prepend_known l.bytes (g.S.Source.left l.source);
  few : length l.bytes ≤ 2 ^ 20;
  count : g.S.Source.faults l.source ≡ g.S.Source.faults l.fn.source;
}

abbrev pub decreases-loop-bytes : goal.decreases-loop-bytes
decreases-loop-bytes g l = 2 ^ 20 + 1 - length l.bytes
