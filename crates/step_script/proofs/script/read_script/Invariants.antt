use Rattle.std.proofs.Common.{◌≡◌, ◌+◌, ◌≤◌, ◌^◌, None, map}
use Rattle.std.specs.Option.{option_copied}
use Rattle.script_lines.specs.Lines.{asked_by}
use Rattle.zeek_log.specs.Cuts.{length_left}
use Rattle.step_script.specs.Reading.{lines_left}
use Rattle.step_script.specs.Scripts.{InRange, numbered, script_behind, script_of}
use Rattle.step_script.proofs.script.read_script.Given as goal

abbrev pub invariant-loop-rest : goal.invariant-loop-rest
invariant-loop-rest l = record {
  script : script_behind l.script.settings (map asked_by l.script.lines.items) (numbered (l.number + 1) (lines_left (option_copied l.rest))) ≡ script_of l.bytes;
  good : l.script.bad ≡ None;
  range : InRange l.script.settings;
  few : l.number + length_left (option_copied l.rest) ≤ 2 ^ 20 + 1;
}

abbrev pub decreases-loop-rest : goal.decreases-loop-rest
decreases-loop-rest l = length_left (option_copied l.rest)
