use Rattle.plain_cells.specs.Groups.{AreBegun}
use Rattle.plain_cells.proofs.groups.group_run.Given as goal

abbrev pub invariant-loop-count : goal.invariant-loop-count
invariant-loop-count l = AreBegun l.text l.from l.at l.count
