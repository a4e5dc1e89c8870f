use Rattle.std.proofs.Common.{◌≡◌, ◌++◌, drop}
use Rattle.zeek_log.specs.Looks.{looks_from}
use Rattle.zeek_log.proofs.looked.looks_of.Given as goal

abbrev pub invariant-loop-at : goal.invariant-loop-at
invariant-loop-at l = l.looks ++ looks_from l.at (drop l.at l.columns) ≡ looks_from 0 l.columns
