use Rattle.std.proofs.Common.{◌≡◌, drop}
use Rattle.history_core.specs.Snapshots.{packed_of}
use Rattle.history_core.proofs.taken.packed_of.Given as goal

abbrev pub invariant-loop-at : goal.invariant-loop-at
invariant-loop-at l = packed_of l.number l.held ≡ packed_of l.number (drop l.at l.held)
