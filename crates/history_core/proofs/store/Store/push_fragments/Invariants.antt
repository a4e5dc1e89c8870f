use Rattle.std.proofs.Common.{◌≡◌, ◌*◌, ◌++◌, map}
use Rattle.event_history.specs.Histories.{past}
use Rattle.event_history.specs.Pieces.{reached}
use Rattle.partition.specs.Parts.{piece_of}
use Rattle.history_core.proofs.store.Store.push_fragments.Given as goal

abbrev pub invariant-loop-i : goal.invariant-loop-i
invariant-loop-i l =
    map piece_of l.parts.items ≡ map piece_of l.fn.parts.items ++ reached l.low l.high (past l.self.history) (l.number * l.self.limits.group) l.i
