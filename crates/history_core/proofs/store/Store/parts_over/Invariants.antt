use Rattle.std.proofs.Common.{◌≡◌, map}
use Rattle.event_history.specs.Histories.{past}
use Rattle.event_history.specs.Pieces.{parts_upto}
use Rattle.partition.specs.Parts.{piece_of}
use Rattle.history_core.proofs.store.Store.parts_over.Given as goal

abbrev pub invariant-loop-number : goal.invariant-loop-number
invariant-loop-number l = map piece_of l.parts.items ≡ parts_upto l.self.limits.group l.low l.high (past l.self.history) l.number
