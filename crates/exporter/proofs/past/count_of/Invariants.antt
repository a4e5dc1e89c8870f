use Rattle.std.proofs.Common.{◌≡◌, ◌<◌, ℕ, true, get_or}
use Rattle.event_history.specs.Pieces.{Held}
use Rattle.partition.specs.Parts.{piece_of}
use Rattle.exporter.specs.Told.{belongs}
use Rattle.exporter.proofs.past.count_of.Given as goal

abbrev pub invariant-loop-at : goal.invariant-loop-at
invariant-loop-at l = (k : ℕ) (d : Held) → k < l.at → belongs (piece_of l.part) (get_or l.held k d) ≡ true
