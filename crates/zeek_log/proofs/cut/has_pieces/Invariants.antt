use Rattle.std.proofs.Common.{◌≡◌, ◌==◌, length}
use Rattle.std.specs.Option.{option_copied}
use Rattle.zeek_log.specs.Cuts.{pieces_left, length_left}
use Rattle.zeek_log.specs.Lines.{pieces_of}
use Rattle.zeek_log.proofs.cut.has_pieces.Given as goal

abbrev pub invariant-loop-rest : goal.invariant-loop-rest
invariant-loop-rest l =
    (length (pieces_left l.separator (option_copied l.rest)) == l.left) ≡ (length (pieces_of l.separator l.text) == l.count)

abbrev pub decreases-loop-rest : goal.decreases-loop-rest
decreases-loop-rest l = length_left (option_copied l.rest)
