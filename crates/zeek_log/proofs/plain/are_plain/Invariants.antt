use Rattle.std.proofs.Common.{drop}
use Rattle.zeek_log.proofs.LookLemmas.{AreSeen}
use Rattle.zeek_log.proofs.plain.are_plain.Given as goal

abbrev pub invariant-loop-look : goal.invariant-loop-look
invariant-loop-look l =
    AreSeen l.marks l.text l.places (drop l.look-index l.look-items) → AreSeen l.marks l.text l.places l.look-items
