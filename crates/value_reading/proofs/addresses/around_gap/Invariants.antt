use Rattle.std.proofs.Common.{◌≡◌, ◌-◌, take, drop}
use Rattle.value_reading.specs.Addresses.{around_gap}
use Rattle.value_reading.proofs.GapLemmas.{behind_front}
use Rattle.value_reading.proofs.addresses.around_gap.Given as goal

abbrev pub invariant-loop-at : goal.invariant-loop-at
invariant-loop-at l = around_gap l.text ≡ behind_front (take (l.at - 1) l.text) (around_gap (drop (l.at - 1) l.text))
