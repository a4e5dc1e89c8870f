use Rattle.std.proofs.Common.{◌≡◌, ◌≤◌, drop}
use Rattle.std.specs.Option.{option_and_then}
use Rattle.value_reading.specs.Numbers.{number_behind, if_at_most}
use Rattle.value_reading.proofs.numbers.many_digits.Given as goal

abbrev pub invariant-loop-byte : goal.invariant-loop-byte
invariant-loop-byte l =
    (option_and_then (if_at_most l.most) (number_behind 0 l.text) ≡ option_and_then (if_at_most l.most) (number_behind l.number (drop l.byte-index l.text)))
    × (l.number ≤ l.most)
