use Rattle.std.proofs.Common.{◌≡◌, ◌^◌, ◌<◌, drop}
use Rattle.value_reading.specs.Numbers.{number_behind}
use Rattle.value_reading.proofs.numbers.few_digits.Given as goal

abbrev pub invariant-loop-byte : goal.invariant-loop-byte
invariant-loop-byte l =
    (number_behind 0 l.text ≡ number_behind l.number (drop l.byte-index l.text)) × (l.number < 10 ^ l.byte-index)
