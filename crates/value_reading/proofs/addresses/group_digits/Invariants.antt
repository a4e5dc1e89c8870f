use Rattle.std.proofs.Common.{◌≡◌, ◌^◌, ◌<◌, drop}
use Rattle.value_reading.specs.Addresses.{hexadecimal_behind}
use Rattle.value_reading.proofs.addresses.group_digits.Given as goal

abbrev pub invariant-loop-byte : goal.invariant-loop-byte
invariant-loop-byte l =
    (hexadecimal_behind 0 l.piece ≡ hexadecimal_behind l.group (drop l.byte-index l.piece)) × (l.group < 16 ^ l.byte-index)
