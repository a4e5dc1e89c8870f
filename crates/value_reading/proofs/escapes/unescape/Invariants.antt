use Rattle.std.proofs.Common.{◌≡◌, ◌++◌, length}
use Rattle.value_reading.specs.Escapes.{unescaped}
use Rattle.value_reading.proofs.escapes.unescape.Given as goal

abbrev pub invariant-loop-byte : goal.invariant-loop-byte
invariant-loop-byte l = unescaped l.raw ≡ l.text ++ unescaped l.rest

abbrev pub decreases-loop-byte : goal.decreases-loop-byte
decreases-loop-byte l = length l.rest
