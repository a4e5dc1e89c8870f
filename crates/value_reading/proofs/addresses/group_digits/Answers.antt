use Rattle.std.proofs.Common.{arith}
use Rattle.value_reading.proofs.GroupLemmas.{digit_fits, digits_small}
use Rattle.value_reading.proofs.addresses.group_digits.Goals as goal

pub overflow_mul-group : goal.overflow_mul-group
overflow_mul-group c =
    omega (arith, digit_fits c.loop-byte.group c.loop-byte.byte-index c.in_ok-digit.digit c.loop-byte.invariant.1 (omega arith) c.in_ok-digit.ensures.below)

pub overflow_add-group : goal.overflow_add-group
overflow_add-group c =
    omega (arith, digit_fits c.loop-byte.group c.loop-byte.byte-index c.in_ok-digit.digit c.loop-byte.invariant.1 (omega arith) c.in_ok-digit.ensures.below)

pub returns-clause-below : goal.returns-clause-below
returns-clause-below c = digits_small c.loop-byte.group c.loop-byte.byte-index c.loop-byte.invariant.1 (omega arith)
