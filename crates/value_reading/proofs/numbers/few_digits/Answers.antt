use Rattle.std.proofs.Common.{◌≡◌, arith, true, get_or}
use Rattle.value_reading.specs.Numbers.{is_digit}
use Rattle.value_reading.proofs.NumberLemmas.{digit_fits}
use Rattle.value_reading.proofs.numbers.few_digits.Goals as goal

pub overflow_mul-number : goal.overflow_mul-number
overflow_mul-number c =
    let digit : is_digit (get_or c.args.text.now c.loop-byte.byte-index 0) ≡ true = cc in
    omega (arith, digit_fits c.loop-byte.number c.loop-byte.byte-index (get_or c.args.text.now c.loop-byte.byte-index 0) c.loop-byte.invariant.1 (omega arith) digit)

pub overflow_add-number : goal.overflow_add-number
overflow_add-number c =
    let digit : is_digit (get_or c.args.text.now c.loop-byte.byte-index 0) ≡ true = cc in
    omega (arith, digit_fits c.loop-byte.number c.loop-byte.byte-index (get_or c.args.text.now c.loop-byte.byte-index 0) c.loop-byte.invariant.1 (omega arith) digit)
