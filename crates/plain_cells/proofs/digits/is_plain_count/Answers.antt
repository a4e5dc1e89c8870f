use Rattle.std.proofs.lemmas.Bool.{le-leb}
use Rattle.value_reading.specs.Numbers.{is_digit}
use Rattle.plain_cells.proofs.LaneLemmas.{reached}
use Rattle.std.proofs.Common.{length, ◌≤◌, take, arith}
use Rattle.std.proofs.lemmas.Bool.{leb-true}
use Rattle.plain_cells.proofs.DigitLemmas.{digits_led, digits_none, sixteen_within, int_sixteen}
use Rattle.plain_cells.proofs.ReadableLemmas.{count_readable, int_readable}
use Rattle.plain_cells.proofs.digits.is_plain_count.Goals as goal

pub returns-clause-count : goal.returns-clause-count
returns-clause-count c is =
    let text = c.args.text.now in
    let count = c.args.count in
    let low = leb-true count c.leading_digits.result is in
    let led = digits_led text count c.leading_digits.result c.requires c.leading_digits.ensures.value c.leading_digits.ensures.within low in
    count_readable (take count text) (digits_none 92 (take count text) (omega arith) led.digits)
    (sixteen_within (take count text) led.digits (omega (arith, led.long, c.if-count-eq0.false)) (omega (arith, led.long, low, c.leading_digits.ensures.within)))

pub returns-clause-int : goal.returns-clause-int
returns-clause-int c is =
    let text = c.args.text.now in
    let count = c.args.count in
    let low = leb-true count c.leading_digits.result is in
    let led = digits_led text count c.leading_digits.result c.requires c.leading_digits.ensures.value c.leading_digits.ensures.within low in
    int_readable (take count text) (digits_none 92 (take count text) (omega arith) led.digits)
    (int_sixteen (take count text) led.digits (omega (arith, led.long, c.if-count-eq0.false)) (omega (arith, led.long, low, c.leading_digits.ensures.within)))

pub returns-clause-taken : goal.returns-clause-taken
returns-clause-taken c some few all =
    let room : c.args.count ≤ length c.args.text.now = omega (arith, c.requires) in
    le-leb c.args.count c.leading_digits.result (omega (arith, reached is_digit 16 c.args.count c.args.text.now few room all, c.leading_digits.ensures.value))
