use Rattle.std.proofs.Common.{◌≡◌, ◌≤◌, ℕ, true, take, length, subst, sym, arith}
use Rattle.std.specs.Prelude.{IsSome}
use Rattle.std.specs.List.{list_all}
use Rattle.value_reading.specs.Numbers.{is_digit, number_up_to}
use Rattle.plain_cells.proofs.DigitLemmas.{digits_led, digits_none, port_digits, four_within, five_within}
use Rattle.plain_cells.proofs.ReadableLemmas.{port_readable}
use Rattle.plain_cells.proofs.digits.is_plain_port.Goals as goal

pub returns-then-count-lt5 : goal.returns-then-count-lt5
returns-then-count-lt5 c is =
    let text = c.args.text.now in
    let count = c.args.count in
    let led = digits_led text count c.leading_digits.result c.requires c.leading_digits.ensures.value c.leading_digits.ensures.within c.if-leading_digits-count.false in
    port_readable (take count text) (digits_none 92 (take count text) (omega arith) led.digits)
    (port_digits (take count text) led.digits (four_within (take count text) led.digits (omega (arith, led.long, c.if-count-eq0.false)) (omega (arith, led.long, c.if-count-lt5.true))))

pub returns : goal.returns
returns c is =
    let text = c.args.text.now in
    let count = c.args.count in
    let led = digits_led text count c.leading_digits.result c.requires c.leading_digits.ensures.value c.leading_digits.ensures.within c.if-leading_digits-count.false in
    let five : count ≡ 5 = omega (arith, c.if-count-lt5.false, c.if-count-gt5.false) in
    let room : 5 ≤ length text = omega (arith, c.requires) in
    let some = five_within text room (subst (λ (n : ℕ). list_all is_digit (take n text) ≡ true) five led.digits) (c.is_low_port.ensures is) in
    port_readable (take count text) (digits_none 92 (take count text) (omega arith) led.digits)
    (port_digits (take count text) led.digits (subst (λ (n : ℕ). IsSome (number_up_to 65535 (take n text))) (sym five) some))
