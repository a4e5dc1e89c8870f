use Rattle.std.proofs.Common.{◌≡◌, ◌+◌, ◌-◌, ◌≤◌, ℕ, true, List, take, length, refl, subst, arith}
use Rattle.std.specs.List.{list_all}
use Rattle.value_reading.specs.Numbers.{is_digit}
use Rattle.plain_cells.proofs.DigitLemmas.{digits_led}
use Rattle.plain_cells.proofs.seconds.whole_digits.Goals as goal

pub returns : goal.returns
returns c =
    let text = c.args.text.now in
    let count = c.args.count in
    let whole = c.leading_digits-whole in
    let rest = c.split_at.result.1.now in
    let room : 16 ≤ length text = omega (arith, c.requires) in
    let low : whole.result ≤ 16 = whole.ensures.within in
    let few : whole.result ≤ 10 = c.if-not-is_short_whole.ensures.few refl in
    let back : 16 ≤ length rest = omega (arith, c.split_at.ensures.back_len, c.requires) in
    let led = digits_led text whole.result whole.result room whole.ensures.value low (omega arith) in
    let more : count - (whole.result + 1) ≤ c.leading_digits.result = c.if-leading_digits-count.false in
    let behind = digits_led rest (count - (whole.result + 1)) c.leading_digits.result back c.leading_digits.ensures.value c.leading_digits.ensures.within more in
    record {
      within = omega (arith, c.if-count-whole-2.false, c.requires);
      some = c.if-not-is_short_whole.ensures.some refl;
      few = few;
      first = c.if-not-is_short_whole.ensures.first refl;
      digits = led.digits;
      more = omega (arith, c.if-count-whole.false);
      point = omega (arith, c.if-text-whole-ne46.false);
      short = omega (arith, c.if-count-whole-2.false);
      decimals = subst (λ (l : List ℕ). list_all is_digit (take (count - (whole.result + 1)) l) ≡ true) c.split_at.ensures.back behind.digits;
    }
