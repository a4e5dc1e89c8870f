use Rattle.std.proofs.Common.{arith}
use Rattle.plain_cells.proofs.GapLemmas.{group_led}
use Rattle.plain_cells.proofs.groups.group_end.Goals as goal

pub returns : goal.returns
returns c =
    let led = c.leading_hexadecimal-count in
    group_led c.args.text.now c.split_at.result.1.now c.args.at led.result (omega (arith, c.if-at-text.false, c.if-text-lt-LANES.false)) c.split_at.ensures.back led.ensures.value (omega (arith, c.if-count-eq0.false)) (omega (arith, c.if-count-gt-MOST_DIGITS.false))
