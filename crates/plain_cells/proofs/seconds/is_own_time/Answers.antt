use Rattle.std.proofs.Common.{arith}
use Rattle.plain_cells.proofs.OwnLemmas.{seconds_own_read}
use Rattle.plain_cells.proofs.seconds.is_own_time.Goals as goal

pub returns-clause-time : goal.returns-clause-time
returns-clause-time c is =
    (seconds_own_read c.args.text.now c.in-Some.whole c.args.count c.in-Some.ensures (c.has_no_leading_zero.ensures is) (omega (arith, c.if-count-whole.false))).0

pub returns-clause-span : goal.returns-clause-span
returns-clause-span c is =
    (seconds_own_read c.args.text.now c.in-Some.whole c.args.count c.in-Some.ensures (c.has_no_leading_zero.ensures is) (omega (arith, c.if-count-whole.false))).1
