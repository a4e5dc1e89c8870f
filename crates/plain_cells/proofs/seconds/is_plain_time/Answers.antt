use Rattle.std.proofs.Common.{take}
use Rattle.plain_cells.proofs.ReadableLemmas.{time_readable, span_readable}
use Rattle.plain_cells.proofs.SecondLemmas.{seconds_read}
use Rattle.plain_cells.proofs.seconds.is_plain_time.Goals as goal

pub returns-clause-time : goal.returns-clause-time
returns-clause-time c is =
    let read = seconds_read c.args.text.now c.in-Some._whole c.args.count c.in-Some.ensures in
    time_readable (take c.args.count c.args.text.now) read.1 read.0

pub returns-clause-span : goal.returns-clause-span
returns-clause-span c is =
    let read = seconds_read c.args.text.now c.in-Some._whole c.args.count c.in-Some.ensures in
    span_readable (take c.args.count c.args.text.now) read.1 read.0
