use Rattle.std.proofs.Common.{take}
use Rattle.plain_cells.proofs.OctetLemmas.{dotted_read}
use Rattle.plain_cells.proofs.ReadableLemmas.{address_readable}
use Rattle.plain_cells.proofs.dotted.is_plain_address.Goals as goal

pub returns : goal.returns
returns c is =
    let read = dotted_read c.args.text.now c.in-Some._a c.in-Some._b c.in-Some._c c.args.count c.in-Some.ensures in
    address_readable (take c.args.count c.args.text.now) read.1 read.0
