use Rattle.std.proofs.Common.{◌<◌, ◌-◌, arith}
use Rattle.std.proofs.lemmas.Nat.{one_shl}
use Rattle.address_index.proofs.AddressLemmas.{within_none, within_ok, within_both, prefix_fits}
use Rattle.address_index.proofs.index.rows_within.Goals as goal

pub returns-then-bits-eq0-clause-keys : goal.returns-then-bits-eq0-clause-keys
returns-then-bits-eq0-clause-keys g c = within_none g.B.Bits.bits c.args.table.now c.args.base c.args.bits c.present.result c.if-bits-eq0.true (omega (arith, c.ranges.base.fits)) c.present.ensures

pub overflow_cast-part-then-bits-le64 : goal.overflow_cast-part-then-bits-le64
overflow_cast-part-then-bits-le64 g c = omega (arith, prefix_fits c.args.base c.args.bits c.if-bits-le64.true (omega (arith, c.ranges.base.fits)))

pub returns-then-bits-le64-clause-keys : goal.returns-then-bits-le64-clause-keys
returns-then-bits-le64-clause-keys g c = within_ok g.B.Bits.bits c.args.table.now c.args.base c.args.bits c.ask.result c.requires.narrow c.ask.ensures

pub returns-clause-keys : goal.returns-clause-keys
returns-clause-keys g c =
    let inside : c.args.bits - 64 < 128 = omega (arith, c.requires.narrow) in
    within_both g.B.Bits.bits c.args.table.now c.args.base c.args.bits _ c.ask_among.result (omega (arith, c.if-bits-le64.false)) c.requires.narrow c.in_ok-high.ensures (rw (one_shl (c.args.bits - 64) 128 inside) at c.ask_among.ensures)
