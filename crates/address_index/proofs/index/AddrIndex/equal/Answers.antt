use Rattle.std.proofs.Common.{eqb}
use Rattle.address_index.proofs.AddressLemmas.{alone_ok}
use Rattle.address_index.proofs.index.AddrIndex.equal.Goals as goal

pub returns-clause-keys : goal.returns-clause-keys
returns-clause-keys g c = alone_ok g.B.Bits.bits c.args.self.now.table (λ key. eqb key c.args.addr) c.rows_equal.result c.rows_equal.ensures.keys
