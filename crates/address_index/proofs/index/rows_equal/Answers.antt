use Rattle.address_index.proofs.AddressLemmas.{equal_ok}
use Rattle.address_index.proofs.index.rows_equal.Goals as goal

pub returns-clause-keys : goal.returns-clause-keys
returns-clause-keys g c = equal_ok g.B.Bits.bits c.args.table.now c.args.addr c.rows_within.result c.rows_within.ensures.keys
