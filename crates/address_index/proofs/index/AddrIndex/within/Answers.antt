use Rattle.address_index.specs.Addresses.{within}
use Rattle.address_index.proofs.AddressLemmas.{alone_ok}
use Rattle.address_index.proofs.index.AddrIndex.within.Goals as goal

pub returns-clause-keys : goal.returns-clause-keys
returns-clause-keys g c = alone_ok g.B.Bits.bits c.args.self.now.table (within c.args.base c.args.bits) c.rows_within.result c.rows_within.ensures.keys
