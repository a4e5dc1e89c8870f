use Rattle.bits_law.specs.declared.slices.Order.TheVariants.{Ge}
use Rattle.address_index.specs.Addresses.{within}
use Rattle.address_index.proofs.SubnetLemmas.{length_ok}
use Rattle.address_index.proofs.net.NetIndex.within.Goals as goal

pub returns-clause-keys : goal.returns-clause-keys
returns-clause-keys g c = length_ok g.B.Bits.bits c.args.self.now.table (within c.args.base c.args.bits) Ge c.args.bits _ c.ask_length.result c.in_ok-rows.ensures.keys c.ask_length.ensures
