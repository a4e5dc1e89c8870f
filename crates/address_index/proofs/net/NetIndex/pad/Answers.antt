use Rattle.bits_law.proofs.TableLemmas.{holds_gap}
use Rattle.address_index.specs.Subnets.{IsSubnet, net_bit}
use Rattle.address_index.proofs.net.NetIndex.pad.Goals as goal

pub returns-clause-keys : goal.returns-clause-keys
returns-clause-keys g c = λ keys h. holds_gap 136 net_bit IsSubnet keys c.args.self.table _ c.args.rows h c.in_ok-pad.ensures.ok
