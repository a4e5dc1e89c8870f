use Rattle.bits_law.proofs.TableLemmas.{holds_joined}
use Rattle.address_index.specs.Subnets.{IsSubnet, net_bit}
use Rattle.address_index.proofs.net.NetIndex.append.Goals as goal

pub returns-clause-keys : goal.returns-clause-keys
returns-clause-keys g c = λ keys more h o. holds_joined 136 net_bit IsSubnet keys more c.args.self.table c.args.other.now.table _ h o c.in_ok-append.ensures.ok
