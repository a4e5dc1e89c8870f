use Rattle.bits_law.proofs.TableLemmas.{holds_put}
use Rattle.address_index.specs.Subnets.{IsSubnet, subnet, net_bit}
use Rattle.address_index.proofs.SubnetLemmas.{in_net}
use Rattle.address_index.proofs.net.NetIndex.put.Goals as goal

pub returns-clause-keys : goal.returns-clause-keys
returns-clause-keys g c =
    let a = c.args in
    let net = subnet a.base a.bits in
    let is : IsSubnet net = record { narrow = c.requires.narrow; small = c.ranges.base.fits; masked = c.requires.masked } in
    holds_put 136 net_bit IsSubnet c.put.result a.self.now.table c.put.new.self a.row net _ (λ j l. in_net j (net_bit j net) l) is c.put.ensures.ok
