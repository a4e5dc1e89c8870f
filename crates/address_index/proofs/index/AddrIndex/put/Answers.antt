use Rattle.bits_law.proofs.TableLemmas.{holds_put}
use Rattle.address_index.specs.Addresses.{address_bit, IsAddress}
use Rattle.address_index.proofs.AddressLemmas.{in_address}
use Rattle.address_index.proofs.index.AddrIndex.put.Goals as goal

pub returns-clause-keys : goal.returns-clause-keys
returns-clause-keys g c =
    let a = c.args in
    holds_put 128 address_bit IsAddress c.put.result a.self.now.table c.put.new.self a.row a.addr _ (λ j l. in_address j (address_bit j a.addr) l) c.ranges.addr.fits c.put.ensures.ok
