use Rattle.bits_law.proofs.TableLemmas.{holds_joined}
use Rattle.address_index.specs.Addresses.{address_bit, IsAddress}
use Rattle.address_index.proofs.index.AddrIndex.append.Goals as goal

pub returns-clause-keys : goal.returns-clause-keys
returns-clause-keys g c = λ keys more h o. holds_joined 128 address_bit IsAddress keys more c.args.self.table c.args.other.now.table _ h o c.in_ok-append.ensures.ok
