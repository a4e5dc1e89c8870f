use Rattle.bits_law.proofs.TableLemmas.{holds_gap}
use Rattle.address_index.specs.Addresses.{address_bit, IsAddress}
use Rattle.address_index.proofs.index.AddrIndex.pad.Goals as goal

pub returns-clause-keys : goal.returns-clause-keys
returns-clause-keys g c = λ keys h. holds_gap 128 address_bit IsAddress keys c.args.self.table _ c.args.rows h c.in_ok-pad.ensures.ok
