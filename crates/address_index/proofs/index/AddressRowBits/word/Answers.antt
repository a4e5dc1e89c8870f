use Rattle.address_index.proofs.AddressLemmas.{high_part, low_part}
use Rattle.address_index.proofs.index.AddressRowBits.word.Goals as goal

pub returns-in-0 : goal.returns-in-0
returns-in-0 c = λ j l. high_part c.args.self.now.addr c.args.part j c.in-0.is l

pub returns-in-1 : goal.returns-in-1
returns-in-1 c = λ j l. low_part c.args.self.now.addr c.args.part j c.in-1.is l
