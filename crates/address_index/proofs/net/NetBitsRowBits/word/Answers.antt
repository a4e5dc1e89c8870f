use Rattle.address_index.specs.Subnets.{subnet}
use Rattle.address_index.proofs.SubnetLemmas.{base_high, base_low, size_part}
use Rattle.address_index.proofs.net.NetBitsRowBits.word.Goals as goal

pub returns-in-0 : goal.returns-in-0
returns-in-0 c = λ j l. base_high (subnet c.args.self.now.base c.args.self.now.bits) c.args.part j c.in-0.is l

pub returns-in-1 : goal.returns-in-1
returns-in-1 c = λ j l. base_low (subnet c.args.self.now.base c.args.self.now.bits) c.args.part j c.in-1.is l

pub returns-in-2 : goal.returns-in-2
returns-in-2 c = λ j l. size_part (subnet c.args.self.now.base c.args.self.now.bits) c.args.part j c.in-2.is l
