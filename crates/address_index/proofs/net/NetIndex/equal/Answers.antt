use Rattle.std.proofs.Common.{eqb}
use Rattle.bits_law.specs.declared.slices.Order.TheVariants.{Eq}
use Rattle.address_index.proofs.SubnetLemmas.{length_ok}
use Rattle.address_index.proofs.net.NetIndex.equal.Goals as goal

pub returns-clause-keys : goal.returns-clause-keys
returns-clause-keys g c = length_ok g.B.Bits.bits c.args.self.now.table (λ key. eqb key c.args.base) Eq c.args.bits _ c.ask_length.result c.in_ok-rows.ensures.keys c.ask_length.ensures
