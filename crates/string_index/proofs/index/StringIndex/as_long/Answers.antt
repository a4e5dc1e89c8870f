use Rattle.string_index.proofs.TextLemmas.{long_ok}
use Rattle.string_index.proofs.index.StringIndex.as_long.Goals as goal

pub returns-clause-keys : goal.returns-clause-keys
returns-clause-keys g c =
    rw (← c.min.ensures) (long_ok g.B.Bits.bits c.args.self.now.table c.min.result c.ask.result c.args.self.now.wide c.ask.ensures)
