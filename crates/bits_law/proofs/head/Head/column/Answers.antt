use Rattle.std.proofs.Common.{sym, ◌∙◌}
use Rattle.bits_law.proofs.head.Head.column.Goals as goal

pub bounds-words-self : goal.bounds-words-self
bounds-words-self c = c.requires.inside.kept c.args.at c.requires.at (sym c.has_bit.ensures ∙ c.if-has_bit.true)
