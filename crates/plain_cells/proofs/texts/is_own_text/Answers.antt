use Rattle.std.proofs.Common.{take, arith}
use Rattle.std.proofs.lemmas.List.{length-take-le}
use Rattle.plain_cells.proofs.OwnTextLemmas.{text_own, name_own}
use Rattle.plain_cells.proofs.texts.is_own_text.Goals as goal

pub returns-clause-text : goal.returns-clause-text
returns-clause-text c is = text_own (take c.args.count c.args.text.now) (omega (arith, length-take-le c.args.count c.args.text.now (omega arith), c.if-count-eq0.false)) (c.are_bare.ensures is)

pub returns-clause-name : goal.returns-clause-name
returns-clause-name c is = name_own (take c.args.count c.args.text.now) (omega (arith, length-take-le c.args.count c.args.text.now (omega arith), c.if-count-eq0.false)) (c.are_bare.ensures is)
