use Rattle.std.proofs.Common.{◌-◌, ap, ◌∙◌, not, arith}
use Rattle.bits_law.proofs.WordBits.{bit-not}
use Rattle.digit_index.proofs.DigitLemmas.{above}
use Rattle.digit_index.proofs.coding.ones_before.Goals as goal

pub returns : goal.returns
returns c = λ j l. bit-not c.ones_from.result (63 - j) (omega arith) (omega arith) ∙ ap not (c.ones_from.ensures j l) ∙ above c.args.at j
