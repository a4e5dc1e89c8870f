use Rattle.bits_law.specs.Numbers.{has_bit}
use Rattle.digit_index.proofs.DigitLemmas.{word_with, word_without}
use Rattle.digit_index.proofs.coding.add_ones.Goals as goal

pub returns-then-at-words-clause-bits : goal.returns-then-at-words-clause-bits
returns-then-at-words-clause-bits c = λ part i l. word_with c.args.words.now c.args.at c.args.ones part i c.if-at-words.true

pub returns-else-at-words-clause-bits : goal.returns-else-at-words-clause-bits
returns-else-at-words-clause-bits c = λ part i l. word_without c.args.words.now c.args.at part (has_bit c.args.ones i) i l c.if-at-words.false
