use Rattle.digit_index.proofs.DigitLemmas.{ones_from_bit, ones_from_none}
use Rattle.digit_index.proofs.coding.ones_from.Goals as goal

pub returns-then-at-lt64 : goal.returns-then-at-lt64
returns-then-at-lt64 c = λ j l. ones_from_bit c.args.at j c.if-at-lt64.true l

pub returns-else-at-lt64 : goal.returns-else-at-lt64
returns-else-at-lt64 c = λ j l. ones_from_none c.args.at j c.if-at-lt64.false l
