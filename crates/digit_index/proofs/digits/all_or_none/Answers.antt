use Rattle.digit_index.proofs.DigitLemmas.{none_even, none_keys}
use Rattle.digit_index.proofs.digits.all_or_none.Goals as goal

pub returns-else-all-clause-rows : goal.returns-else-all-clause-rows
returns-else-all-clause-rows g c = none_even g.B.Bits.bits _ c.and_not.result c.and_not.ensures

pub returns-else-all-clause-keys : goal.returns-else-all-clause-keys
returns-else-all-clause-keys g c = none_keys g.B.Bits.bits _ c.args.all c.and_not.result c.if-all.false c.and_not.ensures
