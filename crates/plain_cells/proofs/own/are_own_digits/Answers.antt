use Rattle.plain_cells.proofs.DigitLemmas.{digits_led}
use Rattle.plain_cells.proofs.own.are_own_digits.Goals as goal

pub returns-clause-digits : goal.returns-clause-digits
returns-clause-digits c is = (digits_led c.args.text.now c.args.count c.leading_digits.result c.requires c.leading_digits.ensures.value c.leading_digits.ensures.within c.if-leading_digits-count.false).digits
