use Rattle.std.proofs.Common.{take}
use Rattle.plain_cells.proofs.OwnLemmas.{count_own, int_own, port_own}
use Rattle.plain_cells.proofs.own.is_own_number.Goals as goal

pub returns-clause-count : goal.returns-clause-count
returns-clause-count c is = count_own (take c.args.count c.args.text.now) (c.are_own_digits.ensures.digits is) (c.are_own_digits.ensures.first is)

pub returns-clause-int : goal.returns-clause-int
returns-clause-int c is = int_own (take c.args.count c.args.text.now) (c.are_own_digits.ensures.digits is) (c.are_own_digits.ensures.first is)

pub returns-clause-port : goal.returns-clause-port
returns-clause-port c is = port_own (take c.args.count c.args.text.now) (c.are_own_digits.ensures.digits is) (c.are_own_digits.ensures.first is)
