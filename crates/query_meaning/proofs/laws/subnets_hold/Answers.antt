use Rattle.query_meaning.proofs.NetLaws.{in_itself, goes_over, holds_all}
use Rattle.query_meaning.proofs.laws.subnets_hold.Goals as goal

pub returns-clause-itself : goal.returns-clause-itself
returns-clause-itself c = in_itself c.args.outer.now

pub returns-clause-over : goal.returns-clause-over
returns-clause-over c = goes_over c.args.outer.now c.args.inner.now c.args.value.now

pub returns-clause-all : goal.returns-clause-all
returns-clause-all c = holds_all c.args.outer.now c.args.address
