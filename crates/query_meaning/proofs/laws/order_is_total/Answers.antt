use Rattle.query_meaning.proofs.OrderLemmas.{trichotomy, or_equal, no_order}
use Rattle.query_meaning.proofs.laws.order_is_total.Goals as goal

pub returns-clause-trichotomy : goal.returns-clause-trichotomy
returns-clause-trichotomy c = trichotomy c.args.literal.now c.args.value.now

pub returns-clause-or_equal : goal.returns-clause-or_equal
returns-clause-or_equal c = or_equal c.args.literal.now c.args.value.now

pub returns-clause-no_order : goal.returns-clause-no_order
returns-clause-no_order c = no_order c.args.literal.now c.args.value.now
