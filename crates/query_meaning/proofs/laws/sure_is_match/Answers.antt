use Rattle.query_meaning.proofs.SureLemmas.{bounded, bounded_cell}
use Rattle.query_meaning.proofs.laws.sure_is_match.Goals as goal

pub returns-clause-events : goal.returns-clause-events
returns-clause-events c = λ heading cells. bounded heading cells c.args.expr.now

pub returns-clause-cells : goal.returns-clause-cells
returns-clause-cells c = bounded_cell c.args.rel c.args.literal.now c.args.cell.now
