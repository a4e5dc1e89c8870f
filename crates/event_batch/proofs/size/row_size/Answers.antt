use Rattle.std.proofs.Common.{arith}
use Rattle.event_batch.proofs.SizeLemmas.{row_bound}
use Rattle.event_batch.proofs.size.row_size.Goals as goal

pub returns-clause-exact : goal.returns-clause-exact
returns-clause-exact c = λ layout h. let few = row_bound layout c.args.row.now h in let size = rw c.as_slice.ensures at c.cells_size.ensures in omega arith

pub returns-clause-small : goal.returns-clause-small
returns-clause-small c = λ layout h. let few = row_bound layout c.args.row.now h in let size = rw c.as_slice.ensures at c.cells_size.ensures in omega arith
