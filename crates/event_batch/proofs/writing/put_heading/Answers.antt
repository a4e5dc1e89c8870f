use Rattle.std.proofs.Common.{arith}
use Rattle.event_batch.proofs.ContentLemmas.{few_columns}
use Rattle.event_batch.proofs.writing.put_heading.Goals as goal

pub overflow_cast-columns : goal.overflow_cast-columns
overflow_cast-columns c = let some = few_columns c.args.layout.now in rw c.columns.ensures (omega arith)
