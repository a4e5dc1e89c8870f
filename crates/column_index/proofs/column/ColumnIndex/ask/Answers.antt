use Rattle.column_index.proofs.column.ColumnIndex.ask.Goals as goal

pub returns-in_ok-pair-in-Of-clause-sure : goal.returns-in_ok-pair-in-Of-clause-sure
returns-in_ok-pair-in-Of-clause-sure c = rw c.in-Of.is c.in_ok-pair-in-Of.ensures.sure
