use Rattle.partition.proofs.index.Index.span_time.Given as goal

abbrev pub ghost-column_time : goal.ghost-column_time
ghost-column_time g a = g.events

abbrev pub ghost-unset_time : goal.ghost-unset_time
ghost-unset_time g a = g.events
