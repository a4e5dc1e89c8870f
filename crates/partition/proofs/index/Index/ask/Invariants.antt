use Rattle.partition.proofs.index.Index.ask.Given as goal

abbrev pub ghost-ask_columns : goal.ghost-ask_columns
ghost-ask_columns g a = g.events

abbrev pub ghost-ask_path : goal.ghost-ask_path
ghost-ask_path g a = g.events

abbrev pub ghost-ask_time : goal.ghost-ask_time
ghost-ask_time g a = g.events
