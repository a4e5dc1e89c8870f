use Rattle.event_history.specs.Events.{events_in}
use Rattle.partition.specs.Merged.{contents_of}
use Rattle.partition.proofs.sealed.Sealed.ask.Given as goal

abbrev pub ghost-ask : goal.ghost-ask
ghost-ask a = events_in (contents_of a._of.now.items)
