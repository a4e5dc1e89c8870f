use Rattle.event_batch.specs.Contents.{content_of}
use Rattle.event_history.specs.Events.{events_of}
use Rattle.partition.proofs.fragment.Fragment.ask.Given as goal

abbrev pub ghost-ask : goal.ghost-ask
ghost-ask a = events_of (content_of a._of.now.value)
