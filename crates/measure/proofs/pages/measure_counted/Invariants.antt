use Rattle.event_history.specs.Histories.{past}
use Rattle.exporter.specs.Stores.{IsCacheOf}
use Rattle.measure.proofs.pages.measure_counted.Given as goal

abbrev pub invariant-loop-time : goal.invariant-loop-time
invariant-loop-time g l = IsCacheOf (past l.store.history) l.cache
