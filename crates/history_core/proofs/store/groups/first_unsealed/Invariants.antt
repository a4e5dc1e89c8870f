use Rattle.history_core.specs.Searches.{AllSealed}
use Rattle.history_core.proofs.store.groups.first_unsealed.Given as goal

abbrev pub invariant-loop-at : goal.invariant-loop-at
invariant-loop-at l = AllSealed l.seals l.from l.at
