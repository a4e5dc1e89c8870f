use Rattle.std.proofs.Common.{◌≡◌, ◌-◌}
use Rattle.event_batch.specs.Places.{behind_fields}
use Rattle.event_batch.proofs.place.behind_columns.Given as goal

abbrev pub invariant-loop : goal.invariant-loop
invariant-loop l = behind_fields (l.count - l.counter) l.rest ≡ behind_fields l.count l.bytes
