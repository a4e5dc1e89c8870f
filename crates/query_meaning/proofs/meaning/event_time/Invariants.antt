use Rattle.std.proofs.Common.{◌≡◌, map, drop}
use Rattle.vast_value.specs.Headings.{field_of}
use Rattle.query_meaning.specs.Meaning.{event_time}
use Rattle.query_meaning.proofs.meaning.event_time.Given as goal

abbrev pub invariant-loop-at : goal.invariant-loop-at
invariant-loop-at l = event_time (map field_of (drop l.at l.columns)) (drop l.at l.cells) ≡ event_time (map field_of l.columns) l.cells
