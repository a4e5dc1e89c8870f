-- No column so far is named `proto`.
use Rattle.std.proofs.Common.{◌≡◌, map, drop}
use Rattle.vast_value.specs.Headings.{field_of}
use Rattle.importer.specs.Carrying.{protocol_from}
use Rattle.importer.proofs.carrying.named_place.Given as goal

abbrev pub invariant-loop-at : goal.invariant-loop-at
invariant-loop-at l = protocol_from 0 (map field_of l.columns) ≡ protocol_from l.at (map field_of (drop l.at l.columns))
