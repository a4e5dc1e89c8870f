use Rattle.std.proofs.Common.{◌≡◌, ◌++◌, map, take}
use Rattle.std.specs.List.{flat_map}
use Rattle.vast_value.specs.Headings.{field_of}
use Rattle.event_batch.specs.Spelling.{field_bytes}
use Rattle.event_batch.proofs.writing.put_columns.Given as goal

abbrev pub invariant-loop-column : goal.invariant-loop-column
invariant-loop-column l = l.out.items ≡ l.initial.out.items ++ flat_map field_bytes (map field_of (take l.column-index l.columns))
