use Rattle.std.proofs.Common.{◌≡◌, map, drop}
use Rattle.vast_value.specs.Headings.{field_of}
use Rattle.event_batch.specs.Reading.{row_at}
use Rattle.event_batch.proofs.LoopLemmas.{with_front}
use Rattle.event_batch.proofs.reading.row_at.Given as goal

abbrev pub invariant-loop-column : goal.invariant-loop-column
invariant-loop-column l = with_front l.row (row_at l.format (map field_of (drop l.column-index l.columns)) l.rest) ≡ row_at l.format (map field_of l.columns) l.bytes
