use Rattle.std.proofs.Common.{◌≡◌, ◌-◌, map}
use Rattle.vast_value.specs.Headings.{field_of}
use Rattle.event_batch.specs.Reading.{row_at, many_at}
use Rattle.event_batch.proofs.LoopLemmas.{with_front}
use Rattle.event_batch.proofs.reading.many_rows_at.Given as goal

abbrev pub invariant-loop : goal.invariant-loop
invariant-loop l = with_front l.rows (many_at (row_at l.format (map field_of l.columns)) (l.count - l.counter) l.rest) ≡ many_at (row_at l.format (map field_of l.columns)) l.count l.bytes
