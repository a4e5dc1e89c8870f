use Rattle.std.proofs.Common.{◌≡◌, ◌-◌, map}
use Rattle.vast_value.specs.Headings.{field_of}
use Rattle.event_batch.specs.Reading.{field_at, many_at}
use Rattle.event_batch.proofs.LoopLemmas.{with_front}
use Rattle.event_batch.proofs.reading.columns_at.Given as goal

abbrev pub invariant-loop : goal.invariant-loop
invariant-loop l = with_front (map field_of l.columns) (many_at field_at (l.count - l.counter) l.rest) ≡ many_at field_at l.count l.bytes
