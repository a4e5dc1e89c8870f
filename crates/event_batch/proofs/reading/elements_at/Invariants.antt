use Rattle.std.proofs.Common.{◌≡◌, ◌-◌}
use Rattle.event_batch.specs.Reading.{element_at, many_at}
use Rattle.event_batch.proofs.LoopLemmas.{with_front}
use Rattle.event_batch.proofs.reading.elements_at.Given as goal

abbrev pub invariant-loop : goal.invariant-loop
invariant-loop l = with_front l.items (many_at (element_at l.format l.elem) (l.count - l.counter) l.rest) ≡ many_at (element_at l.format l.elem) l.count l.bytes
