use Rattle.event_batch.proofs.PackingLemmas.{heading_refused, heading_taken}
use Rattle.event_batch.proofs.reading.layout_at.Goals as goal

pub returns-in-Err : goal.returns-in-Err
returns-in-Err c = heading_refused _ _ _ _ _ _ _ _ c.in_ok-path.ensures.read c.in_ok-count.ensures c.in_ok-columns.ensures c.in-Err.ensures.fault

pub returns-in-Ok : goal.returns-in-Ok
returns-in-Ok c = heading_taken _ _ _ _ _ _ _ c.in-Ok.layout c.in_ok-path.ensures.read c.in_ok-count.ensures c.in_ok-columns.ensures c.in-Ok.ensures.fault c.in-Ok.ensures.made.0 c.in-Ok.ensures.made.1
