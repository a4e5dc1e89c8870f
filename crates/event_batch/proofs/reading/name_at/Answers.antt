use Rattle.event_batch.proofs.LoopLemmas.{text_is_short}
use Rattle.event_batch.proofs.reading.name_at.Goals as goal

pub returns-clause-short : goal.returns-clause-short
returns-clause-short c = text_is_short (λ (r : _). r.now) c.text_at.result c.args.bytes.now c.text_at.ensures
