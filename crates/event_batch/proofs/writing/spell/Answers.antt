use Rattle.event_batch.proofs.ContentLemmas.{batch_small}
use Rattle.event_batch.proofs.writing.spell.Goals as goal

pub put_rows-requires : goal.put_rows-requires
put_rows-requires c = rw c.rows-2.ensures (batch_small c.args.batch.now)
