use Rattle.std.proofs.Common.{sym}
use Rattle.vast_value.proofs.NetLemmas.{net_of_itself}
use Rattle.event_batch.proofs.reading.net_of.Goals as goal

pub returns : goal.returns
returns c = sym (net_of_itself _)
