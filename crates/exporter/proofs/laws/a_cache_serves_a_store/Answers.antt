use Rattle.exporter.proofs.StoreLemmas.{serves}
use Rattle.exporter.proofs.laws.a_cache_serves_a_store.Goals as goal

pub returns : goal.returns
returns c = serves
