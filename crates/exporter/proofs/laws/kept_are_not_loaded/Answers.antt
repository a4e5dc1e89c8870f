use Rattle.exporter.proofs.CacheLemmas.{not_loaded}
use Rattle.exporter.proofs.laws.kept_are_not_loaded.Goals as goal

pub returns : goal.returns
returns c = not_loaded
