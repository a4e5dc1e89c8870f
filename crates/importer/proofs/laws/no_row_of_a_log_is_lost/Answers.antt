use Rattle.importer.proofs.LawLemmas.{input_kept, source_kept}
use Rattle.importer.proofs.laws.no_row_of_a_log_is_lost.Goals as goal

pub returns-clause-bytes : goal.returns-clause-bytes
returns-clause-bytes c = input_kept

pub returns-clause-source : goal.returns-clause-source
returns-clause-source c = source_kept
