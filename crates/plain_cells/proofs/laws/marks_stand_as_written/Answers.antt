use Rattle.plain_cells.proofs.OwnTextLemmas.{dash_own, empty_set_own, empty_list_own}
use Rattle.plain_cells.proofs.laws.marks_stand_as_written.Goals as goal

pub returns : goal.returns
returns c = record { unset = dash_own; empty_set = empty_set_own; empty_list = empty_list_own }
