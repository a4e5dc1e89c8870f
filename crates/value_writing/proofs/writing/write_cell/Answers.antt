use Rattle.value_writing.proofs.WritingCells.{cell_again, cell_printable}
use Rattle.value_writing.proofs.writing.write_cell.Goals as goal

pub returns-then-is_err-clause-read_back : goal.returns-then-is_err-clause-read_back
returns-then-is_err-clause-read_back c = λ marks kind u h. cell_again marks kind c.args.cell.now u h c.ranged_cell.ensures

pub returns-else-is_err-clause-read_back : goal.returns-else-is_err-clause-read_back
returns-else-is_err-clause-read_back c = λ marks kind u h. cell_again marks kind c.args.cell.now u h c.ranged_cell.ensures

pub returns-then-is_err-clause-printable : goal.returns-then-is_err-clause-printable
returns-then-is_err-clause-printable c = cell_printable c.args.cell.now c.ranged_cell.ensures

pub returns-else-is_err-clause-printable : goal.returns-else-is_err-clause-printable
returns-else-is_err-clause-printable c = cell_printable c.args.cell.now c.ranged_cell.ensures
