use Rattle.plain_cells.proofs.ReadableLemmas.{unset_read, empty_set_readable, empty_list_readable}
use Rattle.plain_cells.proofs.laws.marks_are_readable.Goals as goal

pub returns : goal.returns
returns c = record {
  unset = λ marks kind is. unset_read marks kind c.args.raw.now is;
  empty_set = λ marks elem is. empty_set_readable marks elem c.args.raw.now is;
  empty_list = λ marks elem is. empty_list_readable marks elem c.args.raw.now is;
}
