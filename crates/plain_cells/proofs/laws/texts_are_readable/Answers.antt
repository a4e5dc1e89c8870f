use Rattle.plain_cells.proofs.ReadableLemmas.{text_readable, name_readable, text_set_readable, name_set_readable, text_list_readable, name_list_readable}
use Rattle.plain_cells.proofs.laws.texts_are_readable.Goals as goal

pub returns : goal.returns
returns c = record {
  text = text_readable c.args.raw.now;
  name = name_readable c.args.raw.now;
  text_set = text_set_readable c.args.raw.now;
  name_set = name_set_readable c.args.raw.now;
  text_list = text_list_readable c.args.raw.now;
  name_list = name_list_readable c.args.raw.now;
}
