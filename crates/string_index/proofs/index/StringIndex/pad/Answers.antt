use Rattle.bits_law.proofs.TableLemmas.{holds_gap}
use Rattle.string_index.specs.Texts.{text_bit, IsText}
use Rattle.string_index.proofs.index.StringIndex.pad.Goals as goal

pub returns-clause-keys : goal.returns-clause-keys
returns-clause-keys g c = λ keys h. holds_gap 72 text_bit IsText keys c.args.self.table _ c.args.rows h c.in_ok-pad.ensures.ok
