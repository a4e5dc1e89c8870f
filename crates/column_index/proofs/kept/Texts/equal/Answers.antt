use Rattle.std.proofs.Common.{leb, ◌&&◌, length}
use Rattle.string_index.specs.Texts.{Holds, same_start}
use Rattle.column_index.specs.Columns.{text_key}
use Rattle.column_index.proofs.CoverLemmas.{covers_answers}
use Rattle.column_index.proofs.kept.Texts.equal.Goals as goal

pub returns-clause-sure : goal.returns-clause-sure
returns-clause-sure c = λ cells s.
    covers_answers (Holds c.args.self.now.index.table) text_key (λ key. same_start key c.args.text.now && leb (length c.args.text.now) 8) c.in_ok-pair.pair.0 cells s c.in_ok-pair.ensures.sure

pub returns-clause-maybe : goal.returns-clause-maybe
returns-clause-maybe c = λ cells s.
    covers_answers (Holds c.args.self.now.index.table) text_key (λ key. same_start key c.args.text.now) c.in_ok-pair.pair.1 cells s c.in_ok-pair.ensures.maybe
