use Rattle.std.proofs.Common.{not, leb, ◌&&◌, length}
use Rattle.string_index.specs.Texts.{Holds, same_start}
use Rattle.column_index.specs.Columns.{text_key}
use Rattle.column_index.proofs.CoverLemmas.{covers_answers, others_answers}
use Rattle.column_index.proofs.kept.Texts.differs.Goals as goal

pub returns-clause-sure : goal.returns-clause-sure
returns-clause-sure c = λ cells s.
    covers_answers (Holds c.args.self.now.index.table) text_key (λ key. not (same_start key c.args.text.now)) c.in_ok-sure.sure cells s
    (λ held h. others_answers (λ key. same_start key c.args.text.now) held c.in_ok-set.set c.in_ok-pair.pair.1 c.in_ok-sure.sure c.in_ok-sure.ensures (c.in_ok-set.ensures.keys held h) (c.in_ok-pair.ensures.maybe held h))

pub returns-clause-maybe : goal.returns-clause-maybe
returns-clause-maybe c = λ cells s.
    covers_answers (Holds c.args.self.now.index.table) text_key (λ key. not (same_start key c.args.text.now && leb (length c.args.text.now) 8)) c.in_ok-maybe.maybe cells s
    (λ held h. others_answers (λ key. same_start key c.args.text.now && leb (length c.args.text.now) 8) held c.in_ok-set.set c.in_ok-pair.pair.0 c.in_ok-maybe.maybe c.in_ok-maybe.ensures (c.in_ok-set.ensures.keys held h) (c.in_ok-pair.ensures.sure held h))
