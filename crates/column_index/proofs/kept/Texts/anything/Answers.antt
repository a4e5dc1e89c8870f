use Rattle.std.proofs.Common.{true}
use Rattle.string_index.specs.Texts.{Holds}
use Rattle.column_index.specs.Columns.{text_key}
use Rattle.column_index.proofs.CoverLemmas.{covers_answers, never_met}
use Rattle.column_index.proofs.kept.Texts.anything.Goals as goal

pub returns-then-holds : goal.returns-then-holds
returns-then-holds c = λ cells s. rw c.if-holds.true
    (covers_answers (Holds c.args.self.now.index.table) text_key (λ key. true) c.in_ok-rows.rows cells s c.in_ok-rows.ensures.keys)

pub returns : goal.returns
returns c = λ cells s. rw c.if-holds.false (never_met text_key c.empty.result cells c.empty.ensures)
