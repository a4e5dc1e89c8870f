use Rattle.std.proofs.Common.{not, eqb}
use Rattle.address_index.specs.Addresses.{Holds, within}
use Rattle.column_index.specs.Columns.{address_key}
use Rattle.column_index.proofs.CoverLemmas.{covers_answers, never_met, others_answers}
use Rattle.column_index.proofs.kept.Addresses.rows.Goals as goal

pub returns-in-Never : goal.returns-in-Never
returns-in-Never c = λ cells s. rw c.in-Never.is (never_met address_key c.empty.result cells c.empty.ensures)

pub returns-in_ok-rows-in-Equal : goal.returns-in_ok-rows-in-Equal
returns-in_ok-rows-in-Equal c = λ cells s. rw c.in-Equal.is
    (covers_answers (Holds c.args.self.now.index.table) address_key (λ k. eqb k c.in-Equal.address) c.in_ok-rows-in-Equal.rows cells s
    c.in_ok-rows-in-Equal.ensures.keys)

pub returns-in_ok-others-in-Differs : goal.returns-in_ok-others-in-Differs
returns-in_ok-others-in-Differs c = λ cells s. rw c.in-Differs.is
    (covers_answers (Holds c.args.self.now.index.table) address_key (λ k. not (eqb k c.in-Differs.address)) c.in_ok-others-in-Differs.others cells s
    (λ held h. others_answers (λ k. eqb k c.in-Differs.address) held c.in_ok-set-in-Differs.set c.in_ok-rows-in-Differs.rows c.in_ok-others-in-Differs.others c.in_ok-others-in-Differs.ensures (c.in_ok-set-in-Differs.ensures.keys held h) (c.in_ok-rows-in-Differs.ensures.keys held h)))

pub returns-in_ok-rows-in-Within : goal.returns-in_ok-rows-in-Within
returns-in_ok-rows-in-Within c = λ cells s. rw c.in-Within.is
    (covers_answers (Holds c.args.self.now.index.table) address_key (within c.in-Within.net.base c.in-Within.net.bits) c.in_ok-rows-in-Within.rows cells s
    c.in_ok-rows-in-Within.ensures.keys)
