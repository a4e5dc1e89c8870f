use Rattle.std.proofs.Common.{true}
use Rattle.bits_law.specs.Numbers.{holds}
use Rattle.digit_index.specs.Digits.{Holds}
use Rattle.column_index.specs.Columns.{flag_key}
use Rattle.column_index.proofs.CoverLemmas.{covers_answers, never_met}
use Rattle.column_index.proofs.kept.Flags.rows.Goals as goal

pub returns-in-Never : goal.returns-in-Never
returns-in-Never c = λ cells s. rw c.in-Never.is (never_met flag_key c.empty.result cells c.empty.ensures)

pub returns-in_ok-rows-in-Set : goal.returns-in_ok-rows-in-Set
returns-in_ok-rows-in-Set c = λ cells s. rw c.in-Set.is
    (covers_answers (Holds c.args.self.now.index.coding c.args.self.now.index.bases c.args.self.now.index.table) flag_key (λ n. true) c.in_ok-rows-in-Set.rows cells s
    c.in_ok-rows-in-Set.ensures.keys)

pub returns-in_ok-rows-in-Ordered : goal.returns-in_ok-rows-in-Ordered
returns-in_ok-rows-in-Ordered c = λ cells s. rw c.in-Ordered.is
    (covers_answers (Holds c.args.self.now.index.coding c.args.self.now.index.bases c.args.self.now.index.table) flag_key (λ n. holds c.in-Ordered.order n c.in-Ordered.key) c.in_ok-rows-in-Ordered.rows cells s
    c.in_ok-rows-in-Ordered.ensures.keys)
