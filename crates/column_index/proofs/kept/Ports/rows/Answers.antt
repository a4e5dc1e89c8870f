use Rattle.std.proofs.Common.{true, false, not, ◌&&◌}
use Rattle.bits_law.specs.Keys.{meets}
use Rattle.bits_law.specs.declared.slices.Order.TheVariants as order
use Rattle.digit_index.specs.Digits.{Holds}
use Rattle.column_index.specs.declared.asked.PortAsked.TheVariants.{Never, Stands, Differs}
use Rattle.column_index.specs.Asked.{cell_port_test}
use Rattle.column_index.specs.Columns.{port_key}
use Rattle.column_index.proofs.CoverLemmas.{covers_answers, everywhere, none_answers, without_answers}
use Rattle.column_index.proofs.PortLemmas.{never_port, not_standing}
use Rattle.column_index.proofs.kept.Ports.rows.Goals as goal

pub returns-in-Never : goal.returns-in-Never
returns-in-Never c = λ cells s. rw c.in-Never.is (everywhere c.empty.result (λ x. false) (cell_port_test Never) cells never_port (none_answers c.empty.result cells c.empty.ensures))

pub returns-in_ok-others-in-Differs : goal.returns-in_ok-others-in-Differs
returns-in_ok-others-in-Differs c = λ cells s. rw c.in-Differs.is
    (everywhere c.in_ok-others-in-Differs.others (λ x. meets (λ n. true) (port_key x) && not (cell_port_test (Stands order.Eq c.in-Differs.number c.in-Differs.over) x)) (cell_port_test (Differs c.in-Differs.number c.in-Differs.over)) cells
    (not_standing c.in-Differs.number c.in-Differs.over)
    (without_answers c.in_ok-set-in-Differs.set c.in_ok-rows-in-Differs.rows c.in_ok-others-in-Differs.others (λ x. meets (λ n. true) (port_key x)) (cell_port_test (Stands order.Eq c.in-Differs.number c.in-Differs.over)) cells c.in_ok-others-in-Differs.ensures.value c.in_ok-others-in-Differs.ensures.even
    (covers_answers (Holds c.args.self.now.numbers.coding c.args.self.now.numbers.bases c.args.self.now.numbers.table) port_key (λ n. true) c.in_ok-set-in-Differs.set cells s.numbers c.in_ok-set-in-Differs.ensures.keys)
    (c.in_ok-rows-in-Differs.ensures cells s)))
