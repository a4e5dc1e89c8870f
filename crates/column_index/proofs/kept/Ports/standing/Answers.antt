use Rattle.std.proofs.Common.{eqb, ◌&&◌, sym, ◌∙◌}
use Rattle.bits_law.specs.Keys.{meets}
use Rattle.bits_law.specs.Numbers.{holds}
use Rattle.digit_index.specs.Digits.{Holds}
use Rattle.column_index.specs.declared.asked.PortAsked.TheVariants.{Stands}
use Rattle.column_index.specs.Asked.{cell_port_test}
use Rattle.column_index.specs.Columns.{port_key, transport_key}
use Rattle.column_index.proofs.CoverLemmas.{covers_answers, everywhere, both_answers}
use Rattle.column_index.proofs.PortLemmas.{number_alone, number_and}
use Rattle.column_index.proofs.kept.Ports.standing.Goals as goal

pub returns-then-is : goal.returns-then-is
returns-then-is c = λ cells s.
    everywhere c.in_ok-rows.rows (λ x. meets (λ n. holds c.args.order n c.args.number) (port_key x)) (cell_port_test (Stands c.args.order c.args.number c.args.over)) cells
    (number_alone c.args.order c.args.number c.args.over (sym c.is.ensures ∙ c.if-is.true))
    (covers_answers (Holds c.args.self.now.numbers.coding c.args.self.now.numbers.bases c.args.self.now.numbers.table) port_key (λ n. holds c.args.order n c.args.number) c.in_ok-rows.rows cells s.numbers c.in_ok-rows.ensures.keys)

pub returns : goal.returns
returns c = λ cells s.
    everywhere c.in_ok-matched.matched (λ x. meets (λ n. holds c.args.order n c.args.number) (port_key x) && meets (λ n. eqb n c.code.result) (transport_key x)) (cell_port_test (Stands c.args.order c.args.number c.args.over)) cells
    (number_and c.args.order c.args.number c.args.over c.code.result c.code.ensures.code (sym c.is.ensures ∙ c.if-is.false))
    (both_answers c.in_ok-rows.rows c.in_ok-taken.taken c.in_ok-matched.matched (λ x. meets (λ n. holds c.args.order n c.args.number) (port_key x)) (λ x. meets (λ n. eqb n c.code.result) (transport_key x)) cells c.in_ok-matched.ensures.value c.in_ok-matched.ensures.even
    (covers_answers (Holds c.args.self.now.numbers.coding c.args.self.now.numbers.bases c.args.self.now.numbers.table) port_key (λ n. holds c.args.order n c.args.number) c.in_ok-rows.rows cells s.numbers c.in_ok-rows.ensures.keys)
    (covers_answers (Holds c.args.self.now.transports.coding c.args.self.now.transports.bases c.args.self.now.transports.table) transport_key (λ n. eqb n c.code.result) c.in_ok-taken.taken cells s.transports c.in_ok-taken.ensures.keys))
