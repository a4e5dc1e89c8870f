use Rattle.std.proofs.Common.{ap, ◌∙◌}
use Rattle.vast_value.specs.declared.kind.Elem.TheVariants as elem
use Rattle.vast_value.specs.declared.kind.Kind.TheVariants as kind
use Rattle.column_index.specs.declared.asked.PortAsked.{PortAsked}
use Rattle.column_index.specs.Asked.{cell_port_test}
use Rattle.column_index.proofs.AskedLemmas.{port_sure, port_maybe}
use Rattle.column_index.proofs.PairLemmas.{exact_answers}
use Rattle.column_index.proofs.kept.Ports.ask.Goals as goal

pub returns : goal.returns
returns c = λ cells are s. exact_answers c.in_ok-pair.pair c.in_ok-rows.rows c.args.rel c.args.literal.now (kind.One elem.Port) cells
    (cell_port_test c.port_asked.result) c.in_ok-pair.ensures.sure c.in_ok-pair.ensures.maybe are
    (c.in_ok-rows.ensures cells s)
    (λ x h. ap (λ (a : PortAsked). cell_port_test a x) c.port_asked.ensures ∙ port_sure c.args.rel c.args.literal.now x h)
    (λ x h. ap (λ (a : PortAsked). cell_port_test a x) c.port_asked.ensures ∙ port_maybe c.args.rel c.args.literal.now x h)
