use Rattle.std.proofs.Common.{ap, ◌∙◌}
use Rattle.vast_value.specs.declared.kind.Elem.TheVariants as elem
use Rattle.vast_value.specs.declared.kind.Kind.TheVariants as kind
use Rattle.bits_law.specs.Keys.{meets}
use Rattle.column_index.specs.declared.asked.SubnetAsked.{SubnetAsked}
use Rattle.column_index.specs.Asked.{subnet_test}
use Rattle.column_index.specs.Columns.{subnet_key}
use Rattle.column_index.proofs.AskedLemmas.{subnet_sure, subnet_maybe}
use Rattle.column_index.proofs.PairLemmas.{exact_answers}
use Rattle.column_index.proofs.kept.Subnets.ask.Goals as goal

pub returns : goal.returns
returns c = λ cells are s. exact_answers c.in_ok-pair.pair c.in_ok-rows.rows c.args.rel c.args.literal.now (kind.One elem.Subnet) cells
    (λ x. meets (subnet_test c.subnet_asked.result) (subnet_key x)) c.in_ok-pair.ensures.sure c.in_ok-pair.ensures.maybe are
    (c.in_ok-rows.ensures cells s)
    (λ x h. ap (λ (a : SubnetAsked). meets (subnet_test a) (subnet_key x)) c.subnet_asked.ensures ∙ subnet_sure c.args.rel c.args.literal.now x h)
    (λ x h. ap (λ (a : SubnetAsked). meets (subnet_test a) (subnet_key x)) c.subnet_asked.ensures ∙ subnet_maybe c.args.rel c.args.literal.now x h)
