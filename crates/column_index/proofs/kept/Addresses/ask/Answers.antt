use Rattle.std.proofs.Common.{ap, ◌∙◌}
use Rattle.vast_value.specs.declared.kind.Elem.TheVariants as elem
use Rattle.vast_value.specs.declared.kind.Kind.TheVariants as kind
use Rattle.bits_law.specs.Keys.{meets}
use Rattle.column_index.specs.declared.asked.AddressAsked.{AddressAsked}
use Rattle.column_index.specs.Asked.{address_test}
use Rattle.column_index.specs.Columns.{address_key}
use Rattle.column_index.proofs.AskedLemmas.{address_sure, address_maybe}
use Rattle.column_index.proofs.PairLemmas.{exact_answers}
use Rattle.column_index.proofs.kept.Addresses.ask.Goals as goal

pub returns : goal.returns
returns c = λ cells are s. exact_answers c.in_ok-pair.pair c.in_ok-rows.rows c.args.rel c.args.literal.now (kind.One elem.Addr) cells
    (λ x. meets (address_test c.address_asked.result) (address_key x)) c.in_ok-pair.ensures.sure c.in_ok-pair.ensures.maybe are
    (c.in_ok-rows.ensures cells s)
    (λ x h. ap (λ (a : AddressAsked). meets (address_test a) (address_key x)) c.address_asked.ensures ∙ address_sure c.args.rel c.args.literal.now x h)
    (λ x h. ap (λ (a : AddressAsked). meets (address_test a) (address_key x)) c.address_asked.ensures ∙ address_maybe c.args.rel c.args.literal.now x h)
