use Rattle.std.proofs.Common.{ap, ◌∙◌}
use Rattle.vast_value.specs.declared.kind.Elem.TheVariants as elem
use Rattle.vast_value.specs.declared.kind.Kind.TheVariants as kind
use Rattle.bits_law.specs.Keys.{meets}
use Rattle.column_index.specs.declared.asked.Asked.{Asked}
use Rattle.column_index.specs.Asked.{asked_test}
use Rattle.column_index.specs.Columns.{flag_key}
use Rattle.column_index.proofs.AskedLemmas.{flags_sure, flags_maybe}
use Rattle.column_index.proofs.PairLemmas.{exact_answers}
use Rattle.column_index.proofs.kept.Flags.ask.Goals as goal

pub returns : goal.returns
returns c = λ cells are s. exact_answers c.in_ok-pair.pair c.in_ok-rows.rows c.args.rel c.args.literal.now (kind.One elem.Bool) cells
    (λ x. meets (asked_test c.flags_asked.result) (flag_key x)) c.in_ok-pair.ensures.sure c.in_ok-pair.ensures.maybe are
    (c.in_ok-rows.ensures cells s)
    (λ x h. ap (λ (a : Asked). meets (asked_test a) (flag_key x)) c.flags_asked.ensures.value ∙ flags_sure c.args.rel c.args.literal.now x h)
    (λ x h. ap (λ (a : Asked). meets (asked_test a) (flag_key x)) c.flags_asked.ensures.value ∙ flags_maybe c.args.rel c.args.literal.now x h)
