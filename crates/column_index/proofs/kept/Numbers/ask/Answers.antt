use Rattle.std.proofs.Common.{◌≡◌, true, false, ap, sym, ◌∙◌}
use Rattle.vast_value.specs.declared.kind.Elem.{Elem}
use Rattle.vast_value.specs.declared.kind.Elem.TheVariants as elem
use Rattle.vast_value.specs.declared.kind.Kind.TheVariants as kind
use Rattle.vast_value.specs.Kinds.{elem_of, elem_eq}
use Rattle.vast_value.proofs.KindLemmas.{elem_is}
use Rattle.bits_law.specs.Keys.{meets}
use Rattle.query_meaning.specs.Relations.{goes_with}
use Rattle.column_index.specs.declared.asked.Asked.{Asked}
use Rattle.column_index.specs.Asked.{asked_test, exactly, surely, maybe_so}
use Rattle.column_index.specs.Columns.{number_key, number_of}
use Rattle.column_index.proofs.KindLemmas.{unmet}
use Rattle.column_index.proofs.NumberLemmas.{numbers_sure, numbers_maybe, times_sure, times_maybe, no_network}
use Rattle.column_index.proofs.PairLemmas.{unmet_answers, pair_answers, exact_answers}
use Rattle.column_index.proofs.kept.Numbers.ask.Goals as goal

pub returns-then-not-goes_with : goal.returns-then-not-goes_with
returns-then-not-goes_with c =
    let apart : goes_with (elem_of c.args.literal.now) c.args.elem ≡ false = ap (λ (e : Elem). goes_with e c.args.elem) (sym c.elem.ensures) ∙ sym c.goes_with.ensures ∙ c.if-not-goes_with.true in
    λ cells are s. unmet_answers c.nothing.result c.args.rel c.args.literal.now (kind.One c.args.elem) cells c.nothing.ensures.sure c.nothing.ensures.maybe are
    (unmet c.args.rel c.args.literal.now c.args.elem (no_network c.args.elem c.requires) apart)

pub returns-then-is : goal.returns-then-is
returns-then-is c =
    let goes : goes_with (elem_of c.args.literal.now) c.args.elem ≡ true = ap (λ (e : Elem). goes_with e c.args.elem) (sym c.elem.ensures) ∙ sym c.goes_with.ensures ∙ c.if-not-goes_with.false in
    let time : c.args.elem ≡ elem.Time = elem_is c.args.elem elem.Time (sym c.is.ensures ∙ c.if-is.true) in
    let sure : c.surely.result ≡ surely c.args.rel (number_of c.args.literal.now) = c.surely.ensures ∙ ap (surely c.args.rel) c.number_of-key.ensures.value in
    let maybe : c.maybe_so.result ≡ maybe_so c.args.rel (number_of c.args.literal.now) = c.maybe_so.ensures ∙ ap (maybe_so c.args.rel) c.number_of-key.ensures.value in
    λ cells are s. pair_answers (record { sure = c.in_ok-sure.sure; maybe = c.in_ok-maybe.maybe }) c.args.rel c.args.literal.now (kind.One c.args.elem) cells
    (λ x. meets (asked_test c.surely.result) (number_key x)) (λ x. meets (asked_test c.maybe_so.result) (number_key x)) are
    (c.in_ok-sure.ensures cells s) (c.in_ok-maybe.ensures cells s)
    (λ x h. ap (λ (a : Asked). meets (asked_test a) (number_key x)) sure ∙ times_sure c.args.rel c.args.literal.now c.args.elem time goes c.number_of-key.ensures.ranged x h)
    (λ x h. ap (λ (a : Asked). meets (asked_test a) (number_key x)) maybe ∙ times_maybe c.args.rel c.args.literal.now c.args.elem time goes c.number_of-key.ensures.ranged x h)

pub returns : goal.returns
returns c =
    let goes : goes_with (elem_of c.args.literal.now) c.args.elem ≡ true = ap (λ (e : Elem). goes_with e c.args.elem) (sym c.elem.ensures) ∙ sym c.goes_with.ensures ∙ c.if-not-goes_with.false in
    let other : elem_eq c.args.elem elem.Time ≡ false = sym c.is.ensures ∙ c.if-is.false in
    let asked : c.exactly.result ≡ exactly c.args.rel (number_of c.args.literal.now) = c.exactly.ensures ∙ ap (exactly c.args.rel) c.number_of-key.ensures.value in
    λ cells are s. exact_answers c.in_ok-pair.pair c.in_ok-rows.rows c.args.rel c.args.literal.now (kind.One c.args.elem) cells
    (λ x. meets (asked_test c.exactly.result) (number_key x)) c.in_ok-pair.ensures.sure c.in_ok-pair.ensures.maybe are
    (c.in_ok-rows.ensures cells s)
    (λ x h. ap (λ (a : Asked). meets (asked_test a) (number_key x)) asked ∙ numbers_sure c.args.rel c.args.literal.now c.args.elem c.requires other goes c.number_of-key.ensures.ranged x h)
    (λ x h. ap (λ (a : Asked). meets (asked_test a) (number_key x)) asked ∙ numbers_maybe c.args.rel c.args.literal.now c.args.elem c.requires other goes c.number_of-key.ensures.ranged x h)
