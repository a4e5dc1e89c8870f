use Rattle.std.proofs.Common.{◌≡◌, ℕ, true, false, not, leb, min, ◌&&◌, List, length, ap, sym, ◌∙◌}
use Rattle.vast_value.specs.declared.kind.Elem.{Elem}
use Rattle.vast_value.specs.declared.kind.Kind.TheVariants as kind
use Rattle.vast_value.specs.Kinds.{elem_of}
use Rattle.bits_law.specs.Keys.{meets}
use Rattle.string_index.specs.Texts.{same_start, short_length}
use Rattle.query_meaning.specs.declared.expr.Rel.{Rel}
use Rattle.query_meaning.specs.declared.expr.Rel.TheVariants.{Eq, Ne, Contains}
use Rattle.query_meaning.specs.Relations.{goes_with}
use Rattle.query_meaning.specs.SureCells.{sure_text, maybe_text}
use Rattle.column_index.specs.Columns.{text_of, text_key}
use Rattle.column_index.proofs.KindLemmas.{unmet}
use Rattle.column_index.proofs.PairLemmas.{unmet_answers, pair_answers}
use Rattle.column_index.proofs.TextLemmas.{no_host, texts_sure, texts_maybe, texts_unmet, equal_sure, equal_maybe, differs_sure, differs_maybe, contains_sure, contains_maybe, is_equal, is_unequal, is_contains, never_sure, never_maybe}
use Rattle.column_index.proofs.kept.Texts.ask.Goals as goal

pub returns-then-not-goes_with : goal.returns-then-not-goes_with
returns-then-not-goes_with c =
    let apart : goes_with (elem_of c.args.literal.now) c.args.elem ≡ false = ap (λ (e : Elem). goes_with e c.args.elem) (sym c.elem.ensures) ∙ sym c.goes_with.ensures ∙ c.if-not-goes_with.true in
    λ cells are s. unmet_answers c.nothing.result c.args.rel c.args.literal.now (kind.One c.args.elem) cells c.nothing.ensures.sure c.nothing.ensures.maybe are
    (unmet c.args.rel c.args.literal.now c.args.elem (no_host c.args.elem c.requires) apart)

pub returns-in_ok-pair-in-Equal : goal.returns-in_ok-pair-in-Equal
returns-in_ok-pair-in-Equal c =
    let goes : goes_with (elem_of c.args.literal.now) c.args.elem ≡ true = ap (λ (e : Elem). goes_with e c.args.elem) (sym c.elem.ensures) ∙ sym c.goes_with.ensures ∙ c.if-not-goes_with.false in
    let text : c.text_of-text.result.now ≡ text_of c.args.literal.now = c.text_of-text.ensures in
    let rel : Eq ≡ c.args.rel = is_equal c.args.rel (sym c.text_asked.ensures ∙ c.in-Equal.is) in
    λ cells are s. pair_answers c.in_ok-pair-in-Equal.pair c.args.rel c.args.literal.now (kind.One c.args.elem) cells
    (λ x. meets (λ key. same_start key c.text_of-text.result.now && leb (length c.text_of-text.result.now) 8) (text_key x)) (λ x. meets (λ key. same_start key c.text_of-text.result.now) (text_key x)) are
    (c.in_ok-pair-in-Equal.ensures.sure cells s) (c.in_ok-pair-in-Equal.ensures.maybe cells s)
    (texts_sure c.args.rel c.args.literal.now c.args.elem c.requires goes (λ key. same_start key c.text_of-text.result.now && leb (length c.text_of-text.result.now) 8) (λ key. ap (λ (s : List ℕ). same_start key s && leb (length s) 8) text ∙ equal_sure (text_of c.args.literal.now) key ∙ ap (λ (r : Rel). sure_text r (text_of c.args.literal.now) key) rel))
    (texts_maybe c.args.rel c.args.literal.now c.args.elem c.requires goes (λ key. same_start key c.text_of-text.result.now) (λ key. ap (λ (s : List ℕ). same_start key s) text ∙ equal_maybe (text_of c.args.literal.now) key ∙ ap (λ (r : Rel). maybe_text r (text_of c.args.literal.now) key) rel))

pub returns-in_ok-pair-in-Differs : goal.returns-in_ok-pair-in-Differs
returns-in_ok-pair-in-Differs c =
    let goes : goes_with (elem_of c.args.literal.now) c.args.elem ≡ true = ap (λ (e : Elem). goes_with e c.args.elem) (sym c.elem.ensures) ∙ sym c.goes_with.ensures ∙ c.if-not-goes_with.false in
    let text : c.text_of-text.result.now ≡ text_of c.args.literal.now = c.text_of-text.ensures in
    let rel : Ne ≡ c.args.rel = is_unequal c.args.rel (sym c.text_asked.ensures ∙ c.in-Differs.is) in
    λ cells are s. pair_answers c.in_ok-pair-in-Differs.pair c.args.rel c.args.literal.now (kind.One c.args.elem) cells
    (λ x. meets (λ key. not (same_start key c.text_of-text.result.now)) (text_key x)) (λ x. meets (λ key. not (same_start key c.text_of-text.result.now && leb (length c.text_of-text.result.now) 8)) (text_key x)) are
    (c.in_ok-pair-in-Differs.ensures.sure cells s) (c.in_ok-pair-in-Differs.ensures.maybe cells s)
    (texts_sure c.args.rel c.args.literal.now c.args.elem c.requires goes (λ key. not (same_start key c.text_of-text.result.now)) (λ key. ap (λ (s : List ℕ). not (same_start key s)) text ∙ differs_sure (text_of c.args.literal.now) key ∙ ap (λ (r : Rel). sure_text r (text_of c.args.literal.now) key) rel))
    (texts_maybe c.args.rel c.args.literal.now c.args.elem c.requires goes (λ key. not (same_start key c.text_of-text.result.now && leb (length c.text_of-text.result.now) 8)) (λ key. ap (λ (s : List ℕ). not (same_start key s && leb (length s) 8)) text ∙ differs_maybe (text_of c.args.literal.now) key ∙ ap (λ (r : Rel). maybe_text r (text_of c.args.literal.now) key) rel))

pub returns-in_ok-pair-in-Contains : goal.returns-in_ok-pair-in-Contains
returns-in_ok-pair-in-Contains c =
    let goes : goes_with (elem_of c.args.literal.now) c.args.elem ≡ true = ap (λ (e : Elem). goes_with e c.args.elem) (sym c.elem.ensures) ∙ sym c.goes_with.ensures ∙ c.if-not-goes_with.false in
    let text : c.text_of-text.result.now ≡ text_of c.args.literal.now = c.text_of-text.ensures in
    let rel : Contains ≡ c.args.rel = is_contains c.args.rel (sym c.text_asked.ensures ∙ c.in-Contains.is) in
    λ cells are s. pair_answers c.in_ok-pair-in-Contains.pair c.args.rel c.args.literal.now (kind.One c.args.elem) cells
    (λ x. meets (λ key. leb (length c.text_of-text.result.now) 0) (text_key x)) (λ x. meets (λ key. leb (min (length c.text_of-text.result.now) 255) (short_length key)) (text_key x)) are
    (c.in_ok-pair-in-Contains.ensures.sure cells s) (c.in_ok-pair-in-Contains.ensures.maybe cells s)
    (texts_sure c.args.rel c.args.literal.now c.args.elem c.requires goes (λ key. leb (length c.text_of-text.result.now) 0) (λ key. ap (λ (s : List ℕ). leb (length s) 0) text ∙ contains_sure (text_of c.args.literal.now) key ∙ ap (λ (r : Rel). sure_text r (text_of c.args.literal.now) key) rel))
    (texts_maybe c.args.rel c.args.literal.now c.args.elem c.requires goes (λ key. leb (min (length c.text_of-text.result.now) 255) (short_length key)) (λ key. ap (λ (s : List ℕ). leb (min (length s) 255) (short_length key)) text ∙ contains_maybe (text_of c.args.literal.now) key ∙ ap (λ (r : Rel). maybe_text r (text_of c.args.literal.now) key) rel))

pub returns-in-Never : goal.returns-in-Never
returns-in-Never c =
    let goes : goes_with (elem_of c.args.literal.now) c.args.elem ≡ true = ap (λ (e : Elem). goes_with e c.args.elem) (sym c.elem.ensures) ∙ sym c.goes_with.ensures ∙ c.if-not-goes_with.false in
    let never = sym c.text_asked.ensures ∙ c.in-Never.is in
    λ cells are s. unmet_answers c.nothing-in-Never.result c.args.rel c.args.literal.now (kind.One c.args.elem) cells c.nothing-in-Never.ensures.sure c.nothing-in-Never.ensures.maybe are
    (texts_unmet c.args.rel c.args.literal.now c.args.elem c.requires goes (never_sure c.args.rel never) (never_maybe c.args.rel never))
