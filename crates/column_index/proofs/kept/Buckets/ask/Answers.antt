use Rattle.std.proofs.Common.{◌≡◌, ℕ, true, false, ap, sym, ◌∙◌}
use Rattle.vast_value.specs.declared.kind.Elem.{Elem}
use Rattle.vast_value.specs.declared.kind.Kind.TheVariants as kind
use Rattle.vast_value.specs.Kinds.{elem_of}
use Rattle.bits_law.specs.Keys.{meets}
use Rattle.set_index.specs.Buckets.{Holds, takes}
use Rattle.query_meaning.specs.declared.expr.Literal.TheVariants.{Of}
use Rattle.query_meaning.specs.Relations.{goes_with}
use Rattle.query_meaning.specs.SureCells.{sure_cell, maybe_cell}
use Rattle.column_index.specs.Asked.{is_contains}
use Rattle.column_index.specs.Columns.{bucket_key}
use Rattle.column_index.proofs.BucketLemmas.{never_sure, bucket_maybe, elements_unmet, relation_unmet, contains_is}
use Rattle.column_index.proofs.CoverLemmas.{answered, none_answered, covers_answers}
use Rattle.column_index.proofs.PairLemmas.{unmet_answers}
use Rattle.column_index.proofs.kept.Buckets.ask.Goals as goal

pub returns-then-not-goes_with : goal.returns-then-not-goes_with
returns-then-not-goes_with c =
    let apart : goes_with (elem_of c.args.literal.now) c.args.elem ≡ false = ap (λ (e : Elem). goes_with e c.args.elem) (sym c.elem.ensures) ∙ sym c.goes_with.ensures ∙ c.if-not-goes_with.true in
    λ cells are s. unmet_answers c.nothing.result c.args.rel c.args.literal.now (kind.SetOf c.args.elem) cells c.nothing.ensures.sure c.nothing.ensures.maybe are
    (elements_unmet c.args.rel c.args.literal.now c.args.elem apart)

pub returns-then-not-is_contains : goal.returns-then-not-is_contains
returns-then-not-is_contains c =
    let other : is_contains c.args.rel ≡ false = sym c.is_contains.ensures ∙ c.if-not-is_contains.true in
    λ cells are s. unmet_answers c.nothing-then-not-is_contains.result c.args.rel c.args.literal.now (kind.SetOf c.args.elem) cells c.nothing-then-not-is_contains.ensures.sure c.nothing-then-not-is_contains.ensures.maybe are
    (relation_unmet c.args.rel c.args.literal.now c.args.elem other)

pub returns : goal.returns
returns c =
    let goes : goes_with (elem_of c.args.literal.now) c.args.elem ≡ true = ap (λ (e : Elem). goes_with e c.args.elem) (sym c.elem.ensures) ∙ sym c.goes_with.ensures ∙ c.if-not-goes_with.false in
    let contains = contains_is c.args.rel (sym c.is_contains.ensures ∙ c.if-not-is_contains.false) in
    λ cells are s. record {
      sure = none_answered c.empty-sure.result (sure_cell c.args.rel (Of c.args.literal.now)) (kind.SetOf c.args.elem) cells c.empty-sure.ensures are (never_sure c.args.rel c.args.literal.now c.args.elem);
      maybe = answered c.in_ok-maybe.maybe (λ x. meets (takes c.bucket-bucket.result) (bucket_key x)) (maybe_cell c.args.rel (Of c.args.literal.now)) (kind.SetOf c.args.elem) cells are
          (λ x h. ap (λ (b : ℕ). meets (takes b) (bucket_key x)) c.bucket-bucket.ensures.value ∙ bucket_maybe c.args.rel c.args.literal.now c.args.elem contains goes x h)
          (covers_answers (Holds c.args.self.now.index.table) bucket_key (takes c.bucket-bucket.result) c.in_ok-maybe.maybe cells s c.in_ok-maybe.ensures.keys);
    }
