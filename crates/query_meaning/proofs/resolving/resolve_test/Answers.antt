use Rattle.std.proofs.Common.{List, ap, map, ◌∙◌}
use Rattle.std.proofs.lemmas.Result.{IfOk-weaker}
use Rattle.vast_value.specs.declared.column.Column.{Column}
use Rattle.vast_value.specs.declared.kind.Elem.TheVariants.{Time}
use Rattle.vast_value.specs.Headings.{field_of, heading_of}
use Rattle.query_meaning.specs.Meaning.{is_of}
use Rattle.query_meaning.specs.declared.resolved.ResolvedTest.{ResolvedTest}
use Rattle.query_meaning.specs.Resolving.{IsTestOf, columns_where}
use Rattle.query_meaning.proofs.ResolveLemmas.{kind_of, name_of, time_of}
use Rattle.query_meaning.proofs.resolving.resolve_test.Goals as goal

pub returns-in_ok-columns-in-OfKind : goal.returns-in_ok-columns-in-OfKind
returns-in_ok-columns-in-OfKind c =
    let found = c.in_ok-columns-in-OfKind.ensures ∙ ap (λ (cs : List Column). columns_where (λ f. is_of c.in-OfKind.elem f.kind) 0 (map field_of cs)) c.columns.ensures in
    IfOk-weaker c.on_columns.result _ (λ (r : ResolvedTest). IsTestOf (heading_of c.args.layout.now) c.args.test.now r)
    (λ r is. kind_of c.args.test.now (heading_of c.args.layout.now) c.in-OfKind.elem c.in_ok-columns-in-OfKind.columns r c.in-OfKind.is found is) c.on_columns.ensures

pub returns-in_ok-columns-in-Named : goal.returns-in_ok-columns-in-Named
returns-in_ok-columns-in-Named c =
    let found = rw c.as_slice.ensures at c.in_ok-columns-in-Named.ensures in
    IfOk-weaker c.on_columns-in-Named.result _ (λ (r : ResolvedTest). IsTestOf (heading_of c.args.layout.now) c.args.test.now r)
    (λ r is. name_of c.args.test.now (heading_of c.args.layout.now) c.in-Named.name c.in_ok-columns-in-Named.columns r c.in-Named.is found is) c.on_columns-in-Named.ensures

pub returns-in_ok-times-in-EventTime : goal.returns-in_ok-times-in-EventTime
returns-in_ok-times-in-EventTime c =
    let found = c.as_slice-in-EventTime.ensures ∙ c.in_ok-times-in-EventTime.ensures ∙ ap (λ (cs : List Column). columns_where (λ f. is_of Time f.kind) 0 (map field_of cs)) c.columns-in-EventTime.ensures in
    IfOk-weaker c.on_first.result _ (λ (r : ResolvedTest). IsTestOf (heading_of c.args.layout.now) c.args.test.now r)
    (λ r is. time_of c.args.test.now (heading_of c.args.layout.now) c.as_slice-in-EventTime.result.now r c.in-EventTime.is found is) c.on_first.ensures
