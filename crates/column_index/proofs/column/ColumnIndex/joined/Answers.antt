use Rattle.std.proofs.Common.{sym, ◌∙◌, subst}
use Rattle.vast_value.specs.declared.kind.Kind.{Kind}
use Rattle.column_index.specs.Columns.{AreOf}
use Rattle.column_index.proofs.ColumnLemmas.{has_more, are_more, has_length}
use Rattle.column_index.proofs.column.ColumnIndex.joined.Goals as goal

pub returns-clause-cells : goal.returns-clause-cells
returns-clause-cells c = λ cells more s m. record {
  has = c.in_ok-append.ensures ∙ has_more c.args.self.has c.args.other.now.has cells more s.has m.has;
  kinds = are_more c.args.self.kind cells more s.kinds (subst (λ (k : Kind). AreOf k more) c.requires.kind m.kinds);
  keys = c.in_ok-keys.ensures.stands cells more (sym (has_length c.args.self.has cells s.has) ∙ sym c.len-rows.ensures.value) s.keys m.keys;
}
