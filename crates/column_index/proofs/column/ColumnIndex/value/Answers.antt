use Rattle.std.proofs.Common.{false, ap, ◌∙◌}
use Rattle.bits_law.specs.Keys.{padded}
use Rattle.column_index.proofs.ColumnLemmas.{has_length}
use Rattle.column_index.proofs.column.ColumnIndex.value.Goals as goal

pub returns-clause-sure : goal.returns-clause-sure
returns-clause-sure c = λ cells s.
    c.in_ok-sure.ensures ∙ ap (padded false c.in_ok-pair.pair.sure) (c.len-rows.ensures.value ∙ has_length c.args.self.now.has cells s.has) ∙ (c.in_ok-pair.ensures cells s.kinds s.keys).sure

pub returns-clause-maybe : goal.returns-clause-maybe
returns-clause-maybe c = λ cells s.
    c.in_ok-maybe.ensures ∙ ap (padded false c.in_ok-pair.pair.maybe) (c.len-rows.ensures.value ∙ has_length c.args.self.now.has cells s.has) ∙ (c.in_ok-pair.ensures cells s.kinds s.keys).maybe
