use Rattle.std.proofs.Common.{refl, ◌∙◌}
use Rattle.column_index.proofs.ColumnLemmas.{has_gap, are_gap}
use Rattle.column_index.proofs.KeysLemmas.{keys_gap}
use Rattle.column_index.proofs.column.ColumnIndex.pad.Goals as goal

pub returns-clause-cells : goal.returns-clause-cells
returns-clause-cells c = λ cells s. record {
  has = c.in_ok-reach.ensures.ok ∙ has_gap c.args.self.has cells _ c.args.rows s.has refl;
  kinds = are_gap c.args.self.kind cells c.args.rows s.kinds;
  keys = keys_gap c.args.self.keys cells c.args.rows s.keys;
}
