use Rattle.std.proofs.Common.{Bool, true, ◌++◌, ◌≤◌, List, length, replicate, refl, ap, ◌∙◌, arith}
use Rattle.column_index.proofs.ColumnLemmas.{has_cell, are_put, has_length}
use Rattle.column_index.proofs.column.ColumnIndex.grow.Goals as goal

pub returns-clause-cells : goal.returns-clause-cells
returns-clause-cells c = λ cells s.
    let long : length cells ≤ c.args.row = omega (arith, has_length c.args.self.now.has cells s.has, c.requires.after) in
    record {
      has = c.push.ensures ∙ ap (λ (bits : List Bool). bits ++ replicate 1 true) c.in_ok-reach.ensures.ok ∙ has_cell c.args.self.now.has cells _ c.args.row c.args.cell.now s.has refl;
      kinds = are_put c.args.self.now.kind cells c.args.row c.args.cell.now c.requires.kind c.ranged_cell.ensures s.kinds;
      keys = c.in_ok-put.ensures.stands cells long s.keys;
    }
