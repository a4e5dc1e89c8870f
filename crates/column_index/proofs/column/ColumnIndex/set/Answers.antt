use Rattle.std.proofs.Common.{◌≡◌, false, ◌-◌, length, replicate, ap, ◌∙◌, arith}
use Rattle.std.proofs.lemmas.List.{length-append, length-replicate}
use Rattle.bits_law.specs.Keys.{padded}
use Rattle.column_index.proofs.ColumnLemmas.{set_cells, has_length}
use Rattle.column_index.proofs.column.ColumnIndex.set.Goals as goal

pub returns-clause-rows : goal.returns-clause-rows
returns-clause-rows c =
    let wide : length c.in_ok-rows.rows ≡ length (padded false c.in_ok-set.set c.len.result) = ap length c.in_ok-rows.ensures in
    let rows : c.len.result ≡ length c.args.self.now.has = c.len.ensures.value in
    omega (arith, wide, rows, c.args.self.now.behind, c.in_ok-set.ensures.rows, length-append c.in_ok-set.set (replicate (c.len.result - length c.in_ok-set.set) false), length-replicate (c.len.result - length c.in_ok-set.set) false)

pub returns-clause-cells : goal.returns-clause-cells
returns-clause-cells c = λ cells s.
    c.in_ok-rows.ensures ∙ ap (padded false c.in_ok-set.set) (c.len.ensures.value ∙ has_length c.args.self.now.has cells s.has) ∙ c.in_ok-set.ensures.cells cells s.keys
    ∙ set_cells c.args.self.now.kind c.args.self.now.keys cells c.args.self.now.made s.kinds
