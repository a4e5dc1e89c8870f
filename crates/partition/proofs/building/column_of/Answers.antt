use Rattle.std.proofs.Common.{◌≡◌, List, Option, true, length, map, take, ap, ◌∙◌, arith, subst, slice_index_or}
use Rattle.vast_value.specs.declared.cell.Cell.{Cell}
use Rattle.vast_value.specs.declared.kind.Kind.{Kind}
use Rattle.vast_value.specs.Kinds.{has_kind}
use Rattle.column_index.specs.Stands.{Stands}
use Rattle.partition.specs.Building.{cell_at, has_cell}
use Rattle.partition.proofs.BuildLemmas.{cell_kind, cell_there, next_cell, row_has}
use Rattle.partition.proofs.building.column_of.Goals as goal

pub offset_bounds-cells-at : goal.offset_bounds-cells-at
offset_bounds-cells-at c =
    let kind = c.args.kind in
    let r = c.index-rows-row.result in
    let has : has_cell kind c.args.at r ≡ true = row_has kind c.args.at c.args.rows.now c.loop-row.row r c.requires c.loop-row-test.true c.index-rows-row.is in
    omega (arith, cell_there kind c.args.at r has, ap (λ (xs : List Cell). length xs) c.as_slice-cells.ensures)

pub bounds-cells-at : goal.bounds-cells-at
bounds-cells-at c =
    let kind = c.args.kind in
    let r = c.index-rows-row.result in
    let has : has_cell kind c.args.at r ≡ true = row_has kind c.args.at c.args.rows.now c.loop-row.row r c.requires c.loop-row-test.true c.index-rows-row.is in
    omega (arith, cell_there kind c.args.at r has, ap (λ (xs : List Cell). length xs) c.as_slice-cells.ensures)

pub put-requires-clause-kind : goal.put-requires-clause-kind
put-requires-clause-kind c =
    let kind = c.args.kind in
    let r = c.index-rows-row.result in
    let x = c.index-cells-at.result in
    let has : has_cell kind c.args.at r ≡ true = row_has kind c.args.at c.args.rows.now c.loop-row.row r c.requires c.loop-row-test.true c.index-rows-row.is in
    let found : x ≡ slice_index_or r c.args.at x = c.index-cells-at.is ∙ ap (λ (xs : List Cell). slice_index_or xs c.args.at x) c.as_slice-cells.ensures in
    ap (λ (k : Kind). has_kind x k) c.loop-row.invariant.kind ∙ cell_kind kind c.args.at r x has found

pub loop-row-preserved : goal.loop-row-preserved
loop-row-preserved c =
    let kind = c.args.kind in
    let at = c.args.at in
    let row = c.loop-row.row in
    let rows = c.args.rows.now in
    let r = c.index-rows-row.result in
    let x = c.index-cells-at.result in
    let has : has_cell kind at r ≡ true = row_has kind at rows row r c.requires c.loop-row-test.true c.index-rows-row.is in
    let found : x ≡ slice_index_or r at x = c.index-cells-at.is ∙ ap (λ (xs : List Cell). slice_index_or xs at x) c.as_slice-cells.ensures in
    let next = next_cell at row rows r x c.loop-row-test.true c.index-rows-row.is (cell_there kind at r has) found in
    record {
      stands = subst (λ (cells : List (Option Cell)). Stands c.put.new.self cells) next (c.in-Ok.ensures.cells (map (cell_at at) (take row rows)) c.loop-row.invariant.stands);
      kind = c.in-Ok.ensures.kind ∙ c.loop-row.invariant.kind;
      rows = c.in-Ok.ensures.rows;
    }
