use Rattle.std.proofs.Common.{◌≡◌, ◌<◌, ◌++◌, ◌∷◌, [], ℕ, List, length, map, ap, ◌∙◌, arith, subst, sym, slice_index_or}
use Rattle.vast_value.specs.declared.column.Column.{Column}
use Rattle.column_index.specs.Stands.{Stands}
use Rattle.partition.specs.Building.{cell_at}
use Rattle.partition.specs.Indexes.{places_of}
use Rattle.partition.specs.declared.index.PlacedColumn.{PlacedColumn}
use Rattle.partition.proofs.BuildLemmas.{more_cells, more_places, places_length}
use Rattle.partition.proofs.building.columns_of.Goals as goal

pub loop-at-preserved : goal.loop-at-preserved
loop-at-preserved c =
    let path = c.args.layout.now.path in
    let columns = c.args.layout.now.columns in
    let at = c.loop-at.at in
    let col = c.index-all-at.result in
    let p = c.in_ok-column.column in
    let same : c.columns-all.result.now ≡ columns = c.columns-all.ensures in
    let there : at < length columns = omega (arith, c.loop-at-test.true, ap (λ (xs : List Column). length xs) same) in
    let found : col ≡ slice_index_or columns at col = c.index-all-at.is ∙ ap (λ (xs : List Column). slice_index_or xs at col) same in
    let items : c.push.new.self.items ≡ c.loop-at.columns.items ++ p ∷ [] = c.in_ok-push.ensures.items in
    let count : length c.loop-at.columns.items ≡ at = places_length path columns c.loop-at.columns.items at (omega (arith, there)) c.loop-at.invariant.places in
    record {
      places = ap (λ (xs : List PlacedColumn). places_of xs) items ∙ more_places path columns c.loop-at.columns.items p at col there found c.loop-at.invariant.places c.in_ok-column.ensures.place;
      cells =
          subst (λ (xs : List PlacedColumn). (i : ℕ) (d : PlacedColumn) → i < length xs → d ≡ slice_index_or xs i d → Stands d.column (map (cell_at i) c.args.rows.now)) (sym items)
          (more_cells c.args.rows.now c.loop-at.columns.items p at count c.loop-at.invariant.cells c.in_ok-column.ensures.cells);
    }
