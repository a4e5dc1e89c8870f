use Rattle.std.proofs.Common.{◌≡◌, ◌<◌, ◌++◌, ℕ, List, Option, None, Some, length, map, replicate, slice_get, ap, sym, ◌∙◌, subst}
use Rattle.vast_value.specs.declared.cell.Cell.{Cell}
use Rattle.column_index.specs.Stands.{Stands}
use Rattle.std.specs.List.{list_any}
use Rattle.std.proofs.Common.{false}
use Rattle.partition.specs.declared.index.PlacedColumn.{PlacedColumn}
use Rattle.partition.specs.Columns.{Place, column_cells, same_place}
use Rattle.partition.specs.Indexes.{place_in, places_of}
use Rattle.partition.proofs.BuildLemmas.{got_map, placed_same}
use Rattle.partition.proofs.MergeLemmas.{cells_more, no_cells}
use Rattle.partition.proofs.merging.behind.Goals as goal

pub returns-in_ok-grown-in-Some-clause-cells : goal.returns-in_ok-grown-in-Some-clause-cells
returns-in_ok-grown-in-Some-clause-cells c = λ events more index stands.
    let p = place_in c.args.like.now in
    let columns = c.args.index.now.columns.items in
    let col = c.index.result.now in
    let at = c.in-Some.at in
    let same : c.deref.result.now ≡ columns = c.deref.ensures.value in
    let there : at < length columns = subst (λ (cs : List PlacedColumn). at < length cs) same c.in-Some.ensures.0 in
    let got : slice_get (map place_in columns) at ≡ Some p = subst (λ (cs : List PlacedColumn). slice_get (map place_in cs) at ≡ Some p) same c.in-Some.ensures.1 in
    let place : place_in col ≡ p = placed_same (place_in col) p (slice_get (map place_in columns) at) (got_map place_in columns at col there c.index.ensures) got in
    let behind : Stands col.column (column_cells p more) =
    subst (λ (q : Place). Stands col.column (column_cells q more)) place (index.columns at col there c.index.ensures) in
    subst (λ (cells : List (Option Cell)). Stands c.in_ok-grown-in-Some.grown cells) (sym (cells_more p events more))
    (c.in_ok-grown-in-Some.ensures.cells (column_cells p events) (column_cells p more) stands behind)

pub returns-in_ok-grown-in-None-clause-cells : goal.returns-in_ok-grown-in-None-clause-cells
returns-in_ok-grown-in-None-clause-cells c = λ events more index stands.
    let p = place_in c.args.like.now in
    let none : column_cells p more ≡ replicate (length more) None = no_cells p (places_of c.args.index.now.columns.items) more index.covers
    (subst (λ (cs : List PlacedColumn). list_any (same_place p) (map place_in cs) ≡ false) c.deref.ensures.value c.in-None.ensures) in
    subst (λ (cells : List (Option Cell)). Stands c.in_ok-grown-in-None.grown cells)
    (ap (λ (n : ℕ). column_cells p events ++ replicate n None) index.rows
    ∙ ap (λ (cells : List (Option Cell)). column_cells p events ++ cells) (sym none)
    ∙ sym (cells_more p events more))
    (c.in_ok-grown-in-None.ensures.cells (column_cells p events) stands)
