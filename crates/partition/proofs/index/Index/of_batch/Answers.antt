use Rattle.std.proofs.Common.{◌≡◌, ◌<◌, ◌++◌, ◌∷◌, [], List, length, map, ap, ◌∙◌, subst, ℕ, slice_index_or}
use Rattle.vast_value.specs.declared.cell.Cell.{Cell}
use Rattle.vast_value.specs.declared.column.Column.{Column}
use Rattle.vast_value.specs.declared.layout.Layout.{Layout}
use Rattle.vast_value.specs.Headings.{field_of}
use Rattle.column_index.specs.Stands.{Stands}
use Rattle.partition.specs.Building.{cell_at}
use Rattle.partition.specs.Columns.{place_of, time_among}
use Rattle.partition.specs.Indexes.{time_at}
use Rattle.partition.specs.declared.index.PlacedColumn.{PlacedColumn}
use Rattle.partition.specs.declared.index.Span.{Span}
use Rattle.partition.proofs.BuildLemmas.{batch_stands}
use Rattle.partition.proofs.index.Index.of_batch.Goals as goal

pub returns : goal.returns
returns c =
    let batch = c.args.batch.now in
    let columns = c.in_ok-columns.columns in
    let time = c.time_column-time.result in
    let layout : c.layout-layout.result.now ≡ batch.layout = c.layout-layout.ensures in
    let rows : c.rows.result.now ≡ batch.rows = c.rows.ensures in
    let again : c.rows-2.result.now ≡ batch.rows = c.rows-2.ensures in
    let path : c.in_ok-path.path ≡ batch.layout.path = c.in_ok-path.ensures ∙ c.path.ensures ∙ ap (λ (l : Layout). l.path) layout in
    let all : c.columns.result.now ≡ batch.layout.columns = c.columns.ensures ∙ ap (λ (l : Layout). l.columns) layout in
    let count : length c.rows-2.result.now ≡ length batch.rows = ap (λ (xs : List (List Cell)). length xs) again in
    batch_stands batch (record { rows = length c.rows-2.result.now; columns = columns; spans = c.push.new.self }) time count
    (c.in_ok-columns.ensures.places ∙ ap (λ (l : Layout). map (place_of l.path) (map field_of l.columns)) layout)
    (subst (λ (xs : List (List Cell)). (i : ℕ) (p : PlacedColumn) → i < length columns.items → p ≡ slice_index_or columns.items i p → Stands p.column (map (cell_at i) xs)) rows c.in_ok-columns.ensures.cells)
    (subst (λ (cs : List Column). (p : List ℕ) → time_among p (map field_of cs) ≡ time_at (map (place_of p) (map field_of cs)) time) all c.time_column-time.ensures)
    (c.in_ok-push.ensures.items
    ∙ ap (λ (xs : List Span). xs ++ record { path = c.in_ok-path.path; time = time; rows = length c.rows-2.result.now } ∷ []) c.new-spans.ensures.items
    ∙ ap (λ (p : List ℕ). record { path = p; time = time; rows = length c.rows-2.result.now } ∷ []) path
    ∙ ap (λ (n : ℕ). record { path = batch.layout.path; time = time; rows = n } ∷ []) count)
