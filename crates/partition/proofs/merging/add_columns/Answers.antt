use Rattle.std.proofs.Common.{◌≡◌, ◌<◌, List, length, ap, ◌∙◌, arith, slice_index_or}
use Rattle.partition.specs.declared.index.PlacedColumn.{PlacedColumn}
use Rattle.partition.specs.Indexes.{places_of}
use Rattle.partition.proofs.MergeLemmas.{within_more}
use Rattle.partition.proofs.merging.add_columns.Goals as goal

pub loop-column-preserved : goal.loop-column-preserved
loop-column-preserved c =
    let columns = c.args.index.now.columns.items in
    let i = c.loop-column.column-index in
    let col = c.column-item.result in
    let same = c.deref-column-items.ensures.value in
    let there : i < length columns = omega (arith, c.loop-column-test.true, ap (λ (xs : List PlacedColumn). length xs) same) in
    let found : col ≡ slice_index_or columns i col = c.column-item.is ∙ ap (λ (xs : List PlacedColumn). slice_index_or xs i col) same in
    record {
      cells = λ each. c.in_ok-add_column.ensures.cells (c.loop-column.invariant.cells each);
      keeps = λ p any. c.in_ok-add_column.ensures.keeps p (c.loop-column.invariant.keeps p any);
      adds = within_more columns i col (places_of c.loop-column.columns.items) (places_of c.add_column.new.columns.items) there found c.loop-column.invariant.adds
          c.in_ok-add_column.ensures.keeps c.in_ok-add_column.ensures.adds;
    }
