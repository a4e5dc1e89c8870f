use Rattle.std.proofs.Common.{◌≡◌, ◌<◌, false, true, List, length, ap, ◌∙◌, arith, sym, slice_index_or}
use Rattle.std.proofs.lemmas.List.{length-map}
use Rattle.query_meaning.specs.SureCells.{maybe_cell, sure_cell}
use Rattle.column_index.specs.Stands.{Stands}
use Rattle.partition.specs.Columns.{column_cells, picks}
use Rattle.partition.specs.Indexes.{place_in, places_of}
use Rattle.partition.specs.declared.index.PlacedColumn.{PlacedColumn}
use Rattle.partition.proofs.AskLemmas.{column_asked, column_passed, none_asked}
use Rattle.partition.proofs.ListLemmas.{index_map}
use Rattle.partition.proofs.index.Index.ask_columns.Goals as goal

pub loop-column-init : goal.loop-column-init
loop-column-init g c =
    let test = c.args.test.now in
    let places = places_of c.args.self.now.columns.items in
    record {
      sure = c.in_ok-all.ensures.sure ∙ none_asked test.pick (sure_cell test.rel test.literal) places g.events c.args.self.now.rows c.requires.rows;
      maybe = c.in_ok-all.ensures.maybe ∙ none_asked test.pick (maybe_cell test.rel test.literal) places g.events c.args.self.now.rows c.requires.rows;
    }

pub loop-column-preserved-then-not-picks : goal.loop-column-preserved-then-not-picks
loop-column-preserved-then-not-picks g c =
    let test = c.args.test.now in
    let columns = c.args.self.now.columns.items in
    let places = places_of columns in
    let i = c.loop-column.column-index in
    let col = c.column-item.result in
    let same = c.deref-column-items.ensures.value in
    let there : i < length columns = omega (arith, c.loop-column-test.true, ap (λ (xs : List PlacedColumn). length xs) same) in
    let found : col ≡ slice_index_or columns i col = c.column-item.is ∙ ap (λ (xs : List PlacedColumn). slice_index_or xs i col) same in
    let placed : place_in col ≡ slice_index_or places i (place_in col) = index_map place_in columns i col there found in
    let within : i < length places = omega (arith, there, length-map columns place_in) in
    let no : picks test.pick (place_in col) ≡ false = sym c.picks.ensures ∙ c.if-not-picks.true in
    record {
      sure = column_passed test.pick (sure_cell test.rel test.literal) places i (place_in col) g.events c.loop-column.all.sure within placed no c.loop-column.invariant.sure;
      maybe = column_passed test.pick (maybe_cell test.rel test.literal) places i (place_in col) g.events c.loop-column.all.maybe within placed no c.loop-column.invariant.maybe;
    }

pub loop-column-preserved : goal.loop-column-preserved
loop-column-preserved g c =
    let test = c.args.test.now in
    let columns = c.args.self.now.columns.items in
    let places = places_of columns in
    let i = c.loop-column.column-index in
    let col = c.column-item.result in
    let same = c.deref-column-items.ensures.value in
    let there : i < length columns = omega (arith, c.loop-column-test.true, ap (λ (xs : List PlacedColumn). length xs) same) in
    let found : col ≡ slice_index_or columns i col = c.column-item.is ∙ ap (λ (xs : List PlacedColumn). slice_index_or xs i col) same in
    let placed : place_in col ≡ slice_index_or places i (place_in col) = index_map place_in columns i col there found in
    let within : i < length places = omega (arith, there, length-map columns place_in) in
    let yes : picks test.pick (place_in col) ≡ true = sym c.picks.ensures ∙ c.if-not-picks.false in
    let stands : Stands col.column (column_cells (place_in col) g.events) = c.requires.columns i col there found in
    record {
      sure = column_asked test.pick (sure_cell test.rel test.literal) places i (place_in col) g.events c.loop-column.all.sure c.in_ok-asked.asked.sure c.in_ok-all-2.all.sure within placed yes
          c.loop-column.invariant.sure (c.in_ok-asked.ensures.sure (column_cells (place_in col) g.events) stands) c.in_ok-all-2.ensures.sure;
      maybe = column_asked test.pick (maybe_cell test.rel test.literal) places i (place_in col) g.events c.loop-column.all.maybe c.in_ok-asked.asked.maybe c.in_ok-all-2.all.maybe within placed yes
          c.loop-column.invariant.maybe (c.in_ok-asked.ensures.maybe (column_cells (place_in col) g.events) stands) c.in_ok-all-2.ensures.maybe;
    }
