use Rattle.std.proofs.Common.{◌≡◌, ◌∙◌, ap, sym, map, Option, Some, slice_get}
use Rattle.column_index.specs.Stands.{Stands}
use Rattle.query_meaning.specs.SureCells.{maybe_cell, sure_cell}
use Rattle.partition.specs.Asking.{asked_time}
use Rattle.partition.specs.Columns.{Place, column_cells}
use Rattle.partition.specs.Indexes.{place_in, places_of}
use Rattle.partition.proofs.AskLemmas.{asked_map}
use Rattle.partition.proofs.BuildLemmas.{got_map}
use Rattle.partition.proofs.index.Index.column_time.Goals as goal

pub returns-clause-sure : goal.returns-clause-sure
returns-clause-sure g c =
    let columns = c.args.self.now.columns.items in
    let col = c.index.result.now in
    let stands : Stands col.column (column_cells (place_in col) g.events) = c.requires.0.columns c.args.at col c.requires.1 c.index.ensures in
    let got : slice_get (places_of columns) c.args.at ≡ Some (place_in col) = got_map place_in columns c.args.at col c.requires.1 c.index.ensures in
    asked_map (sure_cell c.args.test.now.rel c.args.test.now.literal) (place_in col) g.events c.in_ok-asked.asked.sure (c.in_ok-asked.ensures.sure (column_cells (place_in col) g.events) stands)
    ∙ ap (λ (o : Option Place). map (asked_time (sure_cell c.args.test.now.rel c.args.test.now.literal) o) g.events) (sym got)

pub returns-clause-maybe : goal.returns-clause-maybe
returns-clause-maybe g c =
    let columns = c.args.self.now.columns.items in
    let col = c.index.result.now in
    let stands : Stands col.column (column_cells (place_in col) g.events) = c.requires.0.columns c.args.at col c.requires.1 c.index.ensures in
    let got : slice_get (places_of columns) c.args.at ≡ Some (place_in col) = got_map place_in columns c.args.at col c.requires.1 c.index.ensures in
    asked_map (maybe_cell c.args.test.now.rel c.args.test.now.literal) (place_in col) g.events c.in_ok-asked.asked.maybe (c.in_ok-asked.ensures.maybe (column_cells (place_in col) g.events) stands)
    ∙ ap (λ (o : Option Place). map (asked_time (maybe_cell c.args.test.now.rel c.args.test.now.literal) o) g.events) (sym got)
