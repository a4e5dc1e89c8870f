use Rattle.std.proofs.Common.{◌≡◌, ◌||◌, map, drop}
use Rattle.std.specs.List.{list_any}
use Rattle.vast_value.specs.Headings.{field_of}
use Rattle.query_meaning.specs.Meaning.{named_cells}
use Rattle.query_meaning.specs.SureCells.{sure_cell, maybe_cell}
use Rattle.query_meaning.proofs.sure.named_known.Given as goal

abbrev pub invariant-loop-at : goal.invariant-loop-at
invariant-loop-at l =
    ((l.sure || list_any (sure_cell l.test.rel l.test.literal) (named_cells l.layout.path (map field_of (drop l.at l.columns)) (drop l.at l.cells) l.name))
    ≡ list_any (sure_cell l.test.rel l.test.literal) (named_cells l.layout.path (map field_of l.layout.columns) l.cells l.name))
    × ((l.maybe || list_any (maybe_cell l.test.rel l.test.literal) (named_cells l.layout.path (map field_of (drop l.at l.columns)) (drop l.at l.cells) l.name))
    ≡ list_any (maybe_cell l.test.rel l.test.literal) (named_cells l.layout.path (map field_of l.layout.columns) l.cells l.name))
