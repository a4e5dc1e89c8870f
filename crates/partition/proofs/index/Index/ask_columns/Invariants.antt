use Rattle.std.proofs.Common.{◌≡◌, map, take}
use Rattle.query_meaning.specs.SureCells.{maybe_cell, sure_cell}
use Rattle.partition.specs.Columns.{some_column}
use Rattle.partition.specs.Indexes.{places_of}
use Rattle.partition.proofs.index.Index.ask_columns.Given as goal

abbrev pub invariant-loop-column : goal.invariant-loop-column
invariant-loop-column g l = record {
  sure : l.all.sure ≡ map (some_column l.fn.test.pick (sure_cell l.fn.test.rel l.fn.test.literal) (take l.column-index (places_of l.fn.self.columns.items))) g.events;
  maybe : l.all.maybe ≡ map (some_column l.fn.test.pick (maybe_cell l.fn.test.rel l.fn.test.literal) (take l.column-index (places_of l.fn.self.columns.items))) g.events;
}
