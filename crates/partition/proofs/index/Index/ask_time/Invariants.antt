use Rattle.std.proofs.Common.{◌≡◌, ◌≤◌, length, drop}
use Rattle.query_meaning.specs.SureCells.{maybe_cell, sure_cell}
use Rattle.partition.specs.Asking.{so_far, time_of}
use Rattle.partition.specs.Indexes.{AreSpans, places_of}
use Rattle.partition.proofs.index.Index.ask_time.Given as goal

abbrev pub invariant-loop-span : goal.invariant-loop-span
invariant-loop-span g l = record {
  sure : l.all.sure ≡ so_far (time_of (sure_cell l.fn.test.rel l.fn.test.literal)) l.from g.events;
  maybe : l.all.maybe ≡ so_far (time_of (maybe_cell l.fn.test.rel l.fn.test.literal)) l.from g.events;
  within : l.from ≤ length g.events;
  rest : AreSpans (places_of l.fn.self.columns.items) (drop l.span-index l.fn.self.spans.items) (drop l.from g.events);
}

abbrev pub ghost-span_time : goal.ghost-span_time
ghost-span_time g a = g.events
