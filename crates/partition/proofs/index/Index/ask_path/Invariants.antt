use Rattle.std.proofs.Common.{◌≡◌, ◌≤◌, length, map, take, drop}
use Rattle.partition.specs.Asking.{path_meets}
use Rattle.partition.specs.Indexes.{AreSpans, places_of}
use Rattle.partition.proofs.index.Index.ask_path.Given as goal

abbrev pub invariant-loop-span : goal.invariant-loop-span
invariant-loop-span g l = record {
  bits : l.sure ≡ map (path_meets l.fn.test) (take (length l.sure) g.events);
  within : length l.sure ≤ length g.events;
  rest : AreSpans (places_of l.fn.self.columns.items) (drop l.span-index l.fn.self.spans.items) (drop (length l.sure) g.events);
}
