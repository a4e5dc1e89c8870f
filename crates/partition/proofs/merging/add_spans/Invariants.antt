use Rattle.std.proofs.Common.{map, take}
use Rattle.partition.specs.Indexes.{place_in, places_of}
use Rattle.partition.specs.Merged.{Added}
use Rattle.partition.proofs.merging.add_spans.Given as goal

abbrev pub invariant-loop-span : goal.invariant-loop-span
invariant-loop-span l = Added (map place_in l.fn.columns) (places_of l.fn.index.columns.items) (take l.span-index l.fn.index.spans.items) l.fn.spans.items l.spans.items
