use Rattle.std.proofs.Common.{List, map, subst}
use Rattle.std.specs.Arc.{arc_value}
use Rattle.partition.specs.declared.index.PlacedColumn.{PlacedColumn}
use Rattle.partition.specs.Indexes.{AreSpans, place_in}
use Rattle.partition.specs.Merged.{all_events}
use Rattle.partition.proofs.index.Index.merged.Goals as goal

pub returns : goal.returns
returns c = record {
  rows = c.in_ok-rows.ensures;
  columns = c.in_ok-columns.ensures.cells;
  covers = c.in_ok-columns.ensures.covers;
  sound = c.in_ok-spans.ensures.sound;
  spans = subst (λ (cs : List PlacedColumn). AreSpans (map place_in cs) c.in_ok-spans.spans.items (all_events (map arc_value c.args.fragments.now))) c.deref.ensures.value c.in_ok-spans.ensures.spans;
}
