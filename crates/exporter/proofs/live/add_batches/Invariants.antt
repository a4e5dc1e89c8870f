use Rattle.std.proofs.Common.{◌≡◌, ◌+◌, ◌≤◌, drop}
use Rattle.exporter.specs.Asks.{AgreesWith, KeepsOnly}
use Rattle.exporter.specs.Pages.{held_by}
use Rattle.exporter.specs.Walks.{gathered, live_reading, walk}
use Rattle.exporter.proofs.live.add_batches.Given as goal

abbrev pub invariant-loop-batch : goal.invariant-loop-batch
invariant-loop-batch g l =
    let t = l.taken.snapshot.taking in
    let reading = live_reading t.expr t.live_from t.live_to in
    record {
      page : walk reading (drop l.batch-index l.held) (gathered l.tally l.cache l.steps) ≡ walk reading l.held (gathered l.fn.tally l.fn.cache l.fn.steps);
      few : l.steps ≤ l.fn.steps + l.batch-index;
      only : KeepsOnly (held_by l.taken.snapshot) l.fn.cache l.cache;
      agree : AgreesWith (held_by l.taken.snapshot) l.cache;
    }
