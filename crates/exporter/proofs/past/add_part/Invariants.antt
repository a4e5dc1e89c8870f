use Rattle.std.proofs.Common.{◌≡◌, ◌+◌, ◌≤◌, drop}
use Rattle.exporter.specs.Asks.{AgreesWith, KeepsOnly}
use Rattle.exporter.specs.Pages.{held_by}
use Rattle.exporter.specs.Walks.{gathered, past_reading, reads, walk}
use Rattle.exporter.proofs.past.add_part.Given as goal

abbrev pub invariant-loop-held : goal.invariant-loop-held
invariant-loop-held g l =
    let t = l.taken.snapshot.taking in
    let reading = past_reading t.expr t.past_from t.past_to in
    record {
      page : walk reading (drop l.held-index l.mine) (gathered l.tally l.cache l.steps) ≡ walk reading l.mine (gathered l.fn.tally l.fn.cache l.fn.steps);
      few : l.steps + reads reading (drop l.held-index l.mine) ≤ l.fn.steps + reads reading l.mine;
      only : KeepsOnly (held_by l.taken.snapshot) l.fn.cache l.cache;
      agree : AgreesWith (held_by l.taken.snapshot) l.cache;
    }
