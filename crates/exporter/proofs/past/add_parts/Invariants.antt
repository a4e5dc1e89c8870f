use Rattle.std.proofs.Common.{◌≡◌, ◌+◌, ◌≤◌, drop, map}
use Rattle.std.specs.List.{All, Contains}
use Rattle.event_history.specs.Covers.{Cover}
use Rattle.partition.specs.Parts.{piece_of}
use Rattle.exporter.specs.Asks.{AgreesWith, KeepsOnly}
use Rattle.exporter.specs.Pages.{held_by}
use Rattle.exporter.specs.Walks.{gathered, past_reading, reads, walk}
use Rattle.exporter.proofs.past.add_parts.Given as goal

abbrev pub invariant-loop-part : goal.invariant-loop-part
invariant-loop-part g l =
    let t = l.taken.snapshot.taking in
    let reading = past_reading t.expr t.past_from t.past_to in
    record {
      page : walk reading l.rest (gathered l.tally l.cache l.steps) ≡ walk reading l.held (gathered l.fn.tally l.fn.cache l.fn.steps);
      few : l.steps + reads reading l.rest ≤ l.fn.steps + reads reading l.held;
      only : KeepsOnly (held_by l.taken.snapshot) l.fn.cache l.cache;
      agree : AgreesWith (held_by l.taken.snapshot) l.cache;
      own : All (λ h. Contains (held_by l.taken.snapshot) h) l.rest;
      cover : Cover (map piece_of (drop l.part-index l.parts)) l.rest;
    }
