use Rattle.std.proofs.Common.{None, Some, Ok, ap, refl, ◌∙◌}
use Rattle.importer.specs.declared.ends.ImportEnd.{ImportEnd}
use Rattle.importer.specs.Ending.{how_ended}
use Rattle.step_script.specs.Feeds.{Outward}
use Rattle.step_script.proofs.FeedLemmas.{kept_end}
use Rattle.worker_pool.proofs.ReadLemmas.{feeds_failed, feeds_met, feeds_offered}
use Rattle.worker_pool.proofs.feeding.feed_one.Goals as goal

pub returns-in-Ok-Some-clause-feeds : goal.returns-in-Ok-Some-clause-feeds
returns-in-Ok-Some-clause-feeds g c =
    let out : Outward g.row.S.Denot = record { left = g.S.Source.left; faults = g.S.Source.faults } in
    let e = c.next_batch.ensures in
    feeds_offered out c.args.feed.now c.offer.new.feed _ _ c.requires.unread c.offer.result c.next_batch.new.self c.in-Ok-Some.batch c.next_batch.result
    (record { next = e.next; ends = e.ends; stays = e.stays; same = e.same; faults = e.faults; tells = e.tells })
    (c.in-Ok-Some.is ∙ ap Ok c.in-Ok-Some.field-0-is) (rw c.in-Ok-Some.field-0-is at c.in-Ok-Some.ensures.number) c.offer.ensures.offers

pub returns-in-Ok-None-clause-feeds : goal.returns-in-Ok-None-clause-feeds
returns-in-Ok-None-clause-feeds g c =
    let out : Outward g.row.S.Denot = record { left = g.S.Source.left; faults = g.S.Source.faults } in
    let e = c.next_batch.ensures in
    feeds_met out c.args.feed.now _ _ _ c.requires.unread None c.next_batch.result
    (record { next = e.next; ends = e.ends; stays = e.stays; same = e.same; faults = e.faults; tells = e.tells })
    (c.in-Ok-None.is ∙ ap Ok c.in-Ok-None.field-0-is) (λ no. no) refl refl refl refl

pub returns-in-Memory-clause-feeds : goal.returns-in-Memory-clause-feeds
returns-in-Memory-clause-feeds g c =
    let out : Outward g.row.S.Denot = record { left = g.S.Source.left; faults = g.S.Source.faults } in
    feeds_failed out c.args.feed.now _ _ _ c.requires.unread _ refl refl c.next_batch.ensures.same.0 refl
    (c.ended-feed.ensures ∙ ap (λ (e : ImportEnd). how_ended (Some e)) c.in-Memory.is)

pub returns-in_default : goal.returns-in_default
returns-in_default g c =
    let out : Outward g.row.S.Denot = record { left = g.S.Source.left; faults = g.S.Source.faults } in
    let e = c.next_batch.ensures in
    record {
      book = c.requires.book;
      feeds = feeds_met out c.args.feed.now _ _ _ c.requires.unread (Some c.in-Err.end) c.next_batch.result
          (record { next = e.next; ends = e.ends; stays = e.stays; same = e.same; faults = e.faults; tells = e.tells })
          c.in-Err.is (kept_end c.in-Err.end c.in_default.not-Memory) refl refl refl c.ended-feed.ensures;
    }
