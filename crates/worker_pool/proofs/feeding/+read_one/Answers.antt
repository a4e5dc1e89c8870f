use Rattle.step_script.specs.Feeds.{Outward}
use Rattle.worker_pool.proofs.ReadLemmas.{reads_behind, reads_first}
use Rattle.worker_pool.proofs.feeding.+read_one.Goals as goal

pub returns-in-Unread-clause-reads : goal.returns-in-Unread-clause-reads
returns-in-Unread-clause-reads g t c =
    let out : Outward g.row.S.Denot = record { left = g.S.Source.left; faults = g.S.Source.faults } in
    rw c.in-Some.ensures.cases.0 (reads_first out c.feed_one.result _ _ c.in-Some.first.now c.feed_one.new.feed c.in-Some.rest.now c.in-Unread.is c.feed_one.ensures.feeds)

pub returns-in_default : goal.returns-in_default
returns-in_default g t c =
    let out : Outward g.row.S.Denot = record { left = g.S.Source.left; faults = g.S.Source.faults } in
    record {
      book = c.read_one.ensures.book;
      reads = rw c.in-Some.ensures.cases.0 (reads_behind out c.read_one.result _ _ c.in-Some.first.now c.in-Some.rest.now c.read_one.new.feeds c.in_default.not-Unread c.read_one.ensures.reads);
    }
