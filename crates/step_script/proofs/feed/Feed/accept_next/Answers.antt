use Rattle.std.proofs.Common.{None, Some, Ok, ap, sym, ◌∙◌, subst}
use Rattle.step_script.proofs.FeedLemmas.{accepts_end, accepts_gave, kept_end}
use Rattle.step_script.specs.Feeds.{Fed, IsFed, Outward}
use Rattle.step_script.proofs.feed.Feed.accept_next.Goals as goal

pub returns-in_ok-packed-in-Ok-Some : goal.returns-in_ok-packed-in-Ok-Some
returns-in_ok-packed-in-Ok-Some g c told batch x fed =
    let out : Outward g.row.S.Denot = record { left = g.S.Source.left; faults = g.S.Source.faults } in
    let i = c.self.inside in
    let f : Fed g.row.S.Denot = record { number = i.number; name = i.name; tally = record { rows = i.rows; how = i.how; refused = i.refused }; at = i.import.at; source = i.import.source } in
    let e = c.next_batch.ensures in
    accepts_gave c.offer.result out told batch x f c.next_batch.new.self c.offer.new.self c.next_batch.result c.in-Ok-Some.batch c.in_ok-packed-in-Ok-Some.packed c.args.desk.now c.offer.new.desk c.args.out.now c.offer.new.out
    (subst (λ (h : Fed g.row.S.Denot). IsFed out told batch x h) (sym c.self.view_is) fed)
    (ap (λ (h : Fed g.row.S.Denot). h.tally.refused) c.self.view_is ∙ c.requires)
    (record { next = e.next; ends = e.ends; stays = e.stays; same = e.same; faults = e.faults; tells = e.tells })
    (c.in-Ok-Some.is ∙ ap Ok c.in-Ok-Some.field-0-is) c.in_ok-packed-in-Ok-Some.ensures c.offer.ensures.tally c.offer.ensures.plays

pub returns-in-Ok-None : goal.returns-in-Ok-None
returns-in-Ok-None g c told batch x fed =
    let out : Outward g.row.S.Denot = record { left = g.S.Source.left; faults = g.S.Source.faults } in
    let i = c.self.inside in
    let f : Fed g.row.S.Denot = record { number = i.number; name = i.name; tally = record { rows = i.rows; how = i.how; refused = i.refused }; at = i.import.at; source = i.import.source } in
    let e = c.next_batch.ensures in
    accepts_end c.end.result out told batch x f c.next_batch.new.self c.end.new.self c.next_batch.result None c.args.desk.now c.args.out.now c.end.new.out
    (subst (λ (h : Fed g.row.S.Denot). IsFed out told batch x h) (sym c.self.view_is) fed)
    (ap (λ (h : Fed g.row.S.Denot). h.tally.refused) c.self.view_is ∙ c.requires)
    (record { next = e.next; ends = e.ends; stays = e.stays; same = e.same; faults = e.faults; tells = e.tells })
    (c.in-Ok-None.is ∙ ap Ok c.in-Ok-None.field-0-is) (λ no. no) c.end.ensures.tally c.end.ensures.told

pub returns-in_default : goal.returns-in_default
returns-in_default g c told batch x fed =
    let out : Outward g.row.S.Denot = record { left = g.S.Source.left; faults = g.S.Source.faults } in
    let i = c.self.inside in
    let f : Fed g.row.S.Denot = record { number = i.number; name = i.name; tally = record { rows = i.rows; how = i.how; refused = i.refused }; at = i.import.at; source = i.import.source } in
    let e = c.next_batch.ensures in
    accepts_end c.end-in_default.result out told batch x f c.next_batch.new.self c.end-in_default.new.self c.next_batch.result (Some c.in-Err.end) c.args.desk.now c.args.out.now c.end-in_default.new.out
    (subst (λ (h : Fed g.row.S.Denot). IsFed out told batch x h) (sym c.self.view_is) fed)
    (ap (λ (h : Fed g.row.S.Denot). h.tally.refused) c.self.view_is ∙ c.requires)
    (record { next = e.next; ends = e.ends; stays = e.stays; same = e.same; faults = e.faults; tells = e.tells })
    c.in-Err.is (kept_end c.in-Err.end c.in_default.not-Memory) c.end-in_default.ensures.tally c.end-in_default.ensures.told
