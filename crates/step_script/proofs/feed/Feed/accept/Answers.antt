use Rattle.std.proofs.Common.{sym, ◌∙◌, subst}
use Rattle.step_script.proofs.FeedLemmas.{accepts_again}
use Rattle.step_script.specs.Feeds.{Fed, IsFed, Outward}
use Rattle.step_script.proofs.feed.Feed.accept.Goals as goal

pub returns-in-Some : goal.returns-in-Some
returns-in-Some g c told batch x fed =
    let out : Outward g.row.S.Denot = record { left = g.S.Source.left; faults = g.S.Source.faults } in
    let i = c.self.inside in
    let f : Fed g.row.S.Denot = record { number = i.number; name = i.name; tally = record { rows = i.rows; how = i.how; refused = i.refused }; at = i.import.at; source = i.import.source } in
    accepts_again c.offer.result out told batch x f c.offer.new.self c.in-Some.packed c.args.desk.now c.offer.new.desk c.args.out.now c.offer.new.out
    (subst (λ (h : Fed g.row.S.Denot). IsFed out told batch x h) (sym c.self.view_is) fed)
    (sym c.take.ensures.value ∙ c.in-Some.is)
    c.offer.ensures.tally c.offer.ensures.plays
