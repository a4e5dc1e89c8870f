use Rattle.step_script.proofs.FeedLemmas.{fed_start}
use Rattle.std.proofs.Common.{sym, subst}
use Rattle.importer.specs.Coming.{Importing, Sourced}
use Rattle.step_script.specs.Feeds.{IsFed, Outward}
use Rattle.step_script.specs.Playing.{opened, untouched}
use Rattle.step_script.proofs.feed.Feed.new.Goals as goal

pub returns-clause-fed : goal.returns-clause-fed
returns-clause-fed g c told is none =
    let out : Outward g.row.S.Denot = record { left = g.S.Source.left; faults = g.S.Source.faults } in
    subst (λ (r : Sourced Importing g.row.S.Denot). IsFed out told c.args.batch (opened c.args.number c.args.name) (record { number = c.args.number; name = c.args.name; tally = untouched; at = r.at; source = r.source }))
    (sym c.start.ensures) (fed_start out told c.args.number c.args.batch c.args.name c.args.source is none)
