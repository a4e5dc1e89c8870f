use Rattle.std.proofs.Common.{ap}
use Rattle.event_batch.specs.Contents.{Spelled}
use Rattle.exporter.specs.Pages.{held_by}
use Rattle.exporter.proofs.CacheLemmas.{agree_asked, only_asked}
use Rattle.exporter.proofs.TakenLemmas.{taken_numbered}
use Rattle.exporter.proofs.tally.Tally.ask.Goals as goal

pub returns-clause-only : goal.returns-clause-only
returns-clause-only g c =
    only_asked (held_by c.args.taken.now.snapshot) c.args.held.now c.no-2.result c.packed.result.now.content c.args.cache.now c.get.new.self c.requires.own
    c.no-2.ensures (ap (λ (p : Spelled). p.content) c.packed.ensures) c.in_ok-batch.ensures.entries

pub returns-clause-agree : goal.returns-clause-agree
returns-clause-agree g c =
    agree_asked (held_by c.args.taken.now.snapshot) c.args.held.now c.no-2.result c.packed.result.now.content c.args.cache.now c.get.new.self c.requires.own
    (taken_numbered c.args.taken.now.snapshot c.requires.taken)
    c.no-2.ensures (ap (λ (p : Spelled). p.content) c.packed.ensures) c.in_ok-batch.ensures.entries c.requires.agree
