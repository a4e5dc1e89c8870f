use Rattle.std.proofs.Common.{◌≡◌, ap, subst, arith}
use Rattle.exporter.specs.Asks.{KeepsOnly, asks_of, loads_in}
use Rattle.exporter.specs.Pages.{touched_in}
use Rattle.script_desk.specs.declared.desk.Hold.{Hold}
use Rattle.script_desk.specs.declared.desk.Hold.TheVariants as hold
use Rattle.script_desk.specs.Desks.{reads_of}
use Rattle.script_desk.specs.Kept.{batches_in, take_in}
use Rattle.script_desk.proofs.PageLemmas.{loads_within}
use Rattle.script_desk.proofs.StayLemmas.{left, session_held}
use Rattle.script_desk.proofs.pages.finish_hold.Goals as goal

pub returns-in-Ok-clause-steps : goal.returns-in-Ok-clause-steps
returns-in-Ok-clause-steps g c =
    let t = c.in-Taken.taken in
    let reads : reads_of (take_in (hold.Taken t)) ≡ reads_of (take_in c.args.hold.now) = ap (λ (h : Hold). reads_of (take_in h)) c.in-Taken.ensures.value in
    let few = loads_within (touched_in t.snapshot) c.args.cache.now in
    let loads : c.in-Ok.page.loads ≡ loads_in (asks_of (touched_in t.snapshot)) c.args.cache.now = c.in-Ok.ensures.page.loads in
    omega (arith, reads, few, loads, c.in-Ok.ensures.steps)

pub returns-in-Ok-clause-accepted : goal.returns-in-Ok-clause-accepted
returns-in-Ok-clause-accepted g c = λ before accepted. session_held before c.in-Ok.session

pub returns-in-Ok-clause-cache : goal.returns-in-Ok-clause-cache
returns-in-Ok-clause-cache g c = λ before accepted keeps.
    left before c.args.hold.now c.args.cache.now c.finish.new.cache accepted keeps
    (subst (λ (h : Hold). KeepsOnly (batches_in (take_in h)) c.args.cache.now c.finish.new.cache) c.in-Taken.ensures.value c.in-Ok.ensures.only)

pub returns-in-Err-clause-cache : goal.returns-in-Err-clause-cache
returns-in-Err-clause-cache g c = λ before accepted keeps.
    left before c.args.hold.now c.args.cache.now c.finish.new.cache accepted keeps
    (subst (λ (h : Hold). KeepsOnly (batches_in (take_in h)) c.args.cache.now c.finish.new.cache) c.in-Taken.ensures.value c.in-Err.ensures.only)
