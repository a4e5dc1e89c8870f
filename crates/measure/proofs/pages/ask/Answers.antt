use Rattle.std.proofs.Common.{◌≡◌}
use Rattle.event_history.specs.Histories.{past}
use Rattle.exporter.specs.Pages.{held_by}
use Rattle.exporter.specs.Stores.{IsCacheOf}
use Rattle.exporter.proofs.StoreLemmas.{serves}
use Rattle.measure.proofs.PageLemmas.{stays_on}
use Rattle.measure.proofs.pages.ask.Goals as goal

pub finish-requires : goal.finish-requires
finish-requires g c =
    let now = c.register-end.new.self in
    let cache = c.args.cache.now in
    let x = c.in-Ok-end-2.taken.snapshot in
    let is : IsCacheOf (past now.history) cache = stays_on _ c.args.store.now now cache c.in-Ok-end.ensures.step.1 c.entries.ensures.legal c.requires in
    let all = serves now.limits (past now.history) in
    record { agree = all.agrees (held_by x) cache (all.taken c.in-Ok-end.session.query x c.in-Ok-end-2.ensures.snapshot) is }

pub returns : goal.returns
returns g c =
    let now = c.register-end.new.self in
    let cache = c.args.cache.now in
    let x = c.in-Ok-end-2.taken.snapshot in
    let is : IsCacheOf (past now.history) cache = stays_on _ c.args.store.now now cache c.in-Ok-end.ensures.step.1 c.entries.ensures.legal c.requires in
    let all = serves now.limits (past now.history) in
    let left : IsCacheOf (past now.history) c.finish.new.cache =
    all.left (held_by x) cache c.finish.new.cache (all.taken c.in-Ok-end.session.query x c.in-Ok-end-2.ensures.snapshot) is c.finish.ensures.only in
    stays_on _ now c.take-end.new.self c.finish.new.cache c.in-Ok-end-2.ensures.step.1 c.entries-2.ensures.legal left
