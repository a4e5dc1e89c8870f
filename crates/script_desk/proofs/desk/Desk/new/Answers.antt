use Rattle.std.proofs.Common.{ap}
use Rattle.archive_cache.specs.Caches.{Caching}
use Rattle.history_core.specs.Shown.{Shown}
use Rattle.script_desk.proofs.StayLemmas.{new_desk}
use Rattle.script_desk.proofs.desk.Desk.new.Goals as goal

pub invariant_of-result : goal.invariant_of-result
invariant_of-result c =
    new_desk c.new.result c.new-2.result.items c.new-3.result.items c.new-4.result.items c.in_ok-new.field-0
    (ap (λ (s : Shown). s.history) c.new.ensures) c.new-2.ensures.items c.new-3.ensures.items c.new-4.ensures.items
    (ap (λ (x : Caching). x.entries) c.in_ok-new.ensures)
