-- A cache beside a store that goes on.
use Rattle.std.proofs.Common.{◌≡◌, List, ◌++◌, ap, sym, ◌∙◌, subst}
use Rattle.std.proofs.lemmas.List.{reverse-append}
use Rattle.event_history.specs.declared.entry.Entry.{Entry}
use Rattle.event_history.specs.declared.entry.Limits.{Limits}
use Rattle.event_history.specs.Histories.{past}
use Rattle.event_history.specs.Legal.{Legal}
use Rattle.archive_cache.specs.Caches.{Caching}
use Rattle.history_core.specs.Shown.{Shown, with_entries}
use Rattle.exporter.specs.Stores.{IsCacheOf}
use Rattle.exporter.proofs.StoreLemmas.{serves}

pub stays_on : (es : List Entry) (old new : Shown) (cache : Caching) → new ≡ with_entries old es → Legal new.limits (past new.history)
    → IsCacheOf (past old.history) cache → IsCacheOf (past new.history) cache
stays_on es old new cache e legal is =
    let turned : past new.history ≡ past es ++ past old.history = ap (λ (s : Shown). past s.history) e ∙ reverse-append old.history es in
    let same : new.limits ≡ old.limits = ap (λ (s : Shown). s.limits) e in
    subst (λ (b : List Entry). IsCacheOf b cache) (sym turned)
    ((serves old.limits (past old.history)).cache_stays (past es) cache
    (subst (λ (b : List Entry). Legal old.limits b) turned (subst (λ (l : Limits). Legal l (past new.history)) same legal)) is)
