use Rattle.std.proofs.Common.{Option, is_some, ap, ◌∙◌}
use Rattle.archive_cache.specs.Caches.{Caching, kept_as}
use Rattle.archive_cache.proofs.AskLemmas.{Shared, copied_some, kept_where}
use Rattle.archive_cache.proofs.cache.Cache.keeps.Goals as goal

pub returns : goal.returns
returns c =
    c.is_some.ensures ∙ copied_some c.peek.result
    ∙ ap (λ (o : Option Shared). is_some o) c.peek.ensures
    ∙ kept_where c.self.inside.batches c.args.number
    ∙ ap (λ (x : Caching). is_some (kept_as c.args.number x)) c.self.view_is
