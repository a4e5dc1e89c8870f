use Rattle.std.proofs.Common.{subst}
use Rattle.archive_cache.specs.Caches.{IsCache}
use Rattle.archive_cache.proofs.AskLemmas.{is_cache}
use Rattle.archive_cache.proofs.cache.Cache.len.Goals as goal

pub returns-clause-sound : goal.returns-clause-sound
returns-clause-sound c = subst IsCache c.self.view_is (is_cache c.self.inside.batches c.len.ensures.valid)
