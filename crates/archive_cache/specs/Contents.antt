-- What a cache of shared batches says.
use Rattle.std.specs.Prelude.{ℕ, map}
use Rattle.std.specs.Arc.{arc_value}
use Rattle.std.specs.declared.alloc.Global.{Global}
use Rattle.std.specs.declared.sync.Arc.{Arc}
use Rattle.event_batch.specs.declared.batch.Batch.{Batch}
use Rattle.event_batch.specs.Contents.{content_of}
use Rattle.lru.specs.LruCache.{LruCache}
use Rattle.archive_cache.specs.Caches.{Kept, Caching}

abbrev pub kept_of : ℕ × Arc Batch Global → Kept
kept_of entry = (entry.0, content_of (arc_value entry.1))

abbrev pub caching_of : LruCache ℕ (Arc Batch Global) → Caching
caching_of cache = record { size = cache.cap; entries = map kept_of cache.entries }
