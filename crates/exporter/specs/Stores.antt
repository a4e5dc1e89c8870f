-- A cache of decoded batches beside a store.
use Rattle.std.specs.Prelude.{◌≡◌, ℕ, List, ◌++◌, Some, All, map, slice_get}
use Rattle.event_batch.specs.Contents.{Content}
use Rattle.event_history.specs.declared.entry.Entry.{Entry}
use Rattle.event_history.specs.declared.entry.Limits.{Limits}
use Rattle.event_history.specs.Histories.{accepted, content}
use Rattle.event_history.specs.Legal.{Legal}
use Rattle.event_history.specs.Pieces.{Held}
use Rattle.event_history.specs.Queries.{registration}
use Rattle.archive_cache.specs.Caches.{Caching, kept_as}
use Rattle.history_core.specs.Snapshots.{IsSnapshot, Snapshot}
use Rattle.exporter.specs.Asks.{AgreesWith, KeepsOnly}
use Rattle.exporter.specs.Pages.{held_by}

-- the batch with this number was accepted with this content
abbrev pub IsBatch : List Entry → ℕ → Content → Type 0
IsBatch before number what = slice_get (map content (accepted before)) number ≡ Some what

-- each of these batches was accepted under its number
abbrev pub AreAccepted : List Entry → List Held → Type 0
AreAccepted before held = All (λ h. IsBatch before h.no h.packed.content) held

-- what the cache keeps under a number is the batch that was accepted with it
abbrev pub IsCacheOf : List Entry → Caching → Type 0
IsCacheOf before cache = (number : ℕ) (what : Content) → kept_as number cache ≡ Some what → IsBatch before number what

-- The cache that one store's pages are made with, whatever the store does meanwhile: it agrees with the batches that a take
-- hands out, and a page leaves it a cache of that store.
pub record ServesStore (limits : Limits) (before : List Entry) : Type 0 where
  pub taken : (q : ℕ) (x : Snapshot) → IsSnapshot limits.group before q x (registration q before) → AreAccepted before (held_by x)
  pub agrees : (held : List Held) (cache : Caching) → AreAccepted before held → IsCacheOf before cache → AgreesWith held cache
  pub left : (held : List Held) (old new : Caching) → AreAccepted before held → IsCacheOf before old → KeepsOnly held old new → IsCacheOf before new
  pub held_stay : (more : List Entry) (held : List Held) → Legal limits (more ++ before) → AreAccepted before held → AreAccepted (more ++ before) held
  pub cache_stays : (more : List Entry) (cache : Caching) → Legal limits (more ++ before) → IsCacheOf before cache → IsCacheOf (more ++ before) cache
