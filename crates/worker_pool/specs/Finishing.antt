-- What comes of the second half of a worker's turn.
use Rattle.std.specs.Prelude.{◌≡◌, Bool, List, Option, Some, Result, Ok, Err, OnOk, All, ◌⊎◌}
use Rattle.std.specs.declared.alloc.AllocError.{AllocError}
use Rattle.archive_cache.specs.Caches.{Caching}
use Rattle.event_history.specs.declared.entry.Limits.{Limits}
use Rattle.event_history.specs.Histories.{past}
use Rattle.event_history.specs.Legal.{Legal}
use Rattle.exporter.specs.Stores.{IsCacheOf}
use Rattle.shared_store.specs.Turns.{Stands}
use Rattle.worker_pool.specs.declared.registering.Query.{Query}
use Rattle.worker_pool.specs.Indexing.{Indexes}
use Rattle.worker_pool.specs.Registering.{AreAskable, ends}
use Rattle.worker_pool.specs.Sealing.{Seals}
use Rattle.worker_pool.specs.Takes.{IsPaged, TakesOn}

-- what was seen is legal for the store's limits
pub record IsSound (s : Stands) : Type 0 where
  pub limits : Limits
  pub framed : s.frame ≡ Some limits
  pub legal : Legal limits (past s.seen)

-- A batch was indexed, where there was one to claim; a group was merged, where there was one; and then each query was asked
-- on.
pub record Finished (claimed : Bool) (old new : List Query) (before after : Stands) : Type 0 where
  pub indexed : Stands
  pub sealed : Stands
  pub merged : Bool
  pub indexes : Indexes (Ok claimed) before indexed
  pub seals : Seals (Ok merged) indexed sealed
  pub takes : TakesOn (Ok tt) (ends old) (ends new) sealed after

-- memory was wanting in the indexing, in the merging, or in the asking
pub record StopsIndexing (e : AllocError) (old new : List Query) (before after : Stands) : Type 0 where
  pub indexes : Indexes (Err e) before after
  pub same : new ≡ old

pub record StopsMerging (e : AllocError) (old new : List Query) (before after : Stands) : Type 0 where
  pub indexed : Stands
  pub claimed : Bool
  pub indexes : Indexes (Ok claimed) before indexed
  pub seals : Seals (Err e) indexed after
  pub same : new ≡ old

pub record StopsAsking (e : AllocError) (old new : List Query) (before after : Stands) : Type 0 where
  pub indexed : Stands
  pub sealed : Stands
  pub claimed : Bool
  pub merged : Bool
  pub indexes : Indexes (Ok claimed) before indexed
  pub seals : Seals (Ok merged) indexed sealed
  pub takes : TakesOn (Err e) (ends old) (ends new) sealed after

abbrev pub IsFinish : Result Bool AllocError → List Query → List Query → Stands → Stands → Type 0
IsFinish (Ok claimed) old new before after = Finished claimed old new before after
IsFinish (Err e) old new before after = StopsIndexing e old new before after ⊎ (StopsMerging e old new before after ⊎ StopsAsking e old new before after)

-- The second half of a turn, up to where memory was wanting. Each query stays told what the own takes tell, and unless
-- memory was wanting may be asked on again.
pub record Finishes (result : Result Bool AllocError) (old new : List Query) (cache : Caching) (before after : Stands) : Type 0 where
  pub is : IsFinish result old new before after
  pub sound : IsSound after
  pub paged : All (IsPaged after) (ends new)
  pub askable : OnOk result (AreAskable after new)
  pub kept : IsCacheOf (past after.seen) cache
