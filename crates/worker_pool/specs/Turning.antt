-- What comes of a worker's turn.
use Rattle.std.specs.Prelude.{◌≡◌, Bool, List, Option, None, Result, Ok, Err, OnOk, All, ◌⊎◌}
use Rattle.std.specs.declared.alloc.AllocError.{AllocError}
use Rattle.archive_cache.specs.Caches.{Caching}
use Rattle.event_history.specs.Histories.{past}
use Rattle.exporter.specs.Stores.{IsCacheOf}
use Rattle.query_meaning.specs.declared.expr.Expr.{Expr}
use Rattle.shared_store.specs.Turns.{Stands}
use Rattle.step_script.specs.Feeds.{Outward}
use Rattle.worker_pool.specs.declared.feeding.Feed.{Feed}
use Rattle.worker_pool.specs.declared.registering.Query.{Query}
use Rattle.worker_pool.specs.Feeding.{Reads}
use Rattle.worker_pool.specs.Finishing.{IsFinish, IsSound}
use Rattle.worker_pool.specs.Registering.{AreAskable, IsUnasked, RegistersAll, ends, exprs}
use Rattle.worker_pool.specs.Takes.{IsPaged}

-- memory was wanting in the reading, or in the registering
pub record StopsReading {S : Type 0} (out : Outward S) (e : AllocError) (olds news : List (Feed S)) (old new : List Query) (before after : Stands) : Type 0 where
  pub reads : Reads out (Err e) olds news before after
  pub same : new ≡ old

pub record StopsRegistering {S : Type 0} (out : Outward S) (e : AllocError) (olds news : List (Feed S)) (old new : List Query) (before after : Stands) : Type 0 where
  pub read : Stands
  pub reads : Reads out (Ok tt) olds news before read
  pub registers : RegistersAll (Err e) old new read after

-- A batch was read and accepted, where a source had not ended; the queries were registered that still were to be; and then
-- the second half came.
pub record GoesOn {S : Type 0} (out : Outward S) (result : Result Bool AllocError) (olds news : List (Feed S)) (old new : List Query) (before after : Stands) : Type 0 where
  pub read : Stands
  pub registered : Stands
  pub queries : List Query
  pub reads : Reads out (Ok tt) olds news before read
  pub registers : RegistersAll (Ok tt) old queries read registered
  pub finishes : IsFinish result queries new registered after

abbrev pub Stops : {S : Type 0} → Outward S → Result Bool AllocError → List (Feed S) → List (Feed S) → List Query → List Query → Stands → Stands → Type 0
Stops out (Ok claimed) olds news old new before after = ⊥
Stops out (Err e) olds news old new before after = StopsReading out e olds news old new before after ⊎ StopsRegistering out e olds news old new before after

-- A turn, up to where memory was wanting. Each query stays told what the own takes tell, and unless memory was wanting is
-- registered and may be asked on again.
pub record Turns {S : Type 0} (out : Outward S) (result : Result Bool AllocError) (olds news : List (Feed S)) (old new : List Query) (cache : Caching) (before after : Stands) : Type 0 where
  pub is : Stops out result olds news old new before after ⊎ GoesOn out result olds news old new before after
  pub sound : IsSound after
  pub paged : All (IsPaged after) (ends new)
  pub askable : OnOk result (AreAskable after new)
  pub registered : OnOk result (All (λ (left : Option Expr). left ≡ None) (exprs new))
  pub kept : IsCacheOf (past after.seen) cache
