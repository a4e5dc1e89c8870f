-- What comes of indexing one batch, and of merging one group.
use Rattle.std.specs.Prelude.{◌≡◌, ℕ, Bool, true, false, List, [], ◌∷◌, None, Result, Ok, Err}
use Rattle.std.specs.declared.alloc.AllocError.{AllocError}
use Rattle.event_history.specs.declared.entry.Deed.{Deed}
use Rattle.event_history.specs.declared.entry.Deed.TheVariants as deed
use Rattle.event_history.specs.Choices.{next_claim}
use Rattle.event_history.specs.Histories.{is_indexed, past}
use Rattle.shared_store.specs.Turns.{Stands}
use Rattle.worker_pool.specs.Deeds.{Went}

-- nothing was to be claimed; or a batch was, and its index was published unless another did that or memory was wanting
pub data Indexing : Type 0 where
  NoneFree : Indexing
  Claimed : (batch : ℕ) (published : Bool) → Indexing

abbrev pub indexing_deeds : Indexing → List Deed
indexing_deeds NoneFree = []
indexing_deeds (Claimed batch true) = deed.Claim batch ∷ deed.Index batch ∷ []
indexing_deeds (Claimed batch false) = deed.Claim batch ∷ []

-- whether a batch was claimed: then it is indexed, and otherwise all were claimed or indexed
abbrev pub EndsIndexing : Result Bool AllocError → Indexing → Stands → Type 0
EndsIndexing (Ok true) (Claimed batch published) s = is_indexed batch (past s.seen) ≡ true
EndsIndexing (Ok false) NoneFree s = next_claim (past s.seen) ≡ None
EndsIndexing (Err e) x s = Unit {0}
EndsIndexing result x s = ⊥

pub record Indexes (result : Result Bool AllocError) (before after : Stands) : Type 0 where
  pub did : Indexing
  pub went : Went before after (indexing_deeds did)
  pub ends : EndsIndexing result did after
