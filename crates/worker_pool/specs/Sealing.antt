-- What comes of merging one group.
use Rattle.std.specs.Prelude.{◌≡◌, ℕ, Bool, true, false, List, [], ◌∷◌, None, Result, Ok, Err}
use Rattle.std.specs.declared.alloc.AllocError.{AllocError}
use Rattle.event_history.specs.declared.entry.Deed.{Deed}
use Rattle.event_history.specs.declared.entry.Deed.TheVariants as deed
use Rattle.event_history.specs.Choices.{next_group}
use Rattle.event_history.specs.Histories.{is_sealed, past}
use Rattle.shared_store.specs.Given.{Sees}
use Rattle.shared_store.specs.Turns.{Stands}
use Rattle.worker_pool.specs.Deeds.{Went}

-- no group was to be merged; or one was, and its index was published unless another did that or memory was wanting
pub data Sealing : Type 0 where
  NoneFull : Sealing
  Merged : (group : ℕ) (published : Bool) → Sealing

abbrev pub sealing_deeds : Sealing → List Deed
sealing_deeds NoneFull = []
sealing_deeds (Merged group true) = deed.Seal group ∷ []
sealing_deeds (Merged group false) = []

-- whether there was a group to merge: then it is sealed, and otherwise each full group was
abbrev pub EndsSealing : Result Bool AllocError → Sealing → Stands → Type 0
EndsSealing (Ok true) (Merged group published) s = is_sealed group (past s.seen) ≡ true
EndsSealing (Ok false) NoneFull s = Sees (λ limits before. next_group limits.group before ≡ None) s
EndsSealing (Err e) x s = Unit {0}
EndsSealing result x s = ⊥

pub record Seals (result : Result Bool AllocError) (before after : Stands) : Type 0 where
  pub did : Sealing
  pub went : Went before after (sealing_deeds did)
  pub ends : EndsSealing result did after
