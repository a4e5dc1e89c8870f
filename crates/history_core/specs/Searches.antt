-- What the searches of a store find.
use Rattle.std.specs.Prelude.{◌≡◌, ℕ, ◌<◌, ◌≤◌, Bool, true, false, not, ◌&&◌, List, is_none, is_some, length, slice_index_or}
use Rattle.history_core.specs.declared.kept.Kept.{Kept}
use Rattle.history_core.specs.declared.kept.Seal.{Seal}
use Rattle.history_core.specs.Stores.{seal_at}

-- the batch is neither indexed nor claimed
abbrev pub is_open : Kept → Bool
is_open k = is_none k.index && not k.marked

-- no batch from a place on is free
abbrev pub NoneFree : List Kept → ℕ → Type 0
NoneFree kept from = (b : ℕ) (k : Kept) → from ≤ b → b < length kept → k ≡ slice_index_or kept b k → is_open k ≡ false

-- the first free batch from a place on
pub record IsFirstFree (kept : List Kept) (from at : ℕ) : Type 0 where
  pub after : from ≤ at
  pub there : at < length kept
  pub free : (k : Kept) → k ≡ slice_index_or kept at k → is_open k ≡ true
  pub first : (b : ℕ) (k : Kept) → from ≤ b → b < at → k ≡ slice_index_or kept b k → is_open k ≡ false

-- each group from one on and below another has a merged index
abbrev pub AllSealed : List Seal → ℕ → ℕ → Type 0
AllSealed seals from to = (k : ℕ) → from ≤ k → k < to → is_some (seal_at seals k) ≡ true
