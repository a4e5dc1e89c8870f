-- What the shared store hands out, by what was seen.
use Rattle.std.specs.Prelude.{◌≡◌, List, ◌++◌, Option, None, Some}
use Rattle.event_history.specs.declared.entry.Entry.{Entry}
use Rattle.event_history.specs.declared.entry.Limits.{Limits}
use Rattle.event_history.specs.Histories.{past}
use Rattle.event_history.specs.Legal.{Legal}
use Rattle.event_history.specs.Pieces.{group_piece, joined}
use Rattle.history_core.specs.declared.answers.Claim.{Claim}
use Rattle.history_core.specs.declared.answers.Group.{Group}
use Rattle.history_core.specs.Replies.{IsClaimAt, IsGroupAt}
use Rattle.shared_store.specs.Turns.{Stands}

-- the later history begins with this one
abbrev pub Begins : List Entry → List Entry → Type 0
Begins history later = (more : List Entry) × (later ≡ history ++ more)

-- it holds of every legal history that begins with this one
abbrev pub Lasts : (List Entry → Type 0) → Limits → List Entry → Type 0
Lasts holds limits history = (later : List Entry) → Begins history later → Legal limits (past later) → holds (past later)

-- it holds of what was seen, by the limits of the store
abbrev pub Sees : (Limits → List Entry → Type 0) → Stands → Type 0
Sees holds s = (limits : Limits) → s.frame ≡ Some limits → holds limits (past s.seen)

-- a claim that was given names an accepted batch, with its bytes
abbrev pub ClaimIsGiven : List Entry → Option Claim → Type 0
ClaimIsGiven before None = Unit {0}
ClaimIsGiven before (Some claim) = IsClaimAt before claim

-- the group's batches are indexed, and its indexes stand for them
abbrev pub IsGroup : Group → Limits → List Entry → Type 0
IsGroup group limits before = IsGroupAt limits.group before group

-- and joined they stand for the whole group
abbrev pub GroupIsGiven : Option Group → Limits → List Entry → Type 0
GroupIsGiven None limits before = Unit {0}
GroupIsGiven (Some group) limits before =
    IsGroup group limits before × (joined group.fragments ≡ group_piece limits.group group.number before)
