-- Which histories are legal.
use Rattle.std.specs.Prelude.{◌≡◌, ℕ, ◌+◌, ◌<◌, ◌≤◌, true, false, List, [], ◌∷◌, Option, None, Some, length, is_some}
use Rattle.event_history.specs.declared.entry.Deed.{Deed}
use Rattle.event_history.specs.declared.entry.Deed.TheVariants.{Accept, Claim, Unclaim, Index, Seal, Register, Take, Leave}
use Rattle.event_history.specs.declared.entry.Entry.{Entry}
use Rattle.event_history.specs.declared.entry.Limits.{Limits}
use Rattle.event_history.specs.Choices.{next_claim, taking_at}
use Rattle.event_history.specs.Histories.{batch_count, event_count, is_full, is_indexed, is_sealed}
use Rattle.event_history.specs.Modes.{past_begin}
use Rattle.event_history.specs.Queries.{Registration, has_left, position, query_count, registration}

-- a take of a registered query goes where a take goes
abbrev pub GoesTo : List Entry → ℕ → ℕ → ℕ → Option Registration → Type 0
GoesTo before q past_to live_to None = ⊥
GoesTo before q past_to live_to (Some g) =
    (past_to ≡ (taking_at g (position q before) before).past_to) × (live_to ≡ (taking_at g (position q before) before).live_to)

-- the rule of a deed on the history before it
abbrev pub Allowed : Limits → List Entry → Deed → Type 0
Allowed limits before (Accept packed) = event_count before + length packed.content.rows ≤ limits.rows
Allowed limits before (Claim b) = next_claim before ≡ Some b
Allowed limits before (Unclaim b) = b < batch_count before
Allowed limits before (Index b) = (b < batch_count before) × (is_indexed b before ≡ false)
Allowed limits before (Seal k) = (is_full limits.group k before ≡ true) × (is_sealed k before ≡ false)
Allowed limits before (Register q mode expr) =
    (q ≡ query_count before + 1) × (q ≤ limits.queries) × (past_begin mode (event_count before) ≤ event_count before)
Allowed limits before (Take q past_to live_to) = (has_left q before ≡ false) × GoesTo before q past_to live_to (registration q before)
Allowed limits before (Leave q) = (has_left q before ≡ false) × (is_some (registration q before) ≡ true)

-- each entry meets its rule on the history before it
abbrev pub Legal : Limits → List Entry → Type 0
Legal limits [] = Unit {0}
Legal limits (e ∷ before) = Legal limits before × Allowed limits before e.deed
