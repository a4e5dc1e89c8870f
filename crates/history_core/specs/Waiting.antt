-- How many batches wait for a query.
use Rattle.std.specs.Prelude.{ℕ, zero, suc, ◌+◌, Bool, if◌then◌else◌, List, Option, None, Some, nat_le}
use Rattle.event_history.specs.declared.entry.Entry.{Entry}
use Rattle.event_history.specs.declared.entry.Mode.{Mode}
use Rattle.event_history.specs.declared.entry.Mode.TheVariants.{Past}
use Rattle.event_history.specs.Histories.{batch_count, first_of}
use Rattle.event_history.specs.Queries.{Registration, position}

-- how many numbers below n pass
abbrev pub count_upto : (ℕ → Bool) → ℕ → ℕ
count_upto test zero = 0
count_upto test (suc n) = count_upto test n + (if test n then 1 else 0)

-- how many batches begin at an id or behind it
abbrev pub batches_from : ℕ → List Entry → ℕ
batches_from id before = count_upto (λ b. nat_le id (first_of b before)) (batch_count before)

-- the batches that came since the live position; none where there is no live part
abbrev pub waiting_for : Mode → ℕ → List Entry → ℕ
waiting_for Past live before = 0
waiting_for _ live before = batches_from live before

-- their number, where an inbox has room for them
abbrev pub waiting_in : ℕ → List Entry → ℕ → Option Registration → Option ℕ
waiting_in inbox before q None = None
waiting_in inbox before q (Some g) =
    (if nat_le (waiting_for g.mode (position q before).1 before) inbox then Some (waiting_for g.mode (position q before).1 before) else None)
