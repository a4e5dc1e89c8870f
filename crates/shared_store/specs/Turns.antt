-- What a call on the shared store does: one turn, which makes the step of its request at the history that it finds.
use Rattle.std.specs.Prelude.{◌≡◌, ℕ, List, [], ◌∷◌, ◌++◌, Option, None, Some}
use Rattle.event_history.specs.declared.entry.Deed.TheVariants.{Take}
use Rattle.event_history.specs.declared.entry.Entry.{Entry}
use Rattle.event_history.specs.declared.entry.Limits.{Limits}
use Rattle.event_history.specs.Histories.{past}
use Rattle.event_history.specs.Legal.{Legal}
use Rattle.event_history.specs.Queries.{registration}
use Rattle.event_history.specs.Steps.{Reply, Request, step}
use Rattle.history_core.specs.Shown.{entries_of}
use Rattle.history_core.specs.Snapshots.{IsSnapshot, Snapshot}
use Rattle.turn_book.specs.Histories.{Outside, own_of}
use Rattle.turn_book.specs.Standings.{Standing}

-- the seat that made an entry
abbrev pub seat_of : Entry → ℕ
seat_of e = e.seat

-- How a root or a pass stands: its seat, the history that it has seen, and the limits of the store.
abbrev pub Stands : Type 0
Stands = Standing Entry Limits

-- the entries that its own seats made
abbrev pub own : Stands → List Entry
own s = own_of seat_of s.names s.seen

-- The reply and the new entries are those of the request's step. Where memory was wanting there is no reply and no entry.
abbrev pub Answers : Limits → List Entry → ℕ → Request → Option Reply → List Entry → Type 0
Answers limits found seat request None new = new ≡ []
Answers limits found seat request (Some reply) new =
    (reply ≡ (step limits (past found) request).reply) × (new ≡ entries_of seat (step limits (past found) request).deed)

-- One turn. The history that it found begins with what was seen and goes on with entries of others. There the request's
-- step was made, with the limits of the store. Then all of the history was seen, which is legal, and nothing else changed;
-- of its own entries just the new ones came.
pub record IsTurn (request : Request) (before after : Stands) (reply : Option Reply) : Type 0 where
  pub since : List Entry
  pub found : List Entry
  pub new : List Entry
  pub limits : Limits
  pub framed : before.frame ≡ Some limits
  pub begins : found ≡ before.seen ++ since
  pub others : Outside seat_of before.names since
  pub answered : Answers limits found before.seat request reply new
  pub legal : Legal limits (past (found ++ new))
  pub leaves : after ≡ record before { seen = found ++ new }
  pub mine : own after ≡ own before ++ new

-- The last entry that was seen is this take of the query, and the snapshot is that of a take at the history before it.
pub record IsTakenAt (s : Stands) (query : ℕ) (x : Snapshot) : Type 0 where
  pub limits : Limits
  pub before : List Entry
  pub framed : s.frame ≡ Some limits
  pub last : past s.seen ≡ record { seat = s.seat; deed = Take query x.taking.past_to x.taking.live_to } ∷ before
  pub legal : Legal limits before
  pub snapshot : IsSnapshot limits.group before query x (registration query before)
