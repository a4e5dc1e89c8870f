-- What a take hands out.
use Rattle.std.specs.Prelude.{◌≡◌, ℕ, ◌<◌, ◌^◌, Bool, List, Option, None, Some, max, min, nat_lt, ◌==◌, if◌then◌else◌, [], ◌∷◌}
use Rattle.event_batch.specs.Contents.{Spelled}
use Rattle.query_meaning.specs.declared.expr.Expr.{Expr}
use Rattle.event_history.specs.declared.entry.Entry.{Entry}
use Rattle.event_history.specs.declared.entry.Limits.{Limits}
use Rattle.event_history.specs.Choices.{Taking, taking_at}
use Rattle.event_history.specs.Histories.{event_count, first_of}
use Rattle.event_history.specs.Legal.{Legal}
use Rattle.event_history.specs.Pieces.{Held, Piece, held_of, parts_of}
use Rattle.event_history.specs.Queries.{Registration, position, registration}

-- where a take goes, the parts of its past range, and the batches of both ranges
pub record Snapshot : Type 0 where
  pub taking : Taking
  pub parts : List Piece
  pub past_batches : List Held
  pub live_batches : List Held

-- the snapshot is that of a take of a registered query at this history
abbrev pub IsSnapshot : ℕ → List Entry → ℕ → Snapshot → Option Registration → Type 0
IsSnapshot size before q x None = ⊥
IsSnapshot size before q x (Some g) =
    (x.taking ≡ taking_at g (position q before) before)
    × (x.parts ≡ parts_of size x.taking.past_from x.taking.past_to before)
    × (x.past_batches ≡ held_of x.taking.past_from x.taking.past_to before)
    × (x.live_batches ≡ held_of x.taking.live_from x.taking.live_to before)

-- The snapshot is that of a take at some legal history, whose events have numbers of 64 bits.
pub record WasTaken (x : Snapshot) : Type 0 where
  pub limits : Limits
  pub before : List Entry
  pub query : ℕ
  pub legal : Legal limits before
  pub grouped : 0 < limits.group
  pub counted : event_count before < 2 ^ 64
  pub snapshot : IsSnapshot limits.group before query x (registration query before)

-- what is kept of a snapshot, as one
abbrev pub snapshot_of : Expr → ℕ × ℕ → ℕ × ℕ → Option ℕ → List Piece → List Held → List Held → Snapshot
snapshot_of expr past live again parts past_batches live_batches = record {
  taking = record { expr = expr; past_from = past.0; past_to = past.1; live_from = live.0; live_to = live.1; again = again };
  parts = parts;
  past_batches = past_batches;
  live_batches = live_batches;
}

-- the batches from one on and below another have an event in the range
abbrev pub spans : ℕ → ℕ → List Entry → ℕ → ℕ → Bool
spans low high before b c = nat_lt (max low (first_of b before)) (min high (first_of c before))

-- the bytes of the batch with a number
abbrev pub packed_of : ℕ → List Held → Option Spelled
packed_of number [] = None
packed_of number (h ∷ held) = if h.no == number then Some h.packed else packed_of number held
