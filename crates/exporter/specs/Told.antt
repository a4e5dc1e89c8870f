-- What the bits of a part tell of the rows of one of its batches.
use Rattle.std.specs.Prelude.{◌≡◌, ◌≢◌, ℕ, ◌+◌, ◌<◌, ◌≤◌, Bool, true, ◌&&◌, List, Some, nat_le, nat_lt, slice_get}
use Rattle.query_meaning.specs.declared.expr.Expr.{Expr}
use Rattle.query_meaning.specs.Sure.{maybe, sure}
use Rattle.column_index.specs.declared.kept.Pair.{Pair}
use Rattle.event_history.specs.Covers.{piece_end}
use Rattle.event_history.specs.Events.{Event}
use Rattle.event_history.specs.Pieces.{Held, Piece}

-- from one row of the part on the bits are those of these events
pub record Tells (expr : Expr) (pair : Pair) (offset : ℕ) (events : List Event) : Type 0 where
  pub sure : (k : ℕ) (e : Event) → slice_get events k ≡ Some e → slice_get pair.sure (offset + k) ≡ Some (sure e.heading e.row expr)
  pub maybe : (k : ℕ) (e : Event) → slice_get events k ≡ Some e → slice_get pair.maybe (offset + k) ≡ Some (maybe e.heading e.row expr)

-- the first candidate from a place on, or the end where none stands before it
pub record IsNextCandidate (bits : List Bool) (offset from end at : ℕ) : Type 0 where
  pub after : from ≤ at
  pub within : at ≤ end
  pub one : at < end → slice_get bits (offset + at) ≡ Some true
  pub first : (k : ℕ) → from ≤ k → k < at → slice_get bits (offset + k) ≢ Some true

-- by its number the batch is one of the piece's
abbrev pub belongs : Piece → Held → Bool
belongs p h = nat_le p.batch h.no && nat_lt h.no (piece_end p)
