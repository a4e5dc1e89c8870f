-- Laws of histories.
use Rattle.std.specs.Prelude.{◌≡◌, ℕ, ◌≤◌, ◌==◌, Bool, true, not, ◌&&◌, ◌||◌, if◌then◌else◌, List, [], ◌∷◌, ◌++◌, Option, None, Some, filter, flat_map, take, slice_get, nat_le, nat_lt}
use Rattle.query_meaning.specs.declared.expr.Expr.{Expr}
use Rattle.event_history.specs.declared.entry.Entry.{Entry}
use Rattle.event_history.specs.declared.entry.Limits.{Limits}
use Rattle.event_history.specs.Delivered.{delivered, is_below}
use Rattle.event_history.specs.Events.{Event, answer, matches}
use Rattle.event_history.specs.Histories.{accepted, batch_count, event_count, events, first_of, is_full, is_indexed, is_sealed}
use Rattle.event_history.specs.Legal.{Legal}
use Rattle.event_history.specs.Pieces.{batch_answer, held_of}
use Rattle.event_history.specs.Modes.{past_begin}
use Rattle.event_history.specs.Queries.{Registration, has_left, position, registration}

-- What was told of ids below the registration number are the matching events of the past part up to the past position,
-- and what was told of ids from there on are those of the live part up to the live position. Each stands there once, in
-- ascending order.
pub record IsTold (q : ℕ) (before : List Entry) (g : Registration) : Type 0 where
  pub past : filter (is_below g.from) (delivered q before) ≡ answer g.expr (events before) (past_begin g.mode g.from) (position q before).0
  pub live : filter (λ x. not (is_below g.from x)) (delivered q before) ≡ answer g.expr (events before) g.from (position q before).1

abbrev pub DeliversExactly : Limits → List Entry → ℕ → Type 0
DeliversExactly limits before q = Legal limits before → (g : Registration) → registration q before ≡ Some g → IsTold q before g

-- the id lies in the past part below the past position, or in the live part below the live position
abbrev pub is_due : Registration → ℕ × ℕ → ℕ → Bool
is_due g at id = (nat_le (past_begin g.mode g.from) id && nat_lt id at.0) || (nat_le g.from id && nat_lt id at.1)

abbrev pub told_as : (Event → Bool) → ℕ → Option Event → List (ℕ × Event)
told_as test id None = []
told_as test id (Some x) = if test x then (id, x) ∷ [] else []

-- Of each id that is due, the event with that id was told once, where it matches. Of no other id anything was told.
abbrev pub TellsOnce : Limits → List Entry → ℕ → Type 0
TellsOnce limits before q =
    Legal limits before → (g : Registration) → registration q before ≡ Some g → (id : ℕ)
    → filter (λ (x : ℕ × Event). x.0 == id) (delivered q before)
    ≡ (if is_due g (position q before) id then told_as (matches g.expr) id (slice_get (events before) id) else [])

-- the answer over a range is that of the batches that reach into it
abbrev pub BatchesAnswer : List Entry → Type 0
BatchesAnswer before =
    (expr : Expr) (from to : ℕ) → to ≤ event_count before
    → flat_map (batch_answer (matches expr) from to) (held_of from to before) ≡ answer expr (events before) from to

-- what a later history keeps of an earlier one
pub record Keeps (size : ℕ) (later before : List Entry) : Type 0 where
  pub batches : take (batch_count before) (accepted later) ≡ accepted before
  pub count : batch_count before ≤ batch_count later
  pub events : take (event_count before) (events later) ≡ events before
  pub rows : event_count before ≤ event_count later
  pub first : (b : ℕ) → b ≤ batch_count before → first_of b later ≡ first_of b before
  pub registered : (q : ℕ) (g : Registration) → registration q before ≡ Some g → registration q later ≡ Some g
  pub indexed : (b : ℕ) → is_indexed b before ≡ true → is_indexed b later ≡ true
  pub sealed : (k : ℕ) → is_sealed k before ≡ true → is_sealed k later ≡ true
  pub full : (k : ℕ) → is_full size k before ≡ true → is_full size k later ≡ true
  pub left : (q : ℕ) → has_left q before ≡ true → has_left q later ≡ true

abbrev pub Grows : Limits → List Entry → List Entry → Type 0
Grows limits more before = Legal limits (more ++ before) → Keeps limits.group (more ++ before) before
