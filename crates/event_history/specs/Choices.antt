-- What is next: the batch to claim, the group to merge, and where a take stops.
use Rattle.std.specs.Prelude.{ℕ, zero, suc, ◌+◌, Bool, not, ◌&&◌, if◌then◌else◌, List, Option, None, Some, min, max, nat_lt}
use Rattle.std.specs.Option.{option_or}
use Rattle.query_meaning.specs.declared.expr.Expr.{Expr}
use Rattle.event_history.specs.declared.entry.Entry.{Entry}
use Rattle.event_history.specs.Histories.{batch_count, event_count, first_of, is_indexed, is_marked, is_sealed, is_full}
use Rattle.event_history.specs.Modes.{live_end}
use Rattle.event_history.specs.Queries.{Registration}

abbrev pub some_if : Bool → ℕ → Option ℕ
some_if b n = if b then Some n else None

-- the least number below n that passes
abbrev pub least : (ℕ → Bool) → ℕ → Option ℕ
least test zero = None
least test (suc n) = option_or (least test n) (some_if (test n) n)

-- the batch is neither indexed nor claimed
abbrev pub is_free : List Entry → ℕ → Bool
is_free before b = not (is_indexed b before) && not (is_marked b before)

-- the batch that is claimed next
abbrev pub next_claim : List Entry → Option ℕ
next_claim before = least (is_free before) (batch_count before)

abbrev pub is_waiting : ℕ → List Entry → ℕ → Bool
is_waiting size before k = not (is_sealed k before) && is_full size k before

-- the group that is merged next
abbrev pub next_group : ℕ → List Entry → Option ℕ
next_group size before = least (is_waiting size before) (batch_count before)

-- the batch has an event with an id from `low` on and below `high`
abbrev pub reaches : ℕ → ℕ → List Entry → ℕ → Bool
reaches low high before b = nat_lt (max low (first_of b before)) (min high (first_of (b + 1) before))

abbrev pub holds_up : ℕ → ℕ → List Entry → ℕ → Bool
holds_up low high before b = not (is_indexed b before) && reaches low high before b

-- the batch that a take stops at: the least without an index that has an event from the past position on and below the
-- registration number
abbrev pub again_of : ℕ → ℕ → List Entry → Option ℕ
again_of position from before = least (holds_up position from before) (batch_count before)

abbrev pub stop_at : ℕ → ℕ → List Entry → Option ℕ → ℕ
stop_at position from before None = from
stop_at position from before (Some b) = max position (first_of b before)

-- what a take answers: the query's expression, its two ranges, and the batch that it stopped at
pub record Taking : Type 0 where
  pub expr : Expr
  pub past_from : ℕ
  pub past_to : ℕ
  pub live_from : ℕ
  pub live_to : ℕ
  pub again : Option ℕ

abbrev pub taking_at : Registration → ℕ × ℕ → List Entry → Taking
taking_at g at before = record {
  expr = g.expr;
  past_from = at.0;
  past_to = stop_at at.0 g.from before (again_of at.0 g.from before);
  live_from = at.1;
  live_to = live_end g.mode g.from (event_count before);
  again = again_of at.0 g.from before;
}
