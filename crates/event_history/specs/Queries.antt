-- What a history says of queries.
use Rattle.std.specs.Prelude.{ℕ, ◌+◌, Bool, false, ◌||◌, ◌==◌, if◌then◌else◌, List, [], ◌∷◌, Option, None, Some}
use Rattle.query_meaning.specs.declared.expr.Expr.{Expr}
use Rattle.event_history.specs.declared.entry.Deed.{Deed}
use Rattle.event_history.specs.declared.entry.Deed.TheVariants.{Register, Take, Leave}
use Rattle.event_history.specs.declared.entry.Entry.{Entry}
use Rattle.event_history.specs.declared.entry.Mode.{Mode}
use Rattle.event_history.specs.Histories.{event_count}
use Rattle.event_history.specs.Modes.{past_begin}

-- how a query was registered: its registration number is the number of events there were
pub record Registration : Type 0 where
  pub mode : Mode
  pub expr : Expr
  pub from : ℕ

abbrev pub registration_after : ℕ → Deed → ℕ → Option Registration → Option Registration
registration_after q (Register r mode expr) n rest = if r == q then Some (record { mode = mode; expr = expr; from = n }) else rest
registration_after q _ n rest = rest

abbrev pub registration : ℕ → List Entry → Option Registration
registration q [] = None
registration q (e ∷ before) = registration_after q e.deed (event_count before) (registration q before)

abbrev pub queries_after : Deed → ℕ → ℕ
queries_after (Register r mode expr) n = n + 1
queries_after _ n = n

-- how many queries were registered
abbrev pub query_count : List Entry → ℕ
query_count [] = 0
query_count (e ∷ before) = queries_after e.deed (query_count before)

abbrev pub position_after : ℕ → Deed → ℕ → ℕ × ℕ → ℕ × ℕ
position_after q (Register r mode expr) n rest = if r == q then (past_begin mode n, n) else rest
position_after q (Take r past_to live_to) n rest = if r == q then (past_to, live_to) else rest
position_after q _ n rest = rest

-- the two positions of a query: those of its last take, and before it the beginnings of its two parts
abbrev pub position : ℕ → List Entry → ℕ × ℕ
position q [] = (0, 0)
position q (e ∷ before) = position_after q e.deed (event_count before) (position q before)

abbrev pub leaves : ℕ → Deed → Bool
leaves q (Leave r) = r == q
leaves q _ = false

abbrev pub has_left : ℕ → List Entry → Bool
has_left q [] = false
has_left q (e ∷ before) = leaves q e.deed || has_left q before
