-- What a store keeps beside its history.
use Rattle.std.specs.Prelude.{◌≡◌, ℕ, ◌+◌, ◌*◌, ◌<◌, ◌≤◌, true, false, List, [], ◌∷◌, Option, None, Some, is_some, length, slice_get, slice_index_or}
use Rattle.query_meaning.specs.declared.expr.Expr.{Expr}
use Rattle.event_history.specs.declared.entry.Deed.{Deed}
use Rattle.event_history.specs.declared.entry.Deed.TheVariants.{Register}
use Rattle.event_history.specs.declared.entry.Entry.{Entry}
use Rattle.event_history.specs.declared.entry.Limits.{Limits}
use Rattle.event_history.specs.Choices.{is_free}
use Rattle.event_history.specs.Histories.{accepted, batch_count, event_count, first_of, is_indexed, is_marked, is_sealed, past}
use Rattle.event_history.specs.Legal.{Legal}
use Rattle.event_history.specs.Pieces.{Piece, group_piece}
use Rattle.event_history.specs.Queries.{Registration, has_left, position, query_count, registration}
use Rattle.history_core.specs.declared.kept.Kept.{Kept}
use Rattle.history_core.specs.declared.kept.Query.{Query}
use Rattle.history_core.specs.declared.kept.Seal.{Seal}

-- an index that is there stands for the piece
abbrev pub Stands : Option Piece → Piece → Type 0
Stands None p = Unit {0}
Stands (Some q) p = q ≡ p

-- its content, first id and end, whether it is indexed and marked, and what its index stands for
abbrev pub IsKept : List Entry → ℕ → Kept → Type 0
IsKept before b k =
    (slice_get (accepted before) b ≡ Some k.packed)
    × (k.first ≡ first_of b before)
    × (k.end ≡ first_of (b + 1) before)
    × (is_some k.index ≡ is_indexed b before)
    × (k.marked ≡ is_marked b before)
    × Stands k.index (record { batch = b; first = k.first; contents = k.packed.content ∷ [] })

abbrev pub EachKept : List Entry → List Kept → Type 0
EachKept before kept = (b : ℕ) (k : Kept) → b < length kept → k ≡ slice_index_or kept b k → IsKept before b k

abbrev pub NoneFreeBelow : List Entry → ℕ → Type 0
NoneFreeBelow before low = (b : ℕ) → b < low → is_free before b ≡ false

-- the expression of the registration at a place of the history
abbrev pub expr_of : Deed → Option Expr
expr_of (Register q mode expr) = Some expr
expr_of _ = None

abbrev pub expr_in : Option Entry → Option Expr
expr_in None = None
expr_in (Some e) = expr_of e.deed

abbrev pub expr_at : List Entry → ℕ → Option Expr
expr_at history place = expr_in (slice_get history place)

abbrev pub registered_as : Query → Option Expr → Option Registration
registered_as q None = None
registered_as q (Some expr) = Some (record { mode = q.mode; expr = expr; from = q.registered })

-- its place and registration, its position, and whether it has left
abbrev pub IsQuery : List Entry → List Entry → ℕ → Query → Type 0
IsQuery history before n q =
    (is_some (expr_at history q.place) ≡ true)
    × (registration n before ≡ registered_as q (expr_at history q.place))
    × (position n before ≡ (q.past_to, q.live_to))
    × (q.left ≡ has_left n before)

abbrev pub EachQuery : List Entry → List Entry → List Query → Type 0
EachQuery history before queries = (i : ℕ) (q : Query) → i < length queries → q ≡ slice_index_or queries i q → IsQuery history before (i + 1) q

-- the index of a group, if there is one
abbrev pub seal_in : Option Seal → Option Piece
seal_in None = None
seal_in (Some s) = s.sealed

abbrev pub seal_at : List Seal → ℕ → Option Piece
seal_at seals k = seal_in (slice_get seals k)

-- of a group: whether it is sealed, what its index stands for, and that its batches are there
abbrev pub IsGroup : ℕ → List Entry → List Seal → ℕ → Type 0
IsGroup size before seals k =
    (is_some (seal_at seals k) ≡ is_sealed k before)
    × Stands (seal_at seals k) (group_piece size k before)
    × (is_sealed k before ≡ true → k * size + size ≤ batch_count before)

abbrev pub EachGroup : ℕ → List Entry → List Seal → Type 0
EachGroup size before seals = (k : ℕ) → IsGroup size before seals k

pub record Keeps (limits : Limits) (history before : List Entry) (rows : ℕ) (kept : List Kept) (low : ℕ) (queries : List Query) : Type 0 where
  pub legal : Legal limits before
  pub rows_are : rows ≡ event_count before
  pub fits : rows ≤ limits.rows
  pub count : length kept ≡ batch_count before
  pub each : EachKept before kept
  pub low_in : low ≤ length kept
  pub busy : NoneFreeBelow before low
  pub queries_are : length queries ≡ query_count before
  pub each_query : EachQuery history before queries

abbrev pub AllSealedBelow : List Entry → ℕ → Type 0
AllSealedBelow before unsealed = (k : ℕ) → k < unsealed → is_sealed k before ≡ true

pub record KeepsGroups (limits : Limits) (before : List Entry) (seals : List Seal) (unsealed : ℕ) : Type 0 where
  pub size : 0 < limits.group
  pub few : limits.group ≤ 256
  pub each : EachGroup limits.group before seals
  pub below : AllSealedBelow before unsealed

-- all of it
pub record IsStore (limits : Limits) (history : List Entry) (rows : ℕ) (kept : List Kept) (low : ℕ) (queries : List Query) (seals : List Seal) (unsealed : ℕ) : Type 0 where
  pub main : Keeps limits history (past history) rows kept low queries
  pub groups : KeepsGroups limits (past history) seals unsealed
