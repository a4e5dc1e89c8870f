-- What each call on a store replies at a history, and the deed that it appends.
use Rattle.std.specs.Prelude.{ℕ, zero, suc, ◌+◌, ◌*◌, if◌then◌else◌, List, [], ◌∷◌, ◌++◌, Option, None, Some, length, nat_lt, nat_le, slice_get}
use Rattle.query_meaning.specs.declared.expr.Expr.{Expr}
use Rattle.event_batch.specs.Contents.{Spelled}
use Rattle.event_history.specs.declared.entry.Deed.{Deed}
use Rattle.event_history.specs.declared.entry.Deed.TheVariants as deed
use Rattle.event_history.specs.declared.entry.Entry.{Entry}
use Rattle.event_history.specs.declared.entry.Limits.{Limits}
use Rattle.event_history.specs.declared.entry.Mode.{Mode}
use Rattle.event_history.specs.Choices.{Taking, next_claim, next_group, taking_at}
use Rattle.event_history.specs.Histories.{accepted, batch_count, event_count, first_of, is_indexed, is_sealed}
use Rattle.event_history.specs.Pieces.{Held, Piece, held_of, parts_of, piece_in}
use Rattle.event_history.specs.Modes.{past_begin}
use Rattle.event_history.specs.Queries.{Registration, has_left, position, query_count, registration}

-- what is asked of a store
pub data Request : Type 0 where
  Accept : (packed : Spelled) → Request
  Claim : Request
  ClaimFor : (batch : ℕ) → Request
  Unclaim : (batch : ℕ) → Request
  Publish : (batch : ℕ) → Request
  ClaimGroup : Request
  PublishGroup : (group : ℕ) → Request
  Register : (mode : Mode) (expr : Expr) → Request
  Take : (query : ℕ) → Request
  Leave : (query : ℕ) → Request

pub data Reply : Type 0 where
  Accepted : (batch first : ℕ) → Reply
  Full : (have limit : ℕ) → Reply
  Claimed : (batch first : ℕ) (packed : Spelled) → Reply
  NoneFree : Reply
  Done : Reply
  Already : (batch : ℕ) → Reply
  GroupClaimed : (group : ℕ) (pieces : List Piece) → Reply
  NoGroup : Reply
  AlreadySealed : (group : ℕ) → Reply
  Registered : (query from : ℕ) (mode : Mode) → Reply
  TooMany : (limit : ℕ) → Reply
  Ahead : (from have : ℕ) → Reply
  Taken : (taking : Taking) (parts : List Piece) (past_batches live_batches : List Held) → Reply
  Left : (query : ℕ) → Reply

-- a reply and the deed that is appended, if one is
pub record Step : Type 0 where
  pub reply : Reply
  pub deed : Option Deed

abbrev pub replies : Reply → Step
replies r = record { reply = r; deed = None }

abbrev pub does : Reply → Deed → Step
does r d = record { reply = r; deed = Some d }

abbrev pub claim_of : List Entry → ℕ → Option Spelled → Reply
claim_of before b None = NoneFree
claim_of before b (Some packed) = Claimed b (first_of b before) packed

abbrev pub claim_step : List Entry → Option ℕ → Step
claim_step before None = replies NoneFree
claim_step before (Some b) = does (claim_of before b (slice_get (accepted before) b)) (deed.Claim b)

-- the batches of a group, as pieces
abbrev pub group_pieces : List Entry → ℕ → ℕ → List Piece
group_pieces before b zero = []
group_pieces before b (suc n) = group_pieces before b n ++ piece_in before (b + n) ∷ []

abbrev pub group_reply : ℕ → List Entry → Option ℕ → Reply
group_reply size before None = NoGroup
group_reply size before (Some k) = GroupClaimed k (group_pieces before (k * size) size)

abbrev pub taken_step : ℕ → List Entry → ℕ → Taking → Step
taken_step size before q t =
    does (Taken t (parts_of size t.past_from t.past_to before) (held_of t.past_from t.past_to before) (held_of t.live_from t.live_to before))
    (deed.Take q t.past_to t.live_to)

abbrev pub take_step : ℕ → List Entry → ℕ → Option Registration → Step
take_step size before q None = replies (Left q)
take_step size before q (Some g) = taken_step size before q (taking_at g (position q before) before)

abbrev pub step : Limits → List Entry → Request → Step
step limits before (Accept packed) =
    if nat_lt limits.rows (event_count before + length packed.content.rows) then replies (Full (event_count before) limits.rows)
    else does (Accepted (batch_count before) (event_count before)) (deed.Accept packed)
step limits before Claim = claim_step before (next_claim before)
step limits before (ClaimFor b) = replies (claim_of before b (slice_get (accepted before) b))
step limits before (Unclaim b) = does Done (deed.Unclaim b)
step limits before (Publish b) = if is_indexed b before then replies (Already b) else does Done (deed.Index b)
step limits before ClaimGroup = replies (group_reply limits.group before (next_group limits.group before))
step limits before (PublishGroup k) = if is_sealed k before then replies (AlreadySealed k) else does Done (deed.Seal k)
step limits before (Register mode expr) =
    if nat_le limits.queries (query_count before) then replies (TooMany limits.queries)
    else (if nat_lt (event_count before) (past_begin mode (event_count before)) then replies (Ahead (past_begin mode (event_count before)) (event_count before))
    else does (Registered (query_count before + 1) (event_count before) mode) (deed.Register (query_count before + 1) mode expr))
step limits before (Take q) = if has_left q before then replies (Left q) else take_step limits.group before q (registration q before)
step limits before (Leave q) = if has_left q before then replies (Left q) else does Done (deed.Leave q)
