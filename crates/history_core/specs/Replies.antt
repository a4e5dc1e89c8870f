-- That a call makes the step of its request.
use Rattle.std.specs.Prelude.{◌≡◌, ℕ, Bool, ◌&&◌, nat_le, nat_lt, ◌*◌, ◌<◌, ◌≤◌, true, List, [], ◌∷◌, Option, None, Some, Result, Ok, Err, length, slice_get}
use Rattle.std.specs.declared.alloc.Global.{Global}
use Rattle.std.specs.declared.sync.Arc.{Arc}
use Rattle.std.specs.declared.alloc.AllocError.{AllocError}
use Rattle.event_batch.specs.Contents.{Spelled}
use Rattle.event_history.specs.declared.entry.Entry.{Entry}
use Rattle.event_history.specs.Histories.{accepted, first_of, is_full, past}
use Rattle.event_history.specs.Pieces.{AreAdjacent, Piece, group_piece, joined}
use Rattle.event_history.specs.Queries.{query_count}
use Rattle.event_history.specs.Steps as s
use Rattle.query_meaning.specs.declared.expr.Expr.{Expr}
use Rattle.history_core.specs.declared.answers.Accepted.{Accepted}
use Rattle.history_core.specs.declared.answers.AcceptEnd.{AcceptEnd}
use Rattle.history_core.specs.declared.answers.AcceptEnd.TheVariants as accept
use Rattle.history_core.specs.declared.answers.Claim.{Claim}
use Rattle.history_core.specs.declared.answers.PublishEnd.{PublishEnd}
use Rattle.history_core.specs.declared.answers.PublishEnd.TheVariants as publish
use Rattle.history_core.specs.declared.answers.Group.{Group}
use Rattle.history_core.specs.declared.answers.SealEnd.{SealEnd}
use Rattle.history_core.specs.declared.answers.SealEnd.TheVariants as seal
use Rattle.history_core.specs.declared.answers.LeaveEnd.{LeaveEnd}
use Rattle.history_core.specs.declared.answers.LeaveEnd.TheVariants as leave
use Rattle.history_core.specs.declared.answers.RegisterEnd.{RegisterEnd}
use Rattle.history_core.specs.declared.answers.RegisterEnd.TheVariants as register
use Rattle.history_core.specs.declared.session.Session.{Session}
use Rattle.history_core.specs.declared.answers.TakeEnd.{TakeEnd}
use Rattle.history_core.specs.declared.answers.TakeEnd.TheVariants as take
use Rattle.history_core.specs.declared.taken.Taken.{Taken}
use Rattle.history_core.specs.Shown.{Shown, entries_of, with_entries}

-- The call replied and appended as the step says, or found no memory and left all as it was.
abbrev pub Makes : Shown → Shown → ℕ → s.Request → Option s.Reply → Type 0
Makes old new seat request None = new ≡ old
Makes old new seat request (Some r) =
    (r ≡ (s.step old.limits (past old.history) request).reply)
    × (new ≡ with_entries old (entries_of seat (s.step old.limits (past old.history) request).deed))

-- a call that appends nothing
abbrev pub Replies : Shown → s.Request → Option s.Reply → Type 0
Replies store request None = Unit {0}
Replies store request (Some r) = r ≡ (s.step store.limits (past store.history) request).reply

abbrev pub accept_reply : Result Accepted (Spelled × AcceptEnd) → Option s.Reply
accept_reply (Ok a) = Some (s.Accepted a.batch a.first)
accept_reply (Err (packed, accept.Full have limit)) = Some (s.Full have limit)
accept_reply (Err (packed, accept.Memory)) = None

-- the claim is of this store: the batch was accepted with these bytes
abbrev pub IsClaimAt : List Entry → Claim → Type 0
IsClaimAt before c = (slice_get (accepted before) c.batch ≡ Some c.packed) × (c.first ≡ first_of c.batch before)

abbrev pub IsClaim : Shown → Claim → Type 0
IsClaim store c = IsClaimAt (past store.history) c

-- what an index of the claimed batch stands for
abbrev pub claimed_piece : Claim → Piece
claimed_piece c = record { batch = c.batch; first = c.first; contents = c.packed.content ∷ [] }

-- a claim that was given is of the store
abbrev pub GivesClaim : Shown → Option Claim → Type 0
GivesClaim store None = Unit {0}
GivesClaim store (Some c) = IsClaim store c

abbrev pub claim_given : Option Claim → s.Reply
claim_given None = s.NoneFree
claim_given (Some c) = s.Claimed c.batch c.first c.packed

abbrev pub claim_reply : Result (Option Claim) AllocError → Option s.Reply
claim_reply (Ok given) = Some (claim_given given)
claim_reply (Err e) = None

abbrev pub claim_for_reply : Result Claim AllocError → Option s.Reply
claim_for_reply (Ok c) = Some (s.Claimed c.batch c.first c.packed)
claim_for_reply (Err e) = None

abbrev pub unclaim_reply : Result (Unit {0}) (Claim × AllocError) → Option s.Reply
unclaim_reply (Ok u) = Some s.Done
unclaim_reply (Err e) = None

abbrev pub publish_reply : Result (Unit {0}) PublishEnd → Option s.Reply
publish_reply (Ok u) = Some s.Done
publish_reply (Err (publish.Already b)) = Some (s.Already b)
publish_reply (Err (publish.Memory c f)) = None

-- where memory ran out, what was handed in comes back
abbrev pub GivesBackClaim : Claim → Arc Piece Global → PublishEnd → Type 0
GivesBackClaim claim fragment (publish.Already b) = Unit {0}
GivesBackClaim claim fragment (publish.Memory c f) = (c ≡ claim) × (f ≡ fragment)

-- the group is one of this store: its batches are indexed, and its indexes stand for them
abbrev pub IsGroupAt : ℕ → List Entry → Group → Type 0
IsGroupAt size before g = (is_full size g.number before ≡ true) × (g.fragments ≡ s.group_pieces before (g.number * size) size)

abbrev pub IsGroupOf : Shown → Group → Type 0
IsGroupOf store g = IsGroupAt store.limits.group (past store.history) g

-- a group that was given is of the store
abbrev pub GivesGroup : Shown → Option Group → Type 0
GivesGroup store None = Unit {0}
GivesGroup store (Some g) = IsGroupOf store g

-- the indexes of a group that was given, joined, stand for its batches
abbrev pub MergesTo : Shown → Option Group → Type 0
MergesTo store None = Unit {0}
MergesTo store (Some g) = joined g.fragments ≡ group_piece store.limits.group g.number (past store.history)

-- indexes that may be merged: 1 to 256 of batches that follow each other
abbrev pub MayMerge : List Piece → Type 0
MayMerge pieces = (0 < length pieces) × (length pieces ≤ 256) × AreAdjacent pieces

-- the indexes of a group that was given may be merged
abbrev pub GivesMergeable : Option Group → Type 0
GivesMergeable None = Unit {0}
GivesMergeable (Some g) = MayMerge g.fragments

abbrev pub group_given : Option Group → s.Reply
group_given None = s.NoGroup
group_given (Some g) = s.GroupClaimed g.number g.fragments

abbrev pub claim_group_reply : Result (Option Group) AllocError → Option s.Reply
claim_group_reply (Ok given) = Some (group_given given)
claim_group_reply (Err e) = None

abbrev pub publish_group_reply : Result (Unit {0}) SealEnd → Option s.Reply
publish_group_reply (Ok u) = Some s.Done
publish_group_reply (Err (seal.AlreadySealed k)) = Some (s.AlreadySealed k)
publish_group_reply (Err (seal.Memory g x)) = None

abbrev pub GivesBackGroup : Group → Arc Piece Global → SealEnd → Type 0
GivesBackGroup group sealed (seal.AlreadySealed k) = Unit {0}
GivesBackGroup group sealed (seal.Memory g x) = (g ≡ group) × (x ≡ sealed)

-- the query was registered
abbrev pub IsRegisteredAt : List Entry → ℕ → Type 0
IsRegisteredAt before q = (0 < q) × (q ≤ query_count before)

abbrev pub IsRegistered : Shown → ℕ → Type 0
IsRegistered store q = IsRegisteredAt (past store.history) q

abbrev pub is_registered : List Entry → ℕ → Bool
is_registered before q = nat_lt 0 q && nat_le q (query_count before)

abbrev pub register_reply : Result Session (Expr × RegisterEnd) → Option s.Reply
register_reply (Ok session) = Some (s.Registered session.query session.registered session.mode)
register_reply (Err (expr, register.TooMany limit)) = Some (s.TooMany limit)
register_reply (Err (expr, register.Ahead from have)) = Some (s.Ahead from have)
register_reply (Err (expr, register.Memory)) = None

abbrev pub leave_reply : Result (Unit {0}) LeaveEnd → Option s.Reply
leave_reply (Ok u) = Some s.Done
leave_reply (Err (leave.Left q)) = Some (s.Left q)
leave_reply (Err leave.Memory) = None

abbrev pub take_reply : Result Taken (Session × TakeEnd) → Option s.Reply
take_reply (Ok t) = Some (s.Taken t.snapshot.taking t.snapshot.parts t.snapshot.past_batches t.snapshot.live_batches)
take_reply (Err (session, take.Left q)) = Some (s.Left q)
take_reply (Err (session, take.Memory)) = None
