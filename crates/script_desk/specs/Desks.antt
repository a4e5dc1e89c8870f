-- What a script holds beside a store, and what each line replies and makes of both.
use Rattle.std.specs.Prelude.{◌≡◌, ℕ, zero, suc, ◌-◌, Bool, true, false, ◌==◌, if◌then◌else◌, List, [], ◌∷◌, ◌++◌, Option, None, Some, Result, Ok, Err, codes, is_some, length, nat_lt, slice_get, slice_set}
use Rattle.std.specs.List.{list_any}
use Rattle.query_meaning.specs.declared.expr.Expr.{Expr}
use Rattle.query_parse.specs.declared.fault.QueryFault.{QueryFault}
use Rattle.query_parse.specs.Parsing.{parsed}
use Rattle.event_batch.specs.Contents.{Spelled}
use Rattle.event_history.specs.declared.entry.Entry.{Entry}
use Rattle.event_history.specs.declared.entry.Limits.{Limits}
use Rattle.event_history.specs.declared.entry.Mode.{Mode}
use Rattle.event_history.specs.Histories.{batch_count, event_count, past}
use Rattle.event_history.specs.Steps as s
use Rattle.history_core.specs.Shown.{entries_of}
use Rattle.history_core.specs.Snapshots.{Snapshot}
use Rattle.exporter.specs.Pages.{touched_in}
use Rattle.script_desk.specs.Texts.{accepted_text, ahead_text, full_text, page_text, refused_text, registered_text, told}

-- The store's limits and history, the batches whose claims are held, the groups that are held, the earliest first, and of
-- each registered query the take of it that is held, if one is.
pub record Desk : Type 0 where
  pub limits : Limits
  pub history : List Entry
  pub claims : List ℕ
  pub groups : List ℕ
  pub queries : List (Option Snapshot)

-- what a line makes of a desk, and what it replies
pub record Played : Type 0 where
  pub desk : Desk
  pub reply : List ℕ

abbrev pub replied : Desk → List ℕ → Played
replied d text = record { desk = d; reply = text }

-- the store's step at the desk's history
abbrev pub step_at : Desk → s.Request → s.Step
step_at d request = s.step d.limits (past d.history) request

-- the desk after the store's step, made by seat 0
abbrev pub moved : Desk → s.Request → Desk
moved d request = record {
  limits = d.limits;
  history = d.history ++ entries_of 0 (step_at d request).deed;
  claims = d.claims;
  groups = d.groups;
  queries = d.queries;
}

abbrev pub with_claims : Desk → List ℕ → Desk
with_claims d claims = record { limits = d.limits; history = d.history; claims = claims; groups = d.groups; queries = d.queries }

abbrev pub with_groups : Desk → List ℕ → Desk
with_groups d groups = record { limits = d.limits; history = d.history; claims = d.claims; groups = groups; queries = d.queries }

abbrev pub with_queries : Desk → List (Option Snapshot) → Desk
with_queries d queries = record { limits = d.limits; history = d.history; claims = d.claims; groups = d.groups; queries = queries }

-- Claims.
abbrev pub holds_claim : ℕ → Desk → Bool
holds_claim b d = list_any (λ c. c == b) d.claims

abbrev pub without_first : ℕ → List ℕ → List ℕ
without_first b [] = []
without_first b (c ∷ claims) = if c == b then claims else c ∷ without_first b claims

abbrev pub without_claim : ℕ → Desk → Desk
without_claim b d = with_claims d (without_first b d.claims)

abbrev pub claim_played : Desk → s.Reply → Played
claim_played d (s.Claimed b first packed) = replied (with_claims d (d.claims ++ b ∷ [])) (told (codes "claim ") b)
claim_played d _ = replied d (codes "claim none")

-- `claim`
abbrev pub play_claim : Desk → Played
play_claim d = claim_played (moved d s.Claim) (step_at d s.Claim).reply

-- `unclaim B`
abbrev pub play_unclaim : ℕ → Desk → Played
play_unclaim b d =
    if holds_claim b d then replied (without_claim b (moved d (s.Unclaim b))) (told (codes "unclaimed ") b)
    else replied d (told (codes "no claim ") b)

-- `lose B`
abbrev pub play_lose : ℕ → Desk → Played
play_lose b d = if holds_claim b d then replied (without_claim b d) (told (codes "lost ") b) else replied d (told (codes "no claim ") b)

abbrev pub index_reply : ℕ → s.Reply → List ℕ
index_reply b (s.Already c) = told (codes "already ") b
index_reply b _ = told (codes "indexed ") b

-- `index B`: with the held claim, which is then held no more, or with one for it
abbrev pub play_index : ℕ → Desk → Played
play_index b d =
    if nat_lt b (batch_count (past d.history)) then replied (without_claim b (moved d (s.Publish b))) (index_reply b (step_at d (s.Publish b)).reply)
    else replied d (told (codes "no batch ") b)

-- Groups.
abbrev pub group_played : Desk → s.Reply → Played
group_played d (s.GroupClaimed k pieces) = replied (with_groups d (d.groups ++ k ∷ [])) (told (codes "group ") k)
group_played d _ = replied d (codes "group none")

-- `group`
abbrev pub play_group : Desk → Played
play_group d = group_played d (step_at d s.ClaimGroup).reply

abbrev pub seal_reply : ℕ → s.Reply → List ℕ
seal_reply k (s.AlreadySealed g) = told (codes "already sealed ") k
seal_reply k _ = told (codes "sealed ") k

abbrev pub seal_played : ℕ → Desk → Played
seal_played k d = replied (moved d (s.PublishGroup k)) (seal_reply k (step_at d (s.PublishGroup k)).reply)

abbrev pub seal_new : Desk → s.Reply → Played
seal_new d (s.GroupClaimed k pieces) = seal_played k d
seal_new d _ = replied d (codes "seal none")

abbrev pub seal_first : List ℕ → Desk → Played
seal_first [] d = seal_new d (step_at d s.ClaimGroup).reply
seal_first (k ∷ rest) d = seal_played k (with_groups d rest)

-- `seal`: the earliest group that is held, or a new one
abbrev pub play_seal : Desk → Played
play_seal d = seal_first d.groups d

-- Queries.
abbrev pub register_played : Desk → s.Reply → Played
register_played d (s.Registered query from mode) = replied (with_queries d (d.queries ++ None ∷ [])) (registered_text query from)
register_played d (s.TooMany limit) = replied d (told (codes "too many ") limit)
register_played d (s.Ahead from have) = replied d (ahead_text from have)
register_played d _ = replied d []

abbrev pub play_parsed : Mode → Result Expr QueryFault → Desk → Played
play_parsed mode (Ok expr) d = register_played (moved d (s.Register mode expr)) (step_at d (s.Register mode expr)).reply
play_parsed mode (Err fault) d = replied d (refused_text fault)

-- `query MODE TEXT`
abbrev pub play_query : Mode → List ℕ → Desk → Played
play_query mode text d = play_parsed mode (parsed text) d

-- the take that is held of a query, and None where it isn't registered: queries count from 1
abbrev pub held_of_query : List (Option Snapshot) → ℕ → Option (Option Snapshot)
held_of_query queries zero = None
held_of_query queries (suc i) = slice_get queries i

abbrev pub with_held : ℕ → Option Snapshot → Desk → Desk
with_held q held d = with_queries d (slice_set d.queries (q - 1) held)

abbrev pub no_session : ℕ → Desk → Played
no_session q d = replied d (told (codes "no session ") q)

abbrev pub taken_text : ℕ → Bool → List ℕ
taken_text q true = told (codes "taken ") q
taken_text q false = told (codes "already left ") q

-- what a take hands out, where the query hasn't left
abbrev pub snapshot_in : s.Reply → Option Snapshot
snapshot_in (s.Taken taking parts past_batches live_batches) = Some (record { taking = taking; parts = parts; past_batches = past_batches; live_batches = live_batches })
snapshot_in _ = None

-- what the store's take at the desk hands out
abbrev pub taken_at : ℕ → Desk → Option Snapshot
taken_at q d = snapshot_in (step_at d (s.Take q)).reply

-- the desk that holds what was handed out
abbrev pub holding : ℕ → Option Snapshot → Desk → Desk
holding q None d = d
holding q (Some x) d = with_held q (Some x) d

abbrev pub take_by : ℕ → Desk → Option (Option Snapshot) → Played
take_by q d (Some None) = replied (holding q (taken_at q d) (moved d (s.Take q))) (taken_text q (is_some (taken_at q d)))
take_by q d _ = no_session q d

-- `take Q`
abbrev pub play_take : ℕ → Desk → Played
play_take q d = take_by q d (held_of_query d.queries q)

-- the take that is held of a query
abbrev pub held_in : Option (Option Snapshot) → Option Snapshot
held_in None = None
held_in (Some held) = held

abbrev pub take_of : ℕ → Desk → Option Snapshot
take_of q d = held_in (held_of_query d.queries q)

abbrev pub page_by : ℕ → Desk → Option Snapshot → Played
page_by q d None = replied d (told (codes "no page ") q)
page_by q d (Some x) = replied (with_held q None d) (page_text q x)

-- `page Q`: the page of the held take, whose session is then free
abbrev pub play_page : ℕ → Desk → Played
play_page q d = page_by q d (take_of q d)

abbrev pub drained_text : ℕ → Option Snapshot → List ℕ
drained_text q None = told (codes "already left ") q
drained_text q (Some x) = page_text q x

abbrev pub drain_by : ℕ → Desk → Option (Option Snapshot) → Played
drain_by q d (Some None) = replied (moved d (s.Take q)) (drained_text q (taken_at q d))
drain_by q d _ = no_session q d

-- `drain Q`: a take and its page at once
abbrev pub play_drain : ℕ → Desk → Played
play_drain q d = drain_by q d (held_of_query d.queries q)

-- how many batches the page of a take reads, if there is one
abbrev pub reads_of : Option Snapshot → ℕ
reads_of None = 0
reads_of (Some x) = length (touched_in x)

abbrev pub drain_reads : ℕ → Desk → Option (Option Snapshot) → ℕ
drain_reads q d (Some None) = reads_of (taken_at q d)
drain_reads q d _ = 0

abbrev pub leave_reply : ℕ → s.Reply → List ℕ
leave_reply q (s.Left r) = told (codes "already left ") q
leave_reply q _ = told (codes "left ") q

abbrev pub leave_by : ℕ → Desk → Option (Option Snapshot) → Played
leave_by q d None = replied d (told (codes "no query ") q)
leave_by q d (Some held) = replied (moved d (s.Leave q)) (leave_reply q (step_at d (s.Leave q)).reply)

-- `leave Q`
abbrev pub play_leave : ℕ → Desk → Played
play_leave q d = leave_by q d (held_of_query d.queries q)

-- `rows`
abbrev pub play_rows : Desk → Played
play_rows d = replied d (told (codes "rows ") (event_count (past d.history)))

-- A batch that a source gave is accepted, or refused where the store is full.
abbrev pub accept_reply : ℕ → s.Reply → List ℕ
accept_reply rows (s.Accepted batch first) = accepted_text batch first rows
accept_reply rows (s.Full have limit) = full_text have limit
accept_reply rows _ = []

abbrev pub play_accept : Spelled → Desk → Played
play_accept packed d = replied (moved d (s.Accept packed)) (accept_reply (length packed.content.rows) (step_at d (s.Accept packed)).reply)

-- A line was played: the desk is what it makes of it, and its reply was written as a line.
abbrev pub Plays : Played → Desk → List ℕ → List ℕ → Type 0
Plays played now out out_now = (now ≡ played.desk) × (out_now ≡ out ++ (played.reply ++ 10 ∷ []))

-- a batch that is refused since the store is full comes back
abbrev pub refused_by : Spelled → s.Reply → Option Spelled
refused_by packed (s.Full have limit) = Some packed
refused_by packed _ = None
