-- What a desk keeps, and what always holds of it.
use Rattle.std.specs.Prelude.{◌≡◌, ◌==◌, ℕ, false, ◌+◌, ◌<◌, List, Option, None, Some, All, length, map, slice_index_or, [], ◌++◌}
use Rattle.event_history.specs.declared.entry.Entry.{Entry}
use Rattle.event_history.specs.Histories.{past}
use Rattle.event_history.specs.Legal.{Legal}
use Rattle.event_history.specs.Pieces.{Held}
use Rattle.event_history.specs.Queries.{query_count}
use Rattle.event_history.specs.Steps as s
use Rattle.archive_cache.specs.Caches.{Caching}
use Rattle.history_core.specs.declared.answers.Claim.{Claim}
use Rattle.history_core.specs.declared.answers.Group.{Group}
use Rattle.history_core.specs.Replies.{IsClaimAt, IsGroupAt, MayMerge}
use Rattle.history_core.specs.declared.session.Session.{Session}
use Rattle.history_core.specs.Shown.{Shown}
use Rattle.history_core.specs.Snapshots.{Snapshot}
use Rattle.exporter.specs.Pages.{held_by}
use Rattle.exporter.specs.Stores.{AreAccepted, IsCacheOf}
use Rattle.script_desk.specs.declared.desk.Hold.{Hold}
use Rattle.script_desk.specs.declared.desk.Hold.TheVariants as hold
use Rattle.script_desk.specs.Desks.{Desk}

-- the take that is held
abbrev pub take_in : Hold → Option Snapshot
take_in (hold.Session session) = None
take_in (hold.Taken taken) = Some taken.snapshot
take_in hold.Moved = None

abbrev pub desk_of : Shown → List Claim → List Group → List Hold → Desk
desk_of store claims groups queries = record {
  limits = store.limits;
  history = store.history;
  claims = map (λ c. c.batch) claims;
  groups = map (λ g. g.number) groups;
  queries = map take_in queries;
}

-- the query that the session, or that of the take, is of: they count from 1
abbrev pub query_of : Hold → ℕ
query_of (hold.Session session) = session.query
query_of (hold.Taken taken) = taken.session.query
query_of hold.Moved = 0

abbrev pub EachOfQuery : List Hold → Type 0
EachOfQuery queries = (i : ℕ) (h : Hold) → i < length queries → h ≡ slice_index_or queries i h → query_of h ≡ i + 1

-- what the store replies to a take, by what is then held
abbrev pub take_reply : ℕ → Option Snapshot → s.Reply
take_reply q None = s.Left q
take_reply q (Some x) = s.Taken x.taking x.parts x.past_batches x.live_batches

abbrev pub IsOfGroups : Shown → Group → Type 0
IsOfGroups store g = IsGroupAt store.limits.group (past store.history) g × MayMerge g.fragments

-- the batches of a take, if there is one
abbrev pub batches_in : Option Snapshot → List Held
batches_in None = []
batches_in (Some x) = held_by x

-- the batches of the take that is held, if one is, are accepted ones
unfoldable pub HoldsAccepted : List Entry → Hold → Type 0
HoldsAccepted before h = AreAccepted before (batches_in (take_in h))

-- the cache keeps accepted batches
unfoldable pub KeepsAccepted : List Entry → Caching → Type 0
KeepsAccepted before cache = IsCacheOf before cache

-- Takes and the cache of the store are good at the later history too.
pub record StaysKept (later : List Entry) (store : Shown) : Type 0 where
  pub takes : (h : Hold) → HoldsAccepted (past store.history) h → HoldsAccepted later h
  pub free : (session : Session) → HoldsAccepted later (hold.Session session)
  pub cache : (c : Caching) → KeepsAccepted (past store.history) c → KeepsAccepted later c

abbrev pub KeptStays : Shown → List Entry → Type 0
KeptStays store more = Legal store.limits (past (store.history ++ more)) → StaysKept (past (store.history ++ more)) store

-- The claims, groups and takes are the store's, there is a session or a take of each registered query, and the cache keeps
-- the store's batches.
pub record IsDesk (store : Shown) (claims : List Claim) (groups : List Group) (queries : List Hold) (cache : Caching) : Type 0 where
  pub claims_are : All (λ c. IsClaimAt (past store.history) c) claims
  pub groups_are : All (λ g. IsOfGroups store g) groups
  pub count : length queries ≡ query_count (past store.history)
  pub each : EachOfQuery queries
  pub takes : All (λ h. HoldsAccepted (past store.history) h) queries
  pub kept : KeepsAccepted (past store.history) cache

-- the first claim on a batch stands at a place
pub record IsFirstOn (claims : List Claim) (batch at : ℕ) : Type 0 where
  pub there : at < length claims
  pub here : (c : Claim) → c ≡ slice_index_or claims at c → c.batch ≡ batch
  pub first : (i : ℕ) (c : Claim) → i < at → c ≡ slice_index_or claims i c → (c.batch == batch) ≡ false

-- no claim is on the batch
abbrev pub NoneOn : List Claim → ℕ → Type 0
NoneOn claims batch = (i : ℕ) (c : Claim) → i < length claims → c ≡ slice_index_or claims i c → (c.batch == batch) ≡ false
