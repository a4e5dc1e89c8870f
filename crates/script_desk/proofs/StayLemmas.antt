-- That takes and the cache stay good as the store's history goes on.
use Rattle.std.proofs.Common.{◌≡◌, ℕ, List, ◌++◌, sym, subst, arith, length, [], ap, ◌∙◌, Some, None, nat_eq, All}
use Rattle.std.specs.Map.{lookup}
use Rattle.std.proofs.lemmas.List.{reverse-append}
use Rattle.event_history.specs.declared.entry.Entry.{Entry}
use Rattle.event_history.specs.Histories.{past}
use Rattle.event_history.specs.Legal.{Legal}
use Rattle.event_history.specs.declared.entry.Limits.{Limits}
use Rattle.event_history.specs.Queries.{query_count, registration}
use Rattle.archive_cache.specs.Caches.{Caching, Kept}
use Rattle.history_core.specs.Replies.{IsClaimAt}
use Rattle.history_core.specs.declared.answers.Claim.{Claim}
use Rattle.history_core.specs.declared.answers.Group.{Group}
use Rattle.history_core.specs.declared.session.Session.{Session}
use Rattle.history_core.specs.declared.taken.Taken.{Taken}
use Rattle.history_core.specs.Shown.{Shown}
use Rattle.history_core.specs.Snapshots.{IsSnapshot}
use Rattle.exporter.specs.Asks.{AgreesWith, KeepsOnly}
use Rattle.script_desk.specs.declared.desk.Hold.{Hold}
use Rattle.script_desk.specs.declared.desk.Hold.TheVariants as hold
use Rattle.exporter.proofs.StoreLemmas.{serves}
use Rattle.script_desk.specs.Kept.{HoldsAccepted, IsDesk, IsOfGroups, KeepsAccepted, KeptStays, StaysKept, batches_in, take_in}

stays : (store : Shown) (later : List Entry) → Legal store.limits (later ++ past store.history) → StaysKept (later ++ past store.history) store
unfolding HoldsAccepted KeepsAccepted
stays store later legal = record {
  takes = λ h accepted. (serves store.limits (past store.history)).held_stay later (batches_in (take_in h)) legal accepted;
  free = λ session. λ k d h. absurd (omega (arith, h));
  cache = λ cache keeps. (serves store.limits (past store.history)).cache_stays later cache legal keeps;
}

pub kept : (store : Shown) (more : List Entry) → KeptStays store more
kept store more legal =
    let turned : past (store.history ++ more) ≡ past more ++ past store.history = reverse-append store.history more in
    subst (λ (h : List Entry). StaysKept h store) (sym turned)
    (stays store (past more) (subst (λ (h : List Entry). Legal store.limits h) turned legal))

-- A page, and a take.
pub agrees : (limits : Limits) (before : List Entry) (h : Hold) (cache : Caching) → HoldsAccepted before h → KeepsAccepted before cache → AgreesWith (batches_in (take_in h)) cache
unfolding HoldsAccepted KeepsAccepted
agrees limits before h cache accepted keeps = (serves limits before).agrees (batches_in (take_in h)) cache accepted keeps

pub left : (before : List Entry) (h : Hold) (old new : Caching) → HoldsAccepted before h → KeepsAccepted before old → KeepsOnly (batches_in (take_in h)) old new → KeepsAccepted before new
unfolding HoldsAccepted KeepsAccepted
left before h old new accepted keeps only =
    (serves (record { rows = 0; queries = 0; group = 0; inbox = 0 }) before).left (batches_in (take_in h)) old new accepted keeps only

pub took : (limits : Limits) (before : List Entry) (q : ℕ) (taken : Taken) → IsSnapshot limits.group before q taken.snapshot (registration q before)
    → HoldsAccepted before (hold.Taken taken)
unfolding HoldsAccepted
took limits before q taken is = (serves limits before).taken q taken.snapshot is

pub session_held : (before : List Entry) (session : Session) → HoldsAccepted before (hold.Session session)
unfolding HoldsAccepted
session_held before session k d h = absurd (omega (arith, h))

-- A desk of which nothing is held.
keeps_none : (before : List Entry) (cache : Caching) → cache.entries ≡ [] → KeepsAccepted before cache
unfolding KeepsAccepted
keeps_none before cache none number what kept =
    let is : Some what ≡ None = sym kept ∙ ap (λ (entries : List Kept). lookup (nat_eq number) entries) none in
    absurd cc

nowhere : {X : Type 0} (P : X → Type 0) (xs : List X) → xs ≡ [] → All P xs
nowhere {X = X} P xs none k d h = absurd (omega (arith, h, ap (λ (ys : List X). length ys) none))

pub new_desk : (store : Shown) (claims : List Claim) (groups : List Group) (queries : List Hold) (cache : Caching) → store.history ≡ [] → claims ≡ [] → groups ≡ [] → queries ≡ []
    → cache.entries ≡ [] → IsDesk store claims groups queries cache
new_desk store claims groups queries cache before no_claims no_groups no_queries nothing = record {
  claims_are = nowhere (λ c. IsClaimAt (past store.history) c) claims no_claims;
  groups_are = nowhere (λ g. IsOfGroups store g) groups no_groups;
  count = ap (λ (hs : List Hold). length hs) no_queries ∙ sym (ap (λ (h : List Entry). query_count (past h)) before);
  each = λ i h k e. absurd (omega (arith, k, ap (λ (hs : List Hold). length hs) no_queries));
  takes = nowhere (λ h. HoldsAccepted (past store.history) h) queries no_queries;
  kept = keeps_none (past store.history) cache nothing;
}
