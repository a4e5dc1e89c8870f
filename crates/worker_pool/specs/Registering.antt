-- What comes of registering a worker's query.
use Rattle.std.specs.Prelude.{◌≡◌, ℕ, ◌<◌, ◌≤◌, List, [], ◌∷◌, Option, None, Some, Result, Ok, Err, IsSome, All, map, ◌⊎◌}
use Rattle.std.specs.declared.alloc.AllocError.{AllocError}
use Rattle.event_history.specs.declared.entry.Deed.{Deed}
use Rattle.event_history.specs.declared.entry.Deed.TheVariants as deed
use Rattle.event_history.specs.declared.entry.Mode.TheVariants.{Both}
use Rattle.event_history.specs.Histories.{past}
use Rattle.event_history.specs.Queries.{query_count}
use Rattle.query_meaning.specs.declared.expr.Expr.{Expr}
use Rattle.history_core.specs.declared.session.Session.{Session}
use Rattle.history_core.specs.Replies.{IsRegisteredAt}
use Rattle.shared_store.specs.Given.{Sees}
use Rattle.shared_store.specs.Turns.{Stands}
use Rattle.worker_pool.specs.declared.paging.QueryEnd.{QueryEnd}
use Rattle.worker_pool.specs.declared.registering.Query.{Query}
use Rattle.worker_pool.specs.Deeds.{Went}
use Rattle.worker_pool.specs.Paging.{pages_by}
use Rattle.worker_pool.specs.Takes.{AreApart, IsFree, IsPaged, numbers_of}

-- the queries without their expressions
abbrev pub ends : List Query → List QueryEnd
ends queries = map (λ (q : Query). q.end) queries

-- what is still to be registered
abbrev pub exprs : List Query → List (Option Expr)
exprs queries = map (λ (q : Query). q.expr) queries

-- There was nothing to register; or a query was registered, or refused as there are as many as the limit; or memory was
-- wanting.
pub data Registering : Type 0 where
  Nothing : Registering
  Registered : (session : Session) (expr : Expr) → Registering
  Refused : (limit : ℕ) → Registering
  Wanting : Registering

abbrev pub registering_deeds : Registering → List Deed
registering_deeds Nothing = []
registering_deeds (Registered session expr) = deed.Register session.query Both expr ∷ []
registering_deeds (Refused limit) = []
registering_deeds Wanting = []

-- what a query becomes: it gets its session, or the limit that refused it
abbrev pub registered_end : Registering → QueryEnd → QueryEnd
registered_end Nothing q = q
registered_end (Registered session expr) q = record q { session = Some session }
registered_end (Refused limit) q = record q { too_many = Some limit }
registered_end Wanting q = q

-- by what it had to be registered with, and has still
abbrev pub EndsRegistering : Result (Unit {0}) AllocError → Registering → Option Expr → Option Expr → Stands → Type 0
EndsRegistering (Ok u) Nothing expr left s = (expr ≡ None) × (left ≡ None)
EndsRegistering (Ok u) (Registered session e) expr left s = (expr ≡ Some e) × (left ≡ None)
EndsRegistering (Ok u) (Refused limit) expr left s = IsSome expr × (left ≡ None) × Sees (λ limits before. (limit ≡ limits.queries) × (limits.queries ≤ query_count before)) s
EndsRegistering (Err e) Wanting expr left s = IsSome expr
EndsRegistering (Ok u) Wanting expr left s = ⊥
EndsRegistering (Err e) other expr left s = ⊥

-- The number is above all that were there, and nothing was taken of it yet.
abbrev pub IsFirst : Registering → Stands → Stands → Type 0
IsFirst Nothing before after = Unit {0}
IsFirst (Registered session expr) before after =
    (query_count (past before.seen) < session.query) × IsRegisteredAt (past after.seen) session.query × (pages_by after.names session.query (past after.seen) ≡ [])
IsFirst (Refused limit) before after = Unit {0}
IsFirst Wanting before after = Unit {0}

pub record Registers (result : Result (Unit {0}) AllocError) (old new : Query) (before after : Stands) : Type 0 where
  pub did : Registering
  pub went : Went before after (registering_deeds did)
  pub ends : EndsRegistering result did old.expr new.expr after
  pub end : new.end ≡ registered_end did old.end
  pub first : IsFirst did before after

-- Those are registered that are still to be, in order, up to one for which memory is wanting.
abbrev pub RegistersAll : Result (Unit {0}) AllocError → List Query → List Query → Stands → Stands → Type 0
RegistersAll result [] [] before after = (result ≡ Ok tt) × (after ≡ before)
RegistersAll result [] (new ∷ news) before after = ⊥
RegistersAll result (old ∷ olds) [] before after = ⊥
RegistersAll result (old ∷ olds) (new ∷ news) before after =
    ((mid : Stands) × Registers (Ok tt) old new before mid × RegistersAll result olds news mid after)
    ⊎ (((e : AllocError) × (result ≡ Err e)) × Registers result old new before after × (news ≡ olds))

-- a query that is still to be registered was told nothing and was not refused
abbrev pub IsNew : QueryEnd → Type 0
IsNew q = (q.session ≡ None) × (q.taken ≡ None) × (q.too_many ≡ None) × (q.pages.items ≡ [])

abbrev pub IsUnasked : Query → Type 0
IsUnasked q = (e : Expr) → q.expr ≡ Some e → IsNew q.end

-- Each query was told what the own takes tell of it and is free to be asked on, and no two are one.
pub record AreAskable (s : Stands) (queries : List Query) : Type 0 where
  pub paged : All (IsPaged s) (ends queries)
  pub free : All IsFree (ends queries)
  pub apart : AreApart (map numbers_of (ends queries))
