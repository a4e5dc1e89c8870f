-- What comes of asking a worker's queries on.
use Rattle.std.specs.Prelude.{◌≡◌, ℕ, ◌==◌, Bool, true, false, List, [], ◌∷◌, ◌++◌, Option, None, Result, OnOk, ◌⊎◌, All, Contains, map}
use Rattle.std.specs.List.{list_any}
use Rattle.std.specs.Option.{option_to_list}
use Rattle.std.specs.declared.alloc.AllocError.{AllocError}
use Rattle.event_history.specs.declared.entry.Deed.{Deed}
use Rattle.event_history.specs.declared.entry.Deed.TheVariants as deed
use Rattle.event_history.specs.Histories.{past}
use Rattle.event_history.specs.Queries.{has_left}
use Rattle.history_core.specs.declared.session.Session.{Session}
use Rattle.history_core.specs.declared.taken.Taken.{Taken}
use Rattle.history_core.specs.Replies.{IsRegisteredAt}
use Rattle.shared_store.specs.Turns.{Stands}
use Rattle.worker_pool.specs.declared.paging.QueryEnd.{QueryEnd}
use Rattle.worker_pool.specs.Deeds.{Went}
use Rattle.worker_pool.specs.Paging.{pages_by, told_of}

-- a take of this query
abbrev pub is_take : ℕ → Deed → Bool
is_take q (deed.Take r past_to live_to) = r == q
is_take q _ = false

-- the numbers of a session and of what was taken
abbrev pub numbers_in : Option Session → Option Taken → List ℕ
numbers_in session taken = map (λ (s : Session). s.query) (option_to_list session) ++ map (λ (t : Taken). t.session.query) (option_to_list taken)

-- the one number of a query that is registered, and none of another
abbrev pub numbers_of : QueryEnd → List ℕ
numbers_of query = numbers_in query.session query.taken

-- no number stands twice
abbrev pub AreApart : List (List ℕ) → Type 0
AreApart [] = Unit {0}
AreApart (numbers ∷ others) = ((q : ℕ) → numbers ≡ q ∷ [] → ¬ Contains others (q ∷ [])) × AreApart others

-- a take of a query with one of these numbers
abbrev pub IsTakeOf : List (List ℕ) → Deed → Type 0
IsTakeOf numbers (deed.Take q past_to live_to) = Contains numbers (q ∷ [])
IsTakeOf numbers _ = ⊥

-- It was told what the own takes tell of it, in order, and was seen registered, if it is registered.
pub record IsPaged (s : Stands) (query : QueryEnd) : Type 0 where
  pub paged : (q : ℕ) → numbers_of query ≡ q ∷ [] → told_of query ≡ pages_by s.names q (past s.seen)
  pub known : (q : ℕ) → numbers_of query ≡ q ∷ [] → IsRegisteredAt (past s.seen) q

-- nothing that it took still has to become a page
abbrev pub IsFree : QueryEnd → Type 0
IsFree query = query.taken ≡ None

-- it was taken, or has left
abbrev pub IsAsked : List Deed → Stands → QueryEnd → Type 0
IsAsked did s query = (q : ℕ) → numbers_of query ≡ q ∷ [] → (list_any (is_take q) did ≡ true) ⊎ (has_left q (past s.seen) ≡ true)

-- by what a query is known: its label, and the limit of queries where there were as many before it
abbrev pub known_as : QueryEnd → List ℕ × Option ℕ
known_as query = (query.label, query.too_many)

-- Queries were asked on: of the own entries just takes of them came, and each was told what its own takes tell. Unless
-- memory was wanting each was taken or has left, and may be asked on again.
pub record TakesOn (result : Result (Unit {0}) AllocError) (old new : List QueryEnd) (before after : Stands) : Type 0 where
  pub did : List Deed
  pub went : Went before after did
  pub only : All (IsTakeOf (map numbers_of old)) did
  pub numbers : map numbers_of new ≡ map numbers_of old
  pub names : map known_as new ≡ map known_as old
  pub paged : All (IsPaged after) new
  pub asked : OnOk result (All IsFree new × All (IsAsked did after) new)
