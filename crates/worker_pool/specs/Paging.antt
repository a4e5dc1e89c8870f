-- What a worker's query is told.
use Rattle.std.specs.Prelude.{◌≡◌, ℕ, ◌==◌, Bool, true, if◌then◌else◌, List, [], ◌∷◌, ◌++◌, Option, None, Some, Result, Ok, Err, map}
use Rattle.std.specs.List.{list_any}
use Rattle.std.specs.Option.{option_to_list}
use Rattle.std.specs.declared.alloc.AllocError.{AllocError}
use Rattle.event_history.specs.declared.entry.Deed.{Deed}
use Rattle.event_history.specs.declared.entry.Deed.TheVariants as deed
use Rattle.event_history.specs.declared.entry.Entry.{Entry}
use Rattle.event_history.specs.Delivered.{told_between}
use Rattle.event_history.specs.Events.{Event}
use Rattle.event_history.specs.Histories.{events, past}
use Rattle.event_history.specs.Queries.{has_left, position, registration}
use Rattle.history_core.specs.declared.taken.Taken.{Taken}
use Rattle.history_core.specs.declared.session.Session.{Session}
use Rattle.exporter.specs.declared.finishing.Page.{Page}
use Rattle.exporter.specs.Pages.{found_in}
use Rattle.shared_store.specs.Turns.{Stands}
use Rattle.worker_pool.specs.declared.paging.QueryEnd.{QueryEnd}
use Rattle.worker_pool.specs.Deeds.{Went}

-- up to where a page tells the past part and the live part, and the events that it tells
pub record Told : Type 0 where
  pub past_to : ℕ
  pub live_to : ℕ
  pub found : List (ℕ × Event)

-- one of these seats
abbrev pub is_named : List ℕ → ℕ → Bool
is_named names seat = list_any (λ n. n == seat) names

-- what a take tells of a query, by the history before it
abbrev pub told_by_take : ℕ → ℕ → ℕ → List Entry → Told
told_by_take q past_to live_to before = record {
  past_to = past_to;
  live_to = live_to;
  found = told_between (events before) (position q before) (past_to, live_to) (registration q before);
}

abbrev pub pages_after : ℕ → Deed → List Entry → List Told → List Told
pages_after q (deed.Take r past_to live_to) before told = if r == q then told ++ told_by_take q past_to live_to before ∷ [] else told
pages_after q _ before told = told

-- what the takes of these seats told a query, in order
abbrev pub pages_by : List ℕ → ℕ → List Entry → List Told
pages_by names q [] = []
pages_by names q (e ∷ before) =
    if is_named names e.seat then pages_after q e.deed before (pages_by names q before) else pages_by names q before

abbrev pub told_page : Page → Told
told_page page = record { past_to = page.past_to; live_to = page.live_to; found = page.found }

-- what the page of a snapshot will tell
abbrev pub told_taken : Taken → Told
told_taken taken = record { past_to = taken.snapshot.taking.past_to; live_to = taken.snapshot.taking.live_to; found = found_in taken.snapshot }

-- what a query was told: its pages, and what it took and is not a page yet
abbrev pub told_of : QueryEnd → List Told
told_of query = map told_page query.pages.items ++ map told_taken (option_to_list query.taken)

abbrev pub take_deed : ℕ → Told → Deed
take_deed q t = deed.Take q t.past_to t.live_to

-- a take came, or the query had left, unless memory was wanting
abbrev pub HasAsked : ℕ → Result (Unit {0}) AllocError → List Told → Stands → Type 0
HasAsked q (Ok u) [] s = has_left q (past s.seen) ≡ true
HasAsked q (Ok u) (t ∷ []) s = Unit {0}
HasAsked q (Ok u) more s = ⊥
HasAsked q (Err e) more s = Unit {0}

-- the session of this query, or a snapshot that it took, is there
abbrev pub Holds : ℕ → Option Session → Option Taken → Type 0
Holds q (Some session) None = session.query ≡ q
Holds q None (Some taken) = taken.session.query ≡ q
Holds q session taken = ⊥

-- One query was asked on: of the own entries just the take came, if one did, and what that told is told now.
pub record Draws (q : ℕ) (result : Result (Unit {0}) AllocError) (old new : QueryEnd) (before after : Stands) : Type 0 where
  pub more : List Told
  pub asked : HasAsked q result more after
  pub went : Went before after (map (take_deed q) more)
  pub told : told_of new ≡ told_of old ++ more
  pub tells : pages_by before.names q (past after.seen) ≡ pages_by before.names q (past before.seen) ++ more
  pub holds : Holds q new.session new.taken

-- it may be asked on again
abbrev pub HasSession : QueryEnd → QueryEnd → Type 0
HasSession old new = (new.session ≡ old.session) × (new.taken ≡ None)
