-- What contracts see of a store.
use Rattle.std.specs.Prelude.{ℕ, List, [], ◌∷◌, ◌++◌, Option, None, Some}
use Rattle.event_history.specs.declared.entry.Deed.{Deed}
use Rattle.event_history.specs.declared.entry.Entry.{Entry}
use Rattle.event_history.specs.declared.entry.Limits.{Limits}

-- its limits and its history, the oldest entry first
pub record Shown : Type 0 where
  pub limits : Limits
  pub history : List Entry

-- the entry of a deed, if there is one
abbrev pub entries_of : ℕ → Option Deed → List Entry
entries_of seat None = []
entries_of seat (Some d) = record { seat = seat; deed = d } ∷ []

abbrev pub with_entries : Shown → List Entry → Shown
with_entries store more = record { limits = store.limits; history = store.history ++ more }
