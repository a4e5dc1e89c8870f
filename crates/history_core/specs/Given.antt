-- What a store handed out, in a longer history.
use Rattle.std.specs.Prelude.{ℕ, List, ◌++◌}
use Rattle.event_history.specs.declared.entry.Entry.{Entry}
use Rattle.event_history.specs.Histories.{past}
use Rattle.event_history.specs.Legal.{Legal}
use Rattle.history_core.specs.declared.answers.Claim.{Claim}
use Rattle.history_core.specs.declared.answers.Group.{Group}
use Rattle.history_core.specs.Replies.{IsClaimAt, IsGroupAt, IsRegisteredAt}
use Rattle.history_core.specs.Shown.{Shown}

-- Claims, groups and registered queries of the store are those of the later history too.
pub record StaysGiven (later : List Entry) (store : Shown) : Type 0 where
  pub claims : (c : Claim) → IsClaimAt (past store.history) c → IsClaimAt later c
  pub groups : (g : Group) → IsGroupAt store.limits.group (past store.history) g → IsGroupAt store.limits.group later g
  pub queries : (q : ℕ) → IsRegisteredAt (past store.history) q → IsRegisteredAt later q

abbrev pub GivenStays : Shown → List Entry → Type 0
GivenStays store more = Legal store.limits (past (store.history ++ more)) → StaysGiven (past (store.history ++ more)) store
