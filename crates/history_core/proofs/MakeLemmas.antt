-- That a call makes its step, from what the step is at the store's history.
use Rattle.std.proofs.Common.{◌≡◌, ℕ, List, [], ◌∷◌, Some, ap, sym, ◌∙◌, append-nil}
use Rattle.event_history.specs.declared.entry.Deed.{Deed}
use Rattle.event_history.specs.declared.entry.Entry.{Entry}
use Rattle.event_history.specs.Histories.{past}
use Rattle.event_history.specs.Steps as s
use Rattle.history_core.specs.Replies.{Makes}
use Rattle.history_core.specs.Shown.{Shown, entries_of, with_entries}

pub makes_by : (old new : Shown) (seat : ℕ) (request : s.Request) (st : s.Step) (r : s.Reply) → s.step old.limits (past old.history) request ≡ st
    → r ≡ st.reply → new ≡ with_entries old (entries_of seat st.deed) → Makes old new seat request (Some r)
makes_by old new seat request st r is reply then =
    (reply ∙ ap (λ (x : s.Step). x.reply) (sym is), then ∙ ap (λ (x : s.Step). with_entries old (entries_of seat x.deed)) (sym is))

pub none_added : (store : Shown) → with_entries store [] ≡ store
none_added store = ap (λ (h : List Entry). record { limits = store.limits; history = h }) (append-nil store.history)

-- nothing is appended
pub makes_none : (old : Shown) (seat : ℕ) (request : s.Request) (r : s.Reply) → s.step old.limits (past old.history) request ≡ s.replies r
    → Makes old old seat request (Some r)
makes_none old seat request r is =
    makes_by old old seat request (s.replies r) r is (λ i. r) (sym (none_added old))

-- one entry is appended
pub makes_one : (old new : Shown) (seat : ℕ) (request : s.Request) (r : s.Reply) (d : Deed) → s.step old.limits (past old.history) request ≡ s.does r d
    → new ≡ with_entries old (record { seat = seat; deed = d } ∷ []) → Makes old new seat request (Some r)
makes_one old new seat request r d is then = makes_by old new seat request (s.does r d) r is (λ i. r) then
