-- What is held of each query.
use Rattle.std.proofs.Common.{◌≡◌, ℕ, zero, suc, ◌+◌, ◌-◌, ◌<◌, ◌≤◌, Bool, true, false, if◌then◌else◌, List, [], ◌∷◌, ◌++◌, Option, None, Some, length, map, slice_get, slice_index_or, slice_set, refl, ap, sym, ◌∙◌, arith, subst}
use Rattle.std.proofs.lemmas.List.{append-nil, map-set, reverse-append}
use Rattle.std.proofs.Math.Seq.{map-set_same}
use Rattle.event_history.specs.declared.entry.Entry.{Entry}
use Rattle.event_history.specs.Histories.{past}
use Rattle.event_history.specs.Queries.{Registration, has_left, query_count, registration}
use Rattle.event_history.specs.Steps as s
use Rattle.history_core.specs.declared.answers.Claim.{Claim}
use Rattle.history_core.specs.declared.answers.Group.{Group}
use Rattle.history_core.specs.Replies.{Makes}
use Rattle.history_core.specs.Shown.{Shown, entries_of, with_entries}
use Rattle.history_core.specs.Snapshots.{Snapshot}
use Rattle.history_core.specs.declared.session.Session.{Session}
use Rattle.script_desk.specs.declared.desk.Hold.{Hold}
use Rattle.script_desk.specs.declared.desk.Hold.TheVariants as hold
use Rattle.script_desk.specs.Desks.{Desk, held_of_query, holding, moved, snapshot_in, taken_at, with_held, with_queries}
use Rattle.script_desk.specs.Kept.{desk_of, query_of, take_in, take_reply}

got : (queries : List Hold) (i : ℕ) (h : Hold) → i < length queries → h ≡ slice_index_or queries i h → slice_get (map take_in queries) i ≡ Some (take_in h)
got [] i h k e = absurd (omega (arith, k))
got (x ∷ queries) zero h k e = ap (λ (y : Hold). Some (take_in y)) (sym e)
got (x ∷ queries) (suc i) h k e = got queries i h (omega (arith, k)) e

past_all : (queries : List Hold) (i : ℕ) → length queries ≤ i → slice_get (map take_in queries) i ≡ None
past_all [] i k = refl
past_all (x ∷ queries) zero k = absurd (omega (arith, k))
past_all (x ∷ queries) (suc i) k = past_all queries i (omega (arith, k))

pub held_at : (queries : List Hold) (q at : ℕ) (h : Hold) → at + 1 ≡ q → at < length queries → h ≡ slice_index_or queries at h
    → held_of_query (map take_in queries) q ≡ Some (take_in h)
held_at queries zero at h is k e = absurd (omega (arith, is))
held_at queries (suc i) at h is k e =
    let same : at ≡ i = omega (arith, is) in
    got queries i h (omega (arith, k)) (e ∙ ap (λ (n : ℕ). slice_index_or queries n h) same)

pub held_past : (queries : List Hold) (q : ℕ) → length queries < q → held_of_query (map take_in queries) q ≡ None
held_past queries zero k = refl
held_past queries (suc i) k = past_all queries i (omega (arith, k))

-- the place of a query that is known
pub place_there : (queries : List Hold) (q at : ℕ) (held : Option Snapshot) → at + 1 ≡ q → held_of_query (map take_in queries) q ≡ Some held → at < length queries
place_there queries zero at held is e = absurd (omega (arith, is))
place_there [] (suc i) at held is e = absurd cc
place_there (x ∷ queries) (suc zero) at held is e = omega (arith, is)
place_there (x ∷ queries) (suc (suc i)) at held is e = omega (arith, is, place_there queries (suc i) i held (omega arith) e)

pub free_there : (queries : List Hold) (q at : ℕ) (h : Hold) → at + 1 ≡ q → held_of_query (map take_in queries) q ≡ Some None → h ≡ slice_index_or queries at h → take_in h ≡ None
free_there queries q at h is e here =
    let there = held_at queries q at h is (place_there queries q at None is e) here in
    let same : Some (take_in h) ≡ Some None = sym there ∙ e in
    cc

-- neither a take nor nothing is held of a query: its session is
pub no_session : (h : Hold) (n : ℕ) → take_in h ≡ None → query_of h ≡ n + 1 → ((session : Session) → h ≡ hold.Session session → ⊥) → ⊥
no_session (hold.Session session) n free of_it other = other session refl
no_session (hold.Taken taken) n free of_it other = cc
no_session hold.Moved n free of_it other = omega (arith, of_it)

-- no take registers a query
take_counts : (size : ℕ) (history : List Entry) (q : ℕ) (left : Bool) (g : Option Registration)
    → query_count (past (history ++ entries_of 0 (if left then s.replies (s.Left q) else s.take_step size (past history) q g).deed)) ≡ query_count (past history)
take_counts size history q true g = ap (λ (h : List Entry). query_count (past h)) (append-nil history)
take_counts size history q false None = ap (λ (h : List Entry). query_count (past h)) (append-nil history)
take_counts size history q false (Some g) = ap (λ (b : List Entry). query_count b) (reverse-append history _)

pub take_keeps_count : (store store_now : Shown) (q : ℕ) → store_now ≡ with_entries store (entries_of 0 (s.step store.limits (past store.history) (s.Take q)).deed)
    → query_count (past store_now.history) ≡ query_count (past store.history)
take_keeps_count store store_now q is =
    ap (λ (x : Shown). query_count (past x.history)) is
    ∙ take_counts store.limits.group store.history q (has_left q (past store.history)) (registration q (past store.history))

handed : (q : ℕ) (o : Option Snapshot) → snapshot_in (take_reply q o) ≡ o
handed q None = refl
handed q (Some x) = refl

-- what the store's take hands out is what is then held
pub taken_is : (store store_now : Shown) (claims : List Claim) (groups : List Group) (queries : List Hold) (q : ℕ) (held : Hold)
    → Makes store store_now 0 (s.Take q) (Some (take_reply q (take_in held))) → taken_at q (desk_of store claims groups queries) ≡ take_in held
taken_is store store_now claims groups queries q held made = ap (λ (r : s.Reply). snapshot_in r) (sym made.0) ∙ handed q (take_in held)

by_held : (d : Desk) (q : ℕ) (o : Option Snapshot) (now : Desk) → (o ≡ None → now ≡ d) → ((x : Snapshot) → o ≡ Some x → now ≡ with_held q (Some x) d) → now ≡ holding q o d
by_held d q None now none some = none refl
by_held d q (Some x) now none some = some x refl

pub take_is : (store store_now : Shown) (claims : List Claim) (groups : List Group) (queries queries_now : List Hold) (q at : ℕ) (h held : Hold)
    → at + 1 ≡ q → h ≡ slice_index_or queries at h → take_in h ≡ None → queries_now ≡ slice_set queries at held
    → Makes store store_now 0 (s.Take q) (Some (take_reply q (take_in held)))
    → desk_of store_now claims groups queries_now ≡ holding q (taken_at q (desk_of store claims groups queries)) (moved (desk_of store claims groups queries) (s.Take q))
take_is store store_now claims groups queries queries_now q at h held is here free put made =
    let d = moved (desk_of store claims groups queries) (s.Take q) in
    let now = desk_of store_now claims groups queries_now in
    let change : (qs : List (Option Snapshot)) → map take_in queries_now ≡ qs → now ≡ with_queries d qs =
    λ qs e. ap (λ (x : Shown). desk_of x claims groups queries_now) made.1 ∙ ap (λ (os : List (Option Snapshot)). with_queries d os) e in
    let written = ap (λ (hs : List Hold). map take_in hs) put in
    subst (λ (o : Option Snapshot). now ≡ holding q o d) (sym (taken_is store store_now claims groups queries q held made))
    (by_held d q (take_in held) now
    (λ e. change (map take_in queries) (written ∙ map-set_same take_in queries at held h (e ∙ sym free ∙ ap (λ (x : Hold). take_in x) here)))
    (λ x e. change (slice_set (map take_in queries) (q - 1) (Some x))
    (written ∙ map-set take_in queries at held ∙ ap (λ (o : Option Snapshot). slice_set (map take_in queries) at o) e ∙ ap (λ (n : ℕ). slice_set (map take_in queries) n (Some x)) (omega (arith, is)))))
