-- What a move owes the turn book, and what a turn gives its caller.
use Rattle.std.proofs.Common.{◌≡◌, ℕ, ◌<◌, List, [], ◌++◌, Option, None, Some, Result, Ok, Err, IfOk, All, ap, sym, refl, subst, ◌∙◌, append-nil, arith, rules}
use Rattle.std.specs.declared.alloc.AllocError.{AllocError}
use Rattle.std.proofs.lemmas.List.{reverse-append}
use Rattle.event_history.specs.declared.entry.Entry.{Entry}
use Rattle.event_history.specs.declared.entry.Limits.{Limits}
use Rattle.event_history.specs.Histories.{batch_count, past}
use Rattle.event_history.specs.Laws.{Grows}
use Rattle.event_history.specs.Legal.{Legal}
use Rattle.event_history.specs.Steps as s
use Rattle.history_core.specs.declared.answers.Claim.{Claim}
use Rattle.history_core.specs.declared.answers.Group.{Group}
use Rattle.history_core.specs.Given.{GivenStays}
use Rattle.history_core.specs.Replies.{GivesGroup, GivesMergeable, IsClaimAt, IsRegisteredAt, MergesTo, Replies, claim_group_reply}
use Rattle.history_core.specs.Shown.{Shown}
use Rattle.shared_store.specs.Given.{GroupIsGiven, IsGroup, Lasts}
use Rattle.shared_store.specs.Turns.{Answers, seat_of}

-- what lasts from a history holds of it, where it is legal
pub lasts_now : (holds : List Entry → Type 0) (limits : Limits) (h : List Entry) → Lasts holds limits h → Legal limits (past h) → holds (past h)
lasts_now holds limits h lasts legal = lasts h ([], sym (append-nil h)) legal

none_made : (seat : ℕ) → All (λ (e : Entry). seat_of e ≡ seat) []
none_made seat = search rules

-- What was given stays good in a later history.

pub claims_stay : ((store : Shown) (more : List Entry) → GivenStays store more) → (f : Limits) (seen : List Entry) (claim : Claim) → IsClaimAt (past seen) claim
    → Lasts (λ before. IsClaimAt before claim) f seen
claims_stay law f seen claim known later b legal =
    subst (λ (l : List Entry). IsClaimAt (past l) claim) (sym b.1)
    ((law (record { limits = f; history = seen }) b.0 (subst (λ (l : List Entry). Legal f (past l)) b.1 legal)).claims claim known)

pub groups_stay : ((store : Shown) (more : List Entry) → GivenStays store more) → (f : Limits) (seen : List Entry) (group : Group) → IsGroup group f (past seen)
    → Lasts (IsGroup group f) f seen
groups_stay law f seen group known later b legal =
    subst (λ (l : List Entry). IsGroup group f (past l)) (sym b.1)
    ((law (record { limits = f; history = seen }) b.0 (subst (λ (l : List Entry). Legal f (past l)) b.1 legal)).groups group known)

pub queries_stay : ((store : Shown) (more : List Entry) → GivenStays store more) → (f : Limits) (seen : List Entry) (query : ℕ) → IsRegisteredAt (past seen) query
    → Lasts (λ before. IsRegisteredAt before query) f seen
queries_stay law f seen query known later b legal =
    subst (λ (l : List Entry). IsRegisteredAt (past l) query) (sym b.1)
    ((law (record { limits = f; history = seen }) b.0 (subst (λ (l : List Entry). Legal f (past l)) b.1 legal)).queries query known)

pub batches_stay : ((limits : Limits) (later past : List Entry) → Grows limits later past) → (f : Limits) (seen : List Entry) (batch : ℕ) → batch < batch_count (past seen)
    → Lasts (λ before. batch < batch_count before) f seen
batches_stay law f seen batch known later b legal =
    let is : past later ≡ past b.0 ++ past seen = ap (λ (l : List Entry). past l) b.1 ∙ reverse-append seen b.0 in
    let grows = law f (past b.0) (past seen) (subst (Legal f) is legal) in
    subst (λ (l : List Entry). batch < batch_count l) (sym is) (omega (arith, known, grows.count))

-- a group that was given, by the history with nothing more behind it
pub group_given : (f : Limits) (h : List Entry) (group : Option Group) → GivesGroup (record { limits = f; history = h }) group → MergesTo (record { limits = f; history = h }) group
    → GroupIsGiven group f (past (h ++ []))
group_given f h None given merged = tt
group_given f h (Some group) given merged = subst (λ (l : List Entry). GroupIsGiven (Some group) f (past l)) (sym (append-nil h)) (given, merged)

-- what a claim of a group owes: nothing was done
pub claimed_group : (f : Limits) (h : List Entry) (seat : ℕ) (result : Result (Option Group) AllocError) → Legal f (past h)
    → Replies (record { limits = f; history = h }) s.ClaimGroup (claim_group_reply result)
    → IfOk result (GivesGroup (record { limits = f; history = h })) → IfOk result (MergesTo (record { limits = f; history = h })) → IfOk result GivesMergeable
    → (new : List Entry) × (h ≡ h ++ new)
    × (Answers f h seat s.ClaimGroup (claim_group_reply result) new × Legal f (past (h ++ new)) × IfOk result (λ group. GroupIsGiven group f (past (h ++ new))) × IfOk result GivesMergeable)
    × All (λ e. seat_of e ≡ seat) new × (f ≡ f)
claimed_group f h seat (Ok group) legal reply given merged mergeable =
    ([], sym (append-nil h), ((reply, refl), subst (λ (l : List Entry). Legal f (past l)) (sym (append-nil h)) legal, group_given f h group given merged, mergeable), none_made seat, refl)
claimed_group f h seat (Err e) legal reply given merged mergeable =
    ([], sym (append-nil h), (refl, subst (λ (l : List Entry). Legal f (past l)) (sym (append-nil h)) legal, given, mergeable), none_made seat, refl)
