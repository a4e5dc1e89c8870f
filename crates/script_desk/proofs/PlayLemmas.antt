-- That each line is played, from what the calls on the store and on what is held say.
use Rattle.std.proofs.Common.{◌≡◌, ℕ, ◌<◌, Bool, true, false, if◌then◌else◌, List, [], ◌∷◌, ◌++◌, Option, None, Some, Result, Ok, Err, IfOk, OnOk, codes, length, map, slice_index_or, refl, ap, sym, ◌∙◌, subst, arith, append_assoc}
use Rattle.std.specs.List.{remove}
use Rattle.std.specs.declared.alloc.AllocError.{AllocError}
use Rattle.std.proofs.lemmas.List.{map-append}
use Rattle.query_meaning.specs.declared.expr.Expr.{Expr}
use Rattle.query_parse.specs.declared.fault.QueryFault.{QueryFault}
use Rattle.query_parse.specs.Parsing.{parsed}
use Rattle.event_history.specs.declared.entry.Mode.{Mode}
use Rattle.event_history.specs.Histories.{past}
use Rattle.event_history.specs.Steps as s
use Rattle.history_core.specs.declared.answers.Claim.{Claim}
use Rattle.history_core.specs.declared.answers.Group.{Group}
use Rattle.event_batch.specs.Contents.{Spelled}
use Rattle.history_core.specs.declared.answers.Accepted.{Accepted}
use Rattle.history_core.specs.declared.answers.AcceptEnd.{AcceptEnd}
use Rattle.history_core.specs.declared.answers.AcceptEnd.TheVariants as accept
use Rattle.history_core.specs.Replies.{Makes, accept_reply, claim_given, group_given}
use Rattle.history_core.specs.Shown.{Shown, entries_of, with_entries}
use Rattle.script_desk.specs.declared.desk.Hold.{Hold}
use Rattle.script_desk.specs.declared.desk.Refused.{Refused}
use Rattle.script_desk.specs.Desks.{Desk, Played, Plays, claim_played, group_played, holds_claim, moved, play_claim, play_group, play_lose, play_parsed, play_query, play_seal, play_unclaim, replied, seal_played, step_at, with_groups, without_claim}
use Rattle.script_desk.specs.Kept.{IsFirstOn, NoneOn, desk_of}
use Rattle.script_desk.specs.Refusals.{IsBack}
use Rattle.script_desk.specs.Texts.{refused_text, told}
use Rattle.script_desk.proofs.ClaimLemmas.{first_held, first_removed, none_held, none_removed, numbers}

pub plays : (r : Result (Unit {0}) AllocError) (p : Played) (now : Desk) (out out_now : List ℕ) → now ≡ p.desk
    → OnOk r (out_now ≡ out ++ (p.reply ++ 10 ∷ [])) → OnOk r (Plays p now out out_now)
plays (Ok u) p now out out_now is h = (is, h)
plays (Err e) p now out out_now is h = tt

by_true : (t : Bool) (x y : Played) (P : Played → Type 0) → t ≡ true → P x → P (if t then x else y)
by_true true x y P e p = p
by_true false x y P e p = absurd cc

by_false : (t : Bool) (x y : Played) (P : Played → Type 0) → t ≡ false → P y → P (if t then x else y)
by_false true x y P e p = absurd cc
by_false false x y P e p = p

pub if_ok : {T : Type 0} (r : Result T AllocError) (P : T → Type 0) → ((x : T) → P x) → IfOk r P
if_ok (Ok x) P h = h x
if_ok (Err e) P h = tt

-- Texts.
pub text_behind : (r : Result (Unit {0}) AllocError) (out out_then out_now told_first words said : List ℕ) → out_then ≡ out ++ told_first → said ≡ words
    → OnOk r (out_now ≡ out_then ++ (said ++ 10 ∷ [])) → OnOk r (out_now ≡ out ++ ((told_first ++ words) ++ 10 ∷ []))
text_behind (Ok u) out out_then out_now told_first words said e w h =
    h ∙ ap (λ (x : List ℕ). x ++ (said ++ 10 ∷ [])) e
    ∙ ap (λ (x : List ℕ). (out ++ told_first) ++ (x ++ 10 ∷ [])) w
    ∙ append_assoc out told_first (words ++ 10 ∷ [])
    ∙ ap (λ (x : List ℕ). out ++ x) (sym (append_assoc told_first words (10 ∷ [])))
text_behind (Err x) out out_then out_now told_first words said e w h = tt

-- Claims.
pub claims_left : (store : Shown) (claims claims_now : List Claim) (groups : List Group) (queries : List Hold) (b at : ℕ) → IsFirstOn claims b at → claims_now ≡ remove claims at
    → desk_of store claims_now groups queries ≡ without_claim b (desk_of store claims groups queries)
claims_left store claims claims_now groups queries b at f is =
    let d = desk_of store claims groups queries in
    let e : map (λ c. c.batch) claims_now ≡ _ = ap (λ (cs : List Claim). numbers cs) is ∙ first_removed claims b at f in
    ap (λ (ns : List ℕ). record { limits = d.limits; history = d.history; claims = ns; groups = d.groups; queries = d.queries }) e

pub none_left : (store : Shown) (claims : List Claim) (groups : List Group) (queries : List Hold) (b : ℕ) → NoneOn claims b
    → desk_of store claims groups queries ≡ without_claim b (desk_of store claims groups queries)
none_left store claims groups queries b none =
    let d = desk_of store claims groups queries in
    ap (λ (ns : List ℕ). record { limits = d.limits; history = d.history; claims = ns; groups = d.groups; queries = d.queries }) (sym (none_removed claims b none))

pub lost : (r : Result (Unit {0}) AllocError) (store : Shown) (claims claims_now : List Claim) (groups : List Group) (queries : List Hold) (b at : ℕ) (out out_now : List ℕ)
    → IsFirstOn claims b at → claims_now ≡ remove claims at → OnOk r (out_now ≡ out ++ (told (codes "lost ") b ++ 10 ∷ []))
    → OnOk r (Plays (play_lose b (desk_of store claims groups queries)) (desk_of store claims_now groups queries) out out_now)
lost r store claims claims_now groups queries b at out out_now f is h =
    let d = desk_of store claims groups queries in
    let now = desk_of store claims_now groups queries in
    by_true (holds_claim b d) _ _ (λ (p : Played). OnOk r (Plays p now out out_now)) (first_held claims b at f)
    (plays r (replied (without_claim b d) (told (codes "lost ") b)) now out out_now (claims_left store claims claims_now groups queries b at f is) h)

pub not_lost : (r : Result (Unit {0}) AllocError) (store : Shown) (claims : List Claim) (groups : List Group) (queries : List Hold) (b : ℕ) (out out_now : List ℕ)
    → NoneOn claims b → OnOk r (out_now ≡ out ++ (told (codes "no claim ") b ++ 10 ∷ []))
    → OnOk r (Plays (play_lose b (desk_of store claims groups queries)) (desk_of store claims groups queries) out out_now)
not_lost r store claims groups queries b out out_now none h =
    let d = desk_of store claims groups queries in
    by_false (holds_claim b d) _ _ (λ (p : Played). OnOk r (Plays p d out out_now)) (none_held claims b none)
    (plays r (replied d (told (codes "no claim ") b)) d out out_now refl h)

pub not_unclaimed : (r : Result (Unit {0}) AllocError) (store : Shown) (claims : List Claim) (groups : List Group) (queries : List Hold) (b : ℕ) (out out_now : List ℕ)
    → NoneOn claims b → OnOk r (out_now ≡ out ++ (told (codes "no claim ") b ++ 10 ∷ []))
    → OnOk r (Plays (play_unclaim b (desk_of store claims groups queries)) (desk_of store claims groups queries) out out_now)
not_unclaimed r store claims groups queries b out out_now none h =
    let d = desk_of store claims groups queries in
    by_false (holds_claim b d) _ _ (λ (p : Played). OnOk r (Plays p d out out_now)) (none_held claims b none)
    (plays r (replied d (told (codes "no claim ") b)) d out out_now refl h)

pub unclaimed : (r : Result (Unit {0}) AllocError) (store : Shown) (claims claims_now : List Claim) (groups : List Group) (queries : List Hold) (b at : ℕ) (now : Desk) (out out_now : List ℕ)
    → IsFirstOn claims b at → claims_now ≡ remove claims at → now ≡ moved (desk_of store claims_now groups queries) (s.Unclaim b)
    → OnOk r (out_now ≡ out ++ (told (codes "unclaimed ") b ++ 10 ∷ []))
    → OnOk r (Plays (play_unclaim b (desk_of store claims groups queries)) now out out_now)
unclaimed r store claims claims_now groups queries b at now out out_now f is after h =
    let d = desk_of store claims groups queries in
    by_true (holds_claim b d) _ _ (λ (p : Played). OnOk r (Plays p now out out_now)) (first_held claims b at f)
    (plays r (replied (without_claim b (moved d (s.Unclaim b))) (told (codes "unclaimed ") b)) now out out_now
    (after ∙ ap (λ (x : Desk). moved x (s.Unclaim b)) (claims_left store claims claims_now groups queries b at f is)) h)

pub moved_desk : (store store_now : Shown) (request : s.Request) (claims : List Claim) (groups : List Group) (queries : List Hold)
    → store_now ≡ with_entries store (entries_of 0 (s.step store.limits (past store.history) request).deed)
    → desk_of store_now claims groups queries ≡ moved (desk_of store claims groups queries) request
moved_desk store store_now request claims groups queries is = ap (λ (x : Shown). desk_of x claims groups queries) is

pub none_claimed : (r : Result (Unit {0}) AllocError) (store store_now : Shown) (claims claims_now : List Claim) (groups : List Group) (queries : List Hold) (given : Option Claim) (out out_now : List ℕ)
    → Makes store store_now 0 s.Claim (Some (claim_given given)) → given ≡ None → claims_now ≡ claims → OnOk r (out_now ≡ out ++ (codes "claim none" ++ 10 ∷ []))
    → OnOk r (Plays (play_claim (desk_of store claims groups queries)) (desk_of store_now claims_now groups queries) out out_now)
none_claimed r store store_now claims claims_now groups queries given out out_now made is same h =
    let d = desk_of store claims groups queries in
    let now = desk_of store_now claims_now groups queries in
    let reply : s.NoneFree ≡ (step_at d s.Claim).reply = ap (λ (g : Option Claim). claim_given g) (sym is) ∙ made.0 in
    subst (λ (x : s.Reply). OnOk r (Plays (claim_played (moved d s.Claim) x) now out out_now)) reply
    (plays r (replied (moved d s.Claim) (codes "claim none")) now out out_now
    (ap (λ (cs : List Claim). desk_of store_now cs groups queries) same ∙ moved_desk store store_now s.Claim claims groups queries made.1) h)

pub one_claimed : (r : Result (Unit {0}) AllocError) (store store_now : Shown) (claims claims_now : List Claim) (groups : List Group) (queries : List Hold) (given : Option Claim) (claim : Claim) (out out_now : List ℕ)
    → Makes store store_now 0 s.Claim (Some (claim_given given)) → given ≡ Some claim → claims_now ≡ claims ++ claim ∷ []
    → OnOk r (out_now ≡ out ++ (told (codes "claim ") claim.batch ++ 10 ∷ []))
    → OnOk r (Plays (play_claim (desk_of store claims groups queries)) (desk_of store_now claims_now groups queries) out out_now)
one_claimed r store store_now claims claims_now groups queries given claim out out_now made is more h =
    let d = desk_of store claims groups queries in
    let after = moved d s.Claim in
    let now = desk_of store_now claims_now groups queries in
    let reply : s.Claimed claim.batch claim.first claim.packed ≡ (step_at d s.Claim).reply = ap (λ (g : Option Claim). claim_given g) (sym is) ∙ made.0 in
    let held : numbers claims_now ≡ numbers claims ++ claim.batch ∷ [] = ap (λ (cs : List Claim). numbers cs) more ∙ map-append (λ (c : Claim). c.batch) claims (claim ∷ []) in
    let after_is : now ≡ (claim_played after (s.Claimed claim.batch claim.first claim.packed)).desk =
    ap (λ (x : Shown). desk_of x claims_now groups queries) made.1
    ∙ ap (λ (ns : List ℕ). record { limits = after.limits; history = after.history; claims = ns; groups = after.groups; queries = after.queries }) held in
    subst (λ (x : s.Reply). OnOk r (Plays (claim_played after x) now out out_now)) reply
    (plays r (claim_played after (s.Claimed claim.batch claim.first claim.packed)) now out out_now after_is h)

-- Groups.
abbrev group_numbers : List Group → List ℕ
group_numbers groups = map (λ g. g.number) groups

pub none_grouped : (r : Result (Unit {0}) AllocError) (store : Shown) (claims : List Claim) (groups groups_now : List Group) (queries : List Hold) (given : Option Group) (out out_now : List ℕ)
    → group_given given ≡ (s.step store.limits (past store.history) s.ClaimGroup).reply → given ≡ None → groups_now ≡ groups
    → OnOk r (out_now ≡ out ++ (codes "group none" ++ 10 ∷ []))
    → OnOk r (Plays (play_group (desk_of store claims groups queries)) (desk_of store claims groups_now queries) out out_now)
none_grouped r store claims groups groups_now queries given out out_now made is same h =
    let d = desk_of store claims groups queries in
    let now = desk_of store claims groups_now queries in
    subst (λ (x : s.Reply). OnOk r (Plays (group_played d x) now out out_now)) (ap (λ (g : Option Group). group_given g) (sym is) ∙ made)
    (plays r (replied d (codes "group none")) now out out_now (ap (λ (gs : List Group). desk_of store claims gs queries) same) h)

pub one_grouped : (r : Result (Unit {0}) AllocError) (store : Shown) (claims : List Claim) (groups groups_now : List Group) (queries : List Hold) (given : Option Group) (group : Group) (out out_now : List ℕ)
    → group_given given ≡ (s.step store.limits (past store.history) s.ClaimGroup).reply → given ≡ Some group → groups_now ≡ groups ++ group ∷ []
    → OnOk r (out_now ≡ out ++ (told (codes "group ") group.number ++ 10 ∷ []))
    → OnOk r (Plays (play_group (desk_of store claims groups queries)) (desk_of store claims groups_now queries) out out_now)
one_grouped r store claims groups groups_now queries given group out out_now made is more h =
    let d = desk_of store claims groups queries in
    let now = desk_of store claims groups_now queries in
    let held : group_numbers groups_now ≡ group_numbers groups ++ group.number ∷ [] =
    ap (λ (gs : List Group). group_numbers gs) more ∙ map-append (λ (g : Group). g.number) groups (group ∷ []) in
    subst (λ (x : s.Reply). OnOk r (Plays (group_played d x) now out out_now)) (ap (λ (g : Option Group). group_given g) (sym is) ∙ made)
    (plays r (group_played d (s.GroupClaimed group.number group.fragments)) now out out_now (ap (λ (ns : List ℕ). with_groups d ns) held) h)

pub first_group : (store : Shown) (claims : List Claim) (groups groups_now : List Group) (queries : List Hold) (g : Group) → 0 < length groups → g ≡ slice_index_or groups 0 g
    → groups_now ≡ remove groups 0 → play_seal (desk_of store claims groups queries) ≡ seal_played g.number (desk_of store claims groups_now queries)
first_group store claims [] groups_now queries g some is left = absurd (omega (arith, some))
first_group store claims (x ∷ groups) groups_now queries g some is left =
    ap (λ (y : Group). seal_played y.number (desk_of store claims groups queries)) (sym is)
    ∙ ap (λ (gs : List Group). seal_played g.number (desk_of store claims gs queries)) (sym left)

-- Queries.
pub query_refused : (r : Result (Unit {0}) AllocError) (mode : Mode) (text : List ℕ) (d : Desk) (fault : QueryFault) (out out_now : List ℕ) → parsed text ≡ Err fault
    → OnOk r (out_now ≡ out ++ (refused_text fault ++ 10 ∷ [])) → OnOk r (Plays (play_query mode text d) d out out_now)
query_refused r mode text d fault out out_now is h =
    subst (λ (x : Result Expr QueryFault). OnOk r (Plays (play_parsed mode x d) d out out_now)) (sym is)
    (plays r (replied d (refused_text fault)) d out out_now refl h)

-- what comes back of a batch that was offered
pub accepted_back : (store new : Shown) (claims : List Claim) (groups : List Group) (queries : List Hold) (packed : Spelled) (end : Result Accepted (Spelled × AcceptEnd)) (d : Desk) (a : Accepted)
    → desk_of store claims groups queries ≡ d → Makes store new 0 (s.Accept packed) (accept_reply end) → end ≡ Ok a → IsBack None packed (step_at d (s.Accept packed)).reply
accepted_back store new claims groups queries packed end d a is makes ended =
    let made = subst (λ (r : Result Accepted (Spelled × AcceptEnd)). Makes store new 0 (s.Accept packed) (accept_reply r)) ended makes in
    (a.batch, (a.first, sym (made.0 ∙ ap (λ (x : Desk). (step_at x (s.Accept packed)).reply) is)))

pub full_back : (store new : Shown) (claims : List Claim) (groups : List Group) (queries : List Hold) (packed : Spelled) (end : Result Accepted (Spelled × AcceptEnd)) (d : Desk) (refused : Refused)
    → desk_of store claims groups queries ≡ d → Makes store new 0 (s.Accept packed) (accept_reply end) → end ≡ Err (refused.packed, accept.Full refused.have refused.limit) → refused.packed ≡ packed
    → IsBack (Some refused) packed (step_at d (s.Accept packed)).reply
full_back store new claims groups queries packed end d refused is makes ended same =
    let made = subst (λ (r : Result Accepted (Spelled × AcceptEnd)). Makes store new 0 (s.Accept packed) (accept_reply r)) ended makes in
    (same, sym (made.0 ∙ ap (λ (x : Desk). (step_at x (s.Accept packed)).reply) is))
