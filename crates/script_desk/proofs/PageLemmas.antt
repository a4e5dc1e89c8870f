-- Pages of the takes that are held.
use Rattle.std.proofs.Common.{◌≡◌, ℕ, zero, suc, ◌+◌, ◌-◌, ◌<◌, ◌≤◌, Bool, true, false, cond, List, [], ◌∷◌, ◌++◌, Option, None, Some, is_some, Result, OnOk, length, map, slice_get, slice_index_or, slice_set, refl, ap, sym, ◌∙◌, subst, arith}
use Rattle.std.specs.declared.alloc.AllocError.{AllocError}
use Rattle.std.proofs.lemmas.List.{length-map, map-set}
use Rattle.archive_cache.specs.Caches.{Caching, Kept, after_ask, kept_as}
use Rattle.event_history.specs.Pieces.{Held}
use Rattle.event_history.specs.Steps as s
use Rattle.history_core.specs.declared.answers.Claim.{Claim}
use Rattle.history_core.specs.declared.answers.Group.{Group}
use Rattle.history_core.specs.Shown.{Shown}
use Rattle.history_core.specs.Snapshots.{Snapshot}
use Rattle.history_core.specs.declared.taken.Taken.{Taken}
use Rattle.exporter.specs.declared.finishing.Page.{Page}
use Rattle.exporter.specs.Asks.{asks_of, loads_in}
use Rattle.exporter.specs.Finished.{IsPage}
use Rattle.script_desk.specs.declared.desk.Hold.{Hold}
use Rattle.script_desk.specs.declared.desk.Hold.TheVariants as hold
use Rattle.script_desk.specs.Desks.{Desk, Played, Plays, drain_by, drained_text, held_in, held_of_query, holding, moved, page_by, play_drain, play_page, replied, take_of, taken_at, with_held, with_queries}
use Rattle.script_desk.specs.Kept.{desk_of, take_in}
use Rattle.script_desk.specs.Texts.{page_lines, page_text}
use Rattle.script_desk.proofs.PlayLemmas.{plays}
use Rattle.script_desk.proofs.QueryLemmas.{held_at, place_there}

-- Loads.
decoded_once : (b : Bool) (n m : ℕ) → n ≤ m → cond b 0 1 + n ≤ suc m
decoded_once true n m h = omega (arith, h)
decoded_once false n m h = omega (arith, h)

few_loads : (asks : List Kept) (cache : Caching) → loads_in asks cache ≤ length asks
few_loads [] cache = omega arith
few_loads (ask ∷ asks) cache =
    decoded_once (is_some (kept_as ask.0 cache)) (loads_in asks (after_ask ask.0 ask.1 cache)) (length asks) (few_loads asks (after_ask ask.0 ask.1 cache))

length_of_asks : (held : List Held) → length (asks_of held) ≡ length held
length_of_asks held = simp length-map

-- no more batches are decoded than are read
pub loads_within : (held : List Held) (cache : Caching) → loads_in (asks_of held) cache ≤ length held
loads_within held cache = omega (arith, few_loads (asks_of held) cache, length_of_asks held)

-- The take that is held.
pub with_some : {A P : Type 0} (o : Option A) → is_some o ≡ true → ((x : A) → o ≡ Some x → P) → P
with_some None some f = absurd cc
with_some (Some x) some f = f x refl

pub no_take : (h : Hold) → is_some (take_in h) ≡ true → ((taken : Taken) → h ≡ hold.Taken taken → ⊥) → ⊥
no_take (hold.Session session) some other = cc
no_take (hold.Taken taken) some other = other taken refl
no_take hold.Moved some other = cc

pub nothing_taken : (h : Hold) → ((taken : Taken) → h ≡ hold.Taken taken → ⊥) → take_in h ≡ None
nothing_taken (hold.Session session) other = refl
nothing_taken (hold.Taken taken) other = absurd (other taken refl)
nothing_taken hold.Moved other = refl

held_there : (queries : List Hold) (q at : ℕ) (o : Option (Option Snapshot)) → held_of_query (map take_in queries) q ≡ o → at + 1 ≡ q → is_some (held_in o) ≡ true → at < length queries
held_there queries q at None e is some = absurd cc
held_there queries q at (Some held) e is some = place_there queries q at held is e

-- the place of a query whose take is held
pub taken_there : (queries : List Hold) (q at : ℕ) → at + 1 ≡ q → is_some (held_in (held_of_query (map take_in queries) q)) ≡ true → at < length queries
taken_there queries q at is some = held_there queries q at (held_of_query (map take_in queries) q) refl is some

pub take_here : (queries : List Hold) (q at : ℕ) (h : Hold) → at + 1 ≡ q → at < length queries → h ≡ slice_index_or queries at h
    → held_in (held_of_query (map take_in queries) q) ≡ take_in h
take_here queries q at h is there here = ap (λ (o : Option (Option Snapshot)). held_in o) (held_at queries q at h is there here)

-- Pages.
pub page_tells : (q : ℕ) (x : Snapshot) (cache : Caching) (page : Page) → IsPage x cache page → page_lines q page ≡ page_text q x
page_tells q x cache page is =
    let found = is.found in
    let past_to = is.past_to in
    let live_to = is.live_to in
    let again = is.again in
    let checked = is.checked in
    let touched = is.touched in
    cc

pub page_is : (r : Result (Unit {0}) AllocError) (store : Shown) (claims : List Claim) (groups : List Group) (queries queries_now : List Hold) (q at : ℕ) (h held : Hold) (x : Snapshot)
    (cache : Caching) (page : Page) (out out_now : List ℕ) → at + 1 ≡ q → at < length queries → h ≡ slice_index_or queries at h → take_in h ≡ Some x → take_in held ≡ None
    → queries_now ≡ slice_set queries at held → IsPage x cache page → OnOk r (out_now ≡ out ++ (page_lines q page ++ 10 ∷ []))
    → OnOk r (Plays (play_page q (desk_of store claims groups queries)) (desk_of store claims groups queries_now) out out_now)
page_is r store claims groups queries queries_now q at h held x cache page out out_now is there here taken free put page_of_it told =
    let d = desk_of store claims groups queries in
    let now = desk_of store claims groups queries_now in
    let take : take_of q d ≡ Some x = take_here queries q at h is there here ∙ taken in
    let written : map take_in queries_now ≡ slice_set (map take_in queries) (q - 1) None =
    ap (λ (hs : List Hold). map take_in hs) put ∙ map-set take_in queries at held ∙ ap (λ (o : Option Snapshot). slice_set (map take_in queries) at o) free
    ∙ ap (λ (n : ℕ). slice_set (map take_in queries) n None) (omega (arith, is)) in
    subst (λ (o : Option Snapshot). OnOk r (Plays (page_by q d o) now out out_now)) (sym take)
    (plays r (replied (with_held q None d) (page_text q x)) now out out_now (ap (λ (os : List (Option Snapshot)). with_queries d os) written)
    (subst (λ (t : List ℕ). OnOk r (out_now ≡ out ++ (t ++ 10 ∷ []))) (page_tells q x cache page page_of_it) told))

pub page_played : (r : Result (Unit {0}) AllocError) (store : Shown) (claims : List Claim) (groups : List Group) (queries : List Hold) (q at : ℕ) (h held : Hold)
    (cache : Caching) (page : Page) (out out_now : List ℕ) → at + 1 ≡ q → at < length queries → h ≡ slice_index_or queries at h → is_some (take_in h) ≡ true → take_in held ≡ None
    → ((x : Snapshot) → take_in h ≡ Some x → IsPage x cache page) → OnOk r (out_now ≡ out ++ (page_lines q page ++ 10 ∷ []))
    → OnOk r (Plays (play_page q (desk_of store claims groups queries)) (desk_of store claims groups (slice_set queries at held)) out out_now)
page_played r store claims groups queries q at h held cache page out out_now is there here taken free page_of_it told =
    with_some {P = OnOk r (Plays (play_page q (desk_of store claims groups queries)) (desk_of store claims groups (slice_set queries at held)) out out_now)} (take_in h) taken
    (λ x e. page_is r store claims groups queries (slice_set queries at held) q at h held x cache page out out_now is there here e free refl (page_of_it x e) told)

pub no_page : (r : Result (Unit {0}) AllocError) (q : ℕ) (d : Desk) (out out_now : List ℕ) → take_of q d ≡ None → OnOk r (out_now ≡ out ++ ((page_by q d None).reply ++ 10 ∷ []))
    → OnOk r (Plays (play_page q d) d out out_now)
no_page r q d out out_now none told =
    subst (λ (o : Option Snapshot). OnOk r (Plays (page_by q d o) d out out_now)) (sym none) (plays r (page_by q d None) d out out_now refl told)

-- A take and its page at once.
got_set : (queries : List (Option Snapshot)) (i : ℕ) (held x : Option Snapshot) → slice_get queries i ≡ Some held → slice_get (slice_set queries i x) i ≡ Some x
got_set [] i held x e = absurd cc
got_set (y ∷ queries) zero held x e = refl
got_set (y ∷ queries) (suc i) held x e = got_set queries i held x e

set_back : (queries : List (Option Snapshot)) (i : ℕ) (x : Option Snapshot) → slice_get queries i ≡ Some None → slice_set (slice_set queries i x) i None ≡ queries
set_back [] i x e = refl
set_back (y ∷ queries) zero x e = let none : None ≡ y = cc in ap (λ (o : Option Snapshot). o ∷ queries) none
set_back (y ∷ queries) (suc i) x e = ap (λ (os : List (Option Snapshot)). y ∷ os) (set_back queries i x e)

pub read_held : (queries : List (Option Snapshot)) (q : ℕ) (x : Option Snapshot) → held_of_query queries q ≡ Some None → held_of_query (slice_set queries (q - 1) x) q ≡ Some x
read_held queries zero x e = absurd cc
read_held queries (suc i) x e =
    let same : suc i - 1 ≡ i = omega arith in
    ap (λ (n : ℕ). slice_get (slice_set queries n x) i) same ∙ got_set queries i None x e

free_again : (queries : List (Option Snapshot)) (q : ℕ) (x : Option Snapshot) → held_of_query queries q ≡ Some None → slice_set (slice_set queries (q - 1) x) (q - 1) None ≡ queries
free_again queries zero x e = absurd cc
free_again queries (suc i) x e =
    let same : suc i - 1 ≡ i = omega arith in
    ap (λ (n : ℕ). slice_set (slice_set queries n x) n None) same ∙ set_back queries i x e

-- the take of the desk that holds what was handed out
pub take_held : (d : Desk) (q : ℕ) (o : Option Snapshot) → held_of_query d.queries q ≡ Some None → take_of q (holding q o d) ≡ o
take_held d q None free = ap (λ (h : Option (Option Snapshot)). held_in h) free
take_held d q (Some x) free = ap (λ (h : Option (Option Snapshot)). held_in h) (read_held d.queries q (Some x) free)

page_of_held : (d : Desk) (q : ℕ) (o : Option Snapshot) → held_of_query d.queries q ≡ Some None → is_some o ≡ true → play_page q (holding q o d) ≡ replied d (drained_text q o)
page_of_held d q None free some = absurd cc
page_of_held d q (Some x) free some =
    ap (λ (o : Option Snapshot). page_by q (with_held q (Some x) d) o) (take_held d q (Some x) free)
    ∙ ap (λ (os : List (Option Snapshot)). replied (with_queries d os) (page_text q x)) (free_again d.queries q (Some x) free)

pub drained : (r : Result (Unit {0}) AllocError) (d mid now : Desk) (q : ℕ) (told : Bool) (out out_now : List ℕ) → held_of_query d.queries q ≡ Some None
    → mid ≡ holding q (taken_at q d) (moved d (s.Take q)) → told ≡ is_some (taken_at q d) → told ≡ true
    → OnOk r (Plays (play_page q mid) now out out_now) → OnOk r (Plays (play_drain q d) now out out_now)
drained r d mid now q told out out_now free is some there page =
    let o = taken_at q d in
    let d_now = moved d (s.Take q) in
    let played : play_page q mid ≡ replied d_now (drained_text q o) = ap (λ (x : Desk). play_page q x) is ∙ page_of_held d_now q o free (sym some ∙ there) in
    subst (λ (h : Option (Option Snapshot)). OnOk r (Plays (drain_by q d h) now out out_now)) (sym free)
    (subst (λ (p : Played). OnOk r (Plays p now out out_now)) played page)

none_drained : (r : Result (Unit {0}) AllocError) (d d_now mid : Desk) (q : ℕ) (o : Option Snapshot) (out out_now : List ℕ) → mid ≡ holding q o d_now → is_some o ≡ false
    → OnOk r (out_now ≡ out ++ (drained_text q None ++ 10 ∷ [])) → OnOk r (Plays (replied d_now (drained_text q o)) mid out out_now)
none_drained r d d_now mid q None out out_now is none told = plays r (replied d_now (drained_text q None)) mid out out_now is told
none_drained r d d_now mid q (Some x) out out_now is none told = absurd cc

pub not_drained : (r : Result (Unit {0}) AllocError) (d mid : Desk) (q : ℕ) (told : Bool) (out out_now : List ℕ) → held_of_query d.queries q ≡ Some None
    → mid ≡ holding q (taken_at q d) (moved d (s.Take q)) → told ≡ is_some (taken_at q d) → told ≡ false
    → OnOk r (out_now ≡ out ++ (drained_text q None ++ 10 ∷ [])) → OnOk r (Plays (play_drain q d) mid out out_now)
not_drained r d mid q told out out_now free is some left text =
    subst (λ (h : Option (Option Snapshot)). OnOk r (Plays (drain_by q d h) mid out out_now)) (sym free)
    (none_drained r d (moved d (s.Take q)) mid q (taken_at q d) out out_now is (sym some ∙ left) text)

-- how many batches are decoded
pub drain_steps : (d mid : Desk) (q : ℕ) → held_of_query d.queries q ≡ Some None → mid ≡ holding q (taken_at q d) (moved d (s.Take q)) → take_of q mid ≡ taken_at q d
drain_steps d mid q free is = ap (λ (x : Desk). take_of q x) is ∙ take_held (moved d (s.Take q)) q (taken_at q d) free
