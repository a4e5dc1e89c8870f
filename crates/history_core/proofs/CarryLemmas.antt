-- What a store keeps, carried on by an entry.
use Rattle.std.proofs.Common.{◌≡◌, ℕ, ◌+◌, ◌*◌, ◌<◌, ◌≤◌, Bool, true, false, ◌||◌, List, [], ◌∷◌, ◌++◌, Option, None, Some, is_some, length, map, take, drop, slice_get, sum_by, refl, ap, sym, ◌∙◌, subst, arith}
use Rattle.std.proofs.lemmas.List.{reverse-append, take-append-le, drop-append-le, map-append, length-drop, length-map}
use Rattle.query_meaning.specs.declared.expr.Expr.{Expr}
use Rattle.event_batch.specs.Contents.{Content, Spelled}
use Rattle.event_history.specs.declared.entry.Deed.{Deed}
use Rattle.event_history.specs.declared.entry.Deed.TheVariants.{Accept, Claim, Unclaim, Index, Seal, Register, Take, Leave}
use Rattle.event_history.specs.declared.entry.Entry.{Entry}
use Rattle.event_history.specs.declared.entry.Limits.{Limits}
use Rattle.event_history.specs.Histories.{accepted, batch_count, batches_after, content, event_count, first_of, is_sealed, past, row_count, seals, with_accepted}
use Rattle.event_history.specs.Pieces.{Piece, group_piece}
use Rattle.event_history.specs.Queries.{Registration, has_left, leaves, position, position_after, queries_after, registration, registration_after}
use Rattle.event_history.proofs.SnapshotLemmas.{batches_counted}
use Rattle.history_core.specs.declared.kept.Kept.{Kept}
use Rattle.history_core.specs.declared.kept.Query.{Query}
use Rattle.history_core.specs.declared.kept.Seal.{Seal as KeptSeal}
use Rattle.history_core.specs.Stores.{AllSealedBelow, EachQuery, IsGroup, IsQuery, Keeps, KeepsGroups, Stands, expr_at, expr_in, registered_as, seal_at}
use Rattle.partition.proofs.ListLemmas.{get_front, get_within}

pub past_more : (history : List Entry) (e : Entry) → past (history ++ e ∷ []) ≡ e ∷ past history
past_more history e = reverse-append history (e ∷ [])

pub carried : (limits : Limits) (old new : List Entry) (e : Entry) (rows : ℕ) (kept : List Kept) (low : ℕ) (queries : List Query) → new ≡ old ++ e ∷ []
    → Keeps limits (old ++ e ∷ []) (e ∷ past old) rows kept low queries → Keeps limits new (past new) rows kept low queries
carried limits old new e rows kept low queries is k =
    subst (λ (h : List Entry). Keeps limits h (past h) rows kept low queries) (sym is)
    (subst (λ (b : List Entry). Keeps limits (old ++ e ∷ []) b rows kept low queries) (sym (past_more old e)) k)

-- Queries under a deed that concerns none.
abbrev pub IsQuiet : Deed → Type 0
IsQuiet (Register q mode expr) = ⊥
IsQuiet (Take q past_to live_to) = ⊥
IsQuiet (Leave q) = ⊥
IsQuiet _ = Unit {0}

there : (o : Option Entry) (history : List Entry) (place : ℕ) → slice_get history place ≡ o → is_some (expr_in o) ≡ true → place < length history
there None history place is e = absurd cc
there (Some x) history place is e = get_within history place (ap (λ (o : Option Entry). is_some o) is)

place_there : (history : List Entry) (place : ℕ) → is_some (expr_at history place) ≡ true → place < length history
place_there history place e = there (slice_get history place) history place refl e

pub expr_more : (history : List Entry) (e : Entry) (place : ℕ) → is_some (expr_at history place) ≡ true → expr_at (history ++ e ∷ []) place ≡ expr_at history place
expr_more history e place h = ap (λ (o : Option Entry). expr_in o) (get_front history (e ∷ []) place (place_there history place h))

quiet_registration : (q : ℕ) (d : Deed) (n : ℕ) (r : Option Registration) → IsQuiet d → registration_after q d n r ≡ r
quiet_registration q (Accept packed) n r h = refl
quiet_registration q (Claim b) n r h = refl
quiet_registration q (Unclaim b) n r h = refl
quiet_registration q (Index b) n r h = refl
quiet_registration q (Seal k) n r h = refl
quiet_registration q (Register p mode expr) n r h = absurd h
quiet_registration q (Take p past_to live_to) n r h = absurd h
quiet_registration q (Leave p) n r h = absurd h

quiet_position : (q : ℕ) (d : Deed) (n : ℕ) (at : ℕ × ℕ) → IsQuiet d → position_after q d n at ≡ at
quiet_position q (Accept packed) n at h = refl
quiet_position q (Claim b) n at h = refl
quiet_position q (Unclaim b) n at h = refl
quiet_position q (Index b) n at h = refl
quiet_position q (Seal k) n at h = refl
quiet_position q (Register p mode expr) n at h = absurd h
quiet_position q (Take p past_to live_to) n at h = absurd h
quiet_position q (Leave p) n at h = absurd h

quiet_left : (q : ℕ) (d : Deed) → IsQuiet d → leaves q d ≡ false
quiet_left q (Accept packed) h = refl
quiet_left q (Claim b) h = refl
quiet_left q (Unclaim b) h = refl
quiet_left q (Index b) h = refl
quiet_left q (Seal k) h = refl
quiet_left q (Register p mode expr) h = refl
quiet_left q (Take p past_to live_to) h = refl
quiet_left q (Leave p) h = absurd h

pub quiet_count : (d : Deed) (n : ℕ) → IsQuiet d → queries_after d n ≡ n
quiet_count (Accept packed) n h = refl
quiet_count (Claim b) n h = refl
quiet_count (Unclaim b) n h = refl
quiet_count (Index b) n h = refl
quiet_count (Seal k) n h = refl
quiet_count (Register p mode expr) n h = absurd h
quiet_count (Take p past_to live_to) n h = refl
quiet_count (Leave p) n h = refl

quiet_query : (history before : List Entry) (e : Entry) (n : ℕ) (q : Query) → IsQuiet e.deed → IsQuery history before n q → IsQuery (history ++ e ∷ []) (e ∷ before) n q
quiet_query history before e n q quiet is =
    let same : expr_at (history ++ e ∷ []) q.place ≡ expr_at history q.place = expr_more history e q.place is.0 in (
      ap (λ (o : Option Expr). is_some o) same ∙ is.0,
      quiet_registration n e.deed (event_count before) (registration n before) quiet ∙ is.1 ∙ sym (ap (λ (o : Option Expr). registered_as q o) same),
      quiet_position n e.deed (event_count before) (position n before) quiet ∙ is.2,
      is.3 ∙ sym (ap (λ (b : Bool). b || has_left n before) (quiet_left n e.deed quiet)),
    )

pub quiet_queries : (history before : List Entry) (e : Entry) (queries : List Query) → IsQuiet e.deed → EachQuery history before queries
    → EachQuery (history ++ e ∷ []) (e ∷ before) queries
quiet_queries history before e queries quiet each i q h is = quiet_query history before e (i + 1) q quiet (each i q h is)

or_right : (a b : Bool) → b ≡ true → (a || b) ≡ true
or_right true b e = refl
or_right false b e = e

-- Groups under a deed that seals none.
abbrev pub IsNoSeal : Deed → Type 0
IsNoSeal (Seal k) = ⊥
IsNoSeal _ = Unit {0}

no_seal : (k : ℕ) (d : Deed) → IsNoSeal d → seals k d ≡ false
no_seal k (Accept packed) h = refl
no_seal k (Claim b) h = refl
no_seal k (Unclaim b) h = refl
no_seal k (Index b) h = refl
no_seal k (Seal g) h = absurd h
no_seal k (Register p mode expr) h = refl
no_seal k (Take p past_to live_to) h = refl
no_seal k (Leave p) h = refl

pub more_batches : (d : Deed) (n : ℕ) → n ≤ batches_after d n
more_batches (Accept packed) n = omega arith
more_batches (Claim b) n = omega arith
more_batches (Unclaim b) n = omega arith
more_batches (Index b) n = omega arith
more_batches (Seal k) n = omega arith
more_batches (Register q mode expr) n = omega arith
more_batches (Take q past_to live_to) n = omega arith
more_batches (Leave q) n = omega arith

front_batches : (d : Deed) (batches : List Spelled) (n : ℕ) → n ≤ length batches → take n (with_accepted d batches) ≡ take n batches
front_batches (Accept packed) batches n h = take-append-le n batches (packed ∷ []) h
front_batches (Claim b) batches n h = refl
front_batches (Unclaim b) batches n h = refl
front_batches (Index b) batches n h = refl
front_batches (Seal k) batches n h = refl
front_batches (Register q mode expr) batches n h = refl
front_batches (Take q past_to live_to) batches n h = refl
front_batches (Leave q) batches n h = refl

pub first_kept : (e : Entry) (before : List Entry) (b : ℕ) → b ≤ batch_count before → first_of b (e ∷ before) ≡ first_of b before
first_kept e before b h =
    ap (λ (xs : List Spelled). sum_by row_count xs) (front_batches e.deed (accepted before) b (omega (arith, batches_counted before)))

-- batches of a range that was there are what they were
range_kept : (d : Deed) (batches : List Spelled) (from size : ℕ) → from + size ≤ length batches
    → take size (drop from (map content (with_accepted d batches))) ≡ take size (drop from (map content batches))
range_kept (Accept packed) batches from size h =
    let long : from ≤ length (map content batches) = omega (arith, length-map batches content) in
    let wide : size ≤ length (drop from (map content batches)) = omega (arith, length-map batches content, length-drop from (map content batches)) in
    ap (λ (xs : List Content). take size (drop from xs)) (map-append content batches (packed ∷ []))
    ∙ ap (λ (xs : List Content). take size xs) (drop-append-le from (map content batches) (packed.content ∷ []) long)
    ∙ take-append-le size (drop from (map content batches)) (packed.content ∷ []) wide
range_kept (Claim b) batches from size h = refl
range_kept (Unclaim b) batches from size h = refl
range_kept (Index b) batches from size h = refl
range_kept (Seal k) batches from size h = refl
range_kept (Register q mode expr) batches from size h = refl
range_kept (Take q past_to live_to) batches from size h = refl
range_kept (Leave q) batches from size h = refl

piece_kept : (size k : ℕ) (e : Entry) (before : List Entry) → k * size + size ≤ batch_count before → group_piece size k (e ∷ before) ≡ group_piece size k before
piece_kept size k e before h =
    ap (λ (n : ℕ). record { batch = k * size; first = n; contents = take size (drop (k * size) (map content (accepted (e ∷ before)))) })
    (first_kept e before (k * size) (omega arith))
    ∙ ap (λ (xs : List Content). record { batch = k * size; first = first_of (k * size) before; contents = xs })
    (range_kept e.deed (accepted before) (k * size) size (omega (arith, batches_counted before)))

stands_kept : (o : Option Piece) (p q : Piece) → (is_some o ≡ true → p ≡ q) → Stands o q → Stands o p
stands_kept None p q h s = tt
stands_kept (Some x) p q h s = s ∙ sym (h refl)

group_kept : (size : ℕ) (e : Entry) (before : List Entry) (seals : List KeptSeal) (k : ℕ) → IsNoSeal e.deed → IsGroup size before seals k → IsGroup size (e ∷ before) seals k
group_kept size e before all k quiet is =
    let same : is_sealed k (e ∷ before) ≡ is_sealed k before = ap (λ (b : Bool). b || is_sealed k before) (no_seal k e.deed quiet) in
    let more : batch_count before ≤ batch_count (e ∷ before) = more_batches e.deed (batch_count before) in (
      is.0 ∙ sym same,
      stands_kept (seal_at all k) (group_piece size k (e ∷ before)) (group_piece size k before) (λ some. piece_kept size k e before (is.2 (sym is.0 ∙ some))) is.1,
      λ sealed. (let there : k * size + size ≤ batch_count before = is.2 (sym same ∙ sealed) in omega arith),
    )

pub below_more : (before : List Entry) (e : Entry) (unsealed : ℕ) → AllSealedBelow before unsealed → AllSealedBelow (e ∷ before) unsealed
below_more before e unsealed below k h = or_right (seals k e.deed) (is_sealed k before) (below k h)

pub groups_carried : (limits : Limits) (old new : List Entry) (e : Entry) (seals : List KeptSeal) (unsealed : ℕ) → new ≡ old ++ e ∷ [] → IsNoSeal e.deed
    → KeepsGroups limits (past old) seals unsealed → KeepsGroups limits (past new) seals unsealed
groups_carried limits old new e all unsealed is quiet k =
    subst (λ (h : List Entry). KeepsGroups limits (past h) all unsealed) (sym is)
    (subst (λ (b : List Entry). KeepsGroups limits b all unsealed) (sym (past_more old e))
    (record { size = k.size; few = k.few; each = λ g. group_kept limits.group e (past old) all g quiet (k.each g); below = below_more (past old) e unsealed k.below }))
