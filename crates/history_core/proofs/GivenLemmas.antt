-- What was handed out stays good in a longer history.
use Rattle.std.proofs.Common.{◌≡◌, ◌⊎◌, inl, inr, ℕ, zero, suc, ◌+◌, ◌*◌, ◌<◌, ◌≤◌, true, List, [], ◌∷◌, ◌++◌, Option, Some, length, map, take, slice_get, refl, ap, sym, ◌∙◌, subst, arith}
use Rattle.std.specs.Option.{option_to_list}
use Rattle.std.proofs.lemmas.List.{reverse-append, take-map}
use Rattle.event_batch.specs.Contents.{Content, Spelled}
use Rattle.event_history.specs.declared.entry.Deed.{Deed}
use Rattle.event_history.specs.declared.entry.Deed.TheVariants.{Accept, Claim, Unclaim, Index, Seal, Register, Take, Leave}
use Rattle.event_history.specs.declared.entry.Entry.{Entry}
use Rattle.event_history.specs.declared.entry.Limits.{Limits}
use Rattle.event_history.specs.Histories.{accepted, batch_count, content, first_of, is_full, past}
use Rattle.event_history.specs.Laws as law
use Rattle.event_history.specs.Legal.{Legal}
use Rattle.event_history.specs.Pieces.{Piece, piece_in}
use Rattle.event_history.specs.Queries.{queries_after, query_count}
use Rattle.event_history.specs.Steps.{group_pieces}
use Rattle.event_history.proofs.GrowthLemmas.{grows}
use Rattle.event_history.proofs.SnapshotLemmas.{batches_counted}
use Rattle.history_core.specs.declared.answers.Claim.{Claim as Claimed}
use Rattle.history_core.specs.declared.answers.Group.{Group}
use Rattle.history_core.specs.Given.{GivenStays, StaysGiven}
use Rattle.history_core.specs.Shown.{Shown}
use Rattle.history_core.proofs.GroupLemmas.{full_within}

legal_before : (limits : Limits) (more before : List Entry) → Legal limits (more ++ before) → Legal limits before
legal_before limits [] before legal = legal
legal_before limits (e ∷ more) before legal = legal_before limits more before legal.0

-- reads of the front of a list
got_front : {X : Type 0} (n : ℕ) (xs : List X) (i : ℕ) (x : X) → slice_get (take n xs) i ≡ Some x → slice_get xs i ≡ Some x
got_front zero xs i x e = absurd cc
got_front (suc n) [] i x e = e
got_front (suc n) (y ∷ ys) zero x e = e
got_front (suc n) (y ∷ ys) (suc i) x e = got_front n ys i x e

front_same : {X : Type 0} (n : ℕ) (xs : List X) (i : ℕ) → i < n → slice_get (take n xs) i ≡ slice_get xs i
front_same zero xs i h = absurd (omega (arith, h))
front_same (suc n) [] i h = refl
front_same (suc n) (y ∷ ys) zero h = refl
front_same (suc n) (y ∷ ys) (suc i) h = front_same n ys i (omega (arith, h))

got_within : {X : Type 0} (xs : List X) (i : ℕ) (x : X) → slice_get xs i ≡ Some x → i < length xs
got_within [] i x e = absurd cc
got_within (y ∷ ys) zero x e = omega arith
got_within (y ∷ ys) (suc i) x e = let low = got_within ys i x e in omega (arith, low)

piece_same : (size : ℕ) (later before : List Entry) (b : ℕ) → law.Keeps size later before → b < batch_count before → piece_in later b ≡ piece_in before b
piece_same size later before b k h =
    let same : slice_get (map content (accepted later)) b ≡ slice_get (map content (accepted before)) b =
    sym (front_same (batch_count before) (map content (accepted later)) b h)
    ∙ ap (λ (xs : List Content). slice_get xs b)
    (take-map content (batch_count before) (accepted later) ∙ ap (λ (xs : List Spelled). map content xs) k.batches) in
    ap (λ (n : ℕ). record { batch = b; first = n; contents = option_to_list (slice_get (map content (accepted later)) b) }) (k.first b (omega (arith, h)))
    ∙ ap (λ (o : Option Content). record { batch = b; first = first_of b before; contents = option_to_list o }) same

pieces_same : (size : ℕ) (later before : List Entry) (b n : ℕ) → law.Keeps size later before → b + n ≤ batch_count before
    → group_pieces later b n ≡ group_pieces before b n
pieces_same size later before b zero k h = refl
pieces_same size later before b (suc n) k h =
    ap (λ (ps : List Piece). ps ++ piece_in later (b + n) ∷ []) (pieces_same size later before b n k (omega (arith, h)))
    ∙ ap (λ (p : Piece). group_pieces before b n ++ p ∷ []) (piece_same size later before (b + n) k (omega (arith, h)))

size_is : (n : ℕ) → (n ≡ 0) ⊎ (0 < n)
size_is zero = inl refl
size_is (suc n) = inr (omega arith)

group_same : (limits : Limits) (later before : List Entry) (number : ℕ) → law.Keeps limits.group later before → Legal limits before
    → is_full limits.group number before ≡ true
    → group_pieces later (number * limits.group) limits.group ≡ group_pieces before (number * limits.group) limits.group
group_same limits later before number k legal full =
    elim (size_is limits.group) as (λ _. group_pieces later (number * limits.group) limits.group ≡ group_pieces before (number * limits.group) limits.group) [
      | inl e ↦ ap (λ (n : ℕ). group_pieces later (number * limits.group) n) e ∙ sym (ap (λ (n : ℕ). group_pieces before (number * limits.group) n) e)
      | inr some ↦ pieces_same limits.group later before (number * limits.group) limits.group k (full_within limits before number legal some full)
    ]

more_queries : (d : Deed) (n : ℕ) → n ≤ queries_after d n
more_queries (Accept packed) n = omega arith
more_queries (Claim b) n = omega arith
more_queries (Unclaim b) n = omega arith
more_queries (Index b) n = omega arith
more_queries (Seal k) n = omega arith
more_queries (Register q mode expr) n = omega arith
more_queries (Take q past_to live_to) n = omega arith
more_queries (Leave q) n = omega arith

queries_stay : (more before : List Entry) → query_count before ≤ query_count (more ++ before)
queries_stay [] before = omega arith
queries_stay (e ∷ more) before = omega (arith, queries_stay more before, more_queries e.deed (query_count (more ++ before)))

stays : (store : Shown) (later : List Entry) → Legal store.limits (later ++ past store.history) → StaysGiven (later ++ past store.history) store
stays store later legal =
    let before = past store.history in
    let k = grows store.limits later before legal in
    record {
      claims = λ c is. (
        got_front (batch_count before) (accepted (later ++ before)) c.batch c.packed (ap (λ (xs : List Spelled). slice_get xs c.batch) k.batches ∙ is.0),
        is.1 ∙ sym (k.first c.batch (omega (arith, got_within (accepted before) c.batch c.packed is.0, batches_counted before))),
      );
      groups = λ g is. (
        k.full g.number is.0,
        is.1 ∙ sym (group_same store.limits (later ++ before) before g.number k (legal_before store.limits later before legal) is.0),
      );
      queries = λ q is. (is.0, omega (arith, is.1, queries_stay later before));
    }

pub given : (store : Shown) (more : List Entry) → GivenStays store more
given store more legal =
    let turned : past (store.history ++ more) ≡ past more ++ past store.history = reverse-append store.history more in
    subst (λ (h : List Entry). StaysGiven h store) (sym turned)
    (stays store (past more) (subst (λ (h : List Entry). Legal store.limits h) turned legal))
