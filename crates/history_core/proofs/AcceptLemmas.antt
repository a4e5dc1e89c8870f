-- What a store keeps when a batch is accepted.
use Rattle.std.proofs.Common.{◌≡◌, ℕ, ◌+◌, ◌<◌, ◌≤◌, false, List, [], ◌∷◌, ◌++◌, None, length, take, sum_by, refl, ap, sym, ◌∙◌, subst, arith, inl, inr}
use Rattle.std.proofs.lemmas.List.{length-append, take-append-le, take_all}
use Rattle.std.proofs.lemmas.List.Sums.{sum_by-append}
use Rattle.event_batch.specs.Contents.{Spelled}
use Rattle.event_history.specs.declared.entry.Deed.TheVariants.{Accept}
use Rattle.event_history.specs.declared.entry.Entry.{Entry}
use Rattle.event_history.specs.declared.entry.Limits.{Limits}
use Rattle.event_history.specs.Histories.{accepted, batch_count, event_count, row_count}
use Rattle.event_history.specs.Legal.{Legal}
use Rattle.event_history.proofs.SnapshotLemmas.{batches_counted, rows_before}
use Rattle.event_history.proofs.TellingLemmas.{events_counted}
use Rattle.history_core.proofs.LegalLemmas.{unnamed}
use Rattle.history_core.specs.declared.kept.Kept.{Kept}
use Rattle.history_core.specs.declared.kept.Query.{Query}
use Rattle.history_core.specs.Stores.{EachKept, IsKept, Keeps}
use Rattle.history_core.proofs.CarryLemmas.{quiet_queries}
use Rattle.partition.proofs.ListLemmas.{get_front, get_next, read_more}

take_count : (batches : List Spelled) (packed : Spelled) → take (length batches + 1) (batches ++ packed ∷ []) ≡ batches ++ packed ∷ []
take_count batches packed = take_all (length batches + 1) (batches ++ packed ∷ []) (omega (arith, length-append batches (packed ∷ [])))

-- the ids of the new batch
end_of_last : (batches : List Spelled) (packed : Spelled) (n : ℕ) → n ≡ length batches
    → sum_by row_count (take (n + 1) (batches ++ packed ∷ [])) ≡ sum_by row_count batches + length packed.content.rows
end_of_last batches packed n e =
    ap (λ (m : ℕ). sum_by row_count (take (m + 1) (batches ++ packed ∷ []))) e
    ∙ ap (λ (xs : List Spelled). sum_by row_count xs) (take_count batches packed)
    ∙ sum_by-append row_count batches (packed ∷ [])
    ∙ omega arith

first_of_last : (batches : List Spelled) (packed : Spelled) (n : ℕ) → n ≡ length batches → sum_by row_count (take n (batches ++ packed ∷ [])) ≡ sum_by row_count batches
first_of_last batches packed n e =
    ap (λ (xs : List Spelled). sum_by row_count xs) (take-append-le n batches (packed ∷ []) (omega arith) ∙ take_all n batches (omega arith))

old_kept : (before : List Entry) (seat : ℕ) (packed : Spelled) (b : ℕ) (k : Kept) → b < batch_count before → IsKept before b k
    → IsKept (record { seat = seat; deed = Accept packed } ∷ before) b k
old_kept before seat packed b k h is =
    let there : b < length (accepted before) = omega (arith, batches_counted before) in (
      get_front (accepted before) (packed ∷ []) b there ∙ is.0,
      is.1 ∙ sym (ap (λ (xs : List Spelled). sum_by row_count xs) (take-append-le b (accepted before) (packed ∷ []) (omega arith))),
      is.2 ∙ sym (ap (λ (xs : List Spelled). sum_by row_count xs) (take-append-le (b + 1) (accepted before) (packed ∷ []) (omega arith))),
      is.3,
      is.4,
      is.5,
    )

last_kept : (limits : Limits) (before : List Entry) (seat : ℕ) (packed : Spelled) (rows b : ℕ) → Legal limits before → rows ≡ event_count before → b ≡ batch_count before
    → IsKept (record { seat = seat; deed = Accept packed } ∷ before) b
    (record { packed = packed; first = rows; end = rows + length packed.content.rows; index = None; marked = false })
last_kept limits before seat packed rows b legal rows_are is =
    let place : b ≡ length (accepted before) = omega (arith, batches_counted before) in
    let total : sum_by row_count (accepted before) ≡ rows = sym (rows_before (accepted before)) ∙ events_counted before ∙ sym rows_are in
    let none = unnamed limits before b legal (omega (arith, is)) in (
      get_next (accepted before) [] packed b place,
      sym (first_of_last (accepted before) packed b place ∙ total),
      sym (end_of_last (accepted before) packed b place ∙ ap (λ (n : ℕ). n + length packed.content.rows) total),
      sym none.0,
      sym none.1,
      tt,
    )

accept_each : (limits : Limits) (before : List Entry) (seat : ℕ) (packed : Spelled) (rows : ℕ) (kept : List Kept) (new : Kept) → Legal limits before
    → rows ≡ event_count before → length kept ≡ batch_count before → EachKept before kept
    → new ≡ record { packed = packed; first = rows; end = rows + length packed.content.rows; index = None; marked = false }
    → EachKept (record { seat = seat; deed = Accept packed } ∷ before) (kept ++ new ∷ [])
accept_each limits before seat packed rows kept new legal rows_are count each is b k h at =
    elim (read_more kept new k b h at) as (λ _. IsKept (record { seat = seat; deed = Accept packed } ∷ before) b k) [
      | inl r ↦ old_kept before seat packed b k (omega (arith, r.0, count)) (each b k r.0 r.1)
      | inr r ↦ subst (λ (x : Kept). IsKept (record { seat = seat; deed = Accept packed } ∷ before) b x) (sym (r.1 ∙ is))
          (last_kept limits before seat packed rows b legal rows_are (r.0 ∙ count))
    ]

pub accept_keeps : (limits : Limits) (history before : List Entry) (seat : ℕ) (packed : Spelled) (rows : ℕ) (kept : List Kept) (low : ℕ) (queries : List Query)
    → Keeps limits history before rows kept low queries → rows + length packed.content.rows ≤ limits.rows
    → Keeps limits (history ++ record { seat = seat; deed = Accept packed } ∷ []) (record { seat = seat; deed = Accept packed } ∷ before)
    (rows + length packed.content.rows)
    (kept ++ record { packed = packed; first = rows; end = rows + length packed.content.rows; index = None; marked = false } ∷ []) low queries
accept_keeps limits history before seat packed rows kept low queries k room =
    let new : Kept = record { packed = packed; first = rows; end = rows + length packed.content.rows; index = None; marked = false } in
    record {
      legal = (k.legal, omega (arith, k.rows_are));
      rows_are = ap (λ (n : ℕ). n + length packed.content.rows) k.rows_are;
      fits = room;
      count = length-append kept (new ∷ []) ∙ ap (λ (n : ℕ). n + 1) k.count;
      each = accept_each limits before seat packed rows kept new k.legal k.rows_are k.count k.each refl;
      low_in = omega (arith, k.low_in, length-append kept (new ∷ []));
      busy = k.busy;
      queries_are = k.queries_are;
      each_query = quiet_queries history before (record { seat = seat; deed = Accept packed }) queries tt k.each_query;
    }

-- the same with what the code has: a share of the batch, and its number of rows
pub accept_stands : (limits : Limits) (history before : List Entry) (seat : ℕ) (packed shared : Spelled) (rows more : ℕ) (kept kept_then : List Kept) (low : ℕ) (queries : List Query)
    → Keeps limits history before rows kept low queries → shared ≡ packed → more ≡ length packed.content.rows → rows + more ≤ limits.rows
    → kept_then ≡ kept ++ record { packed = shared; first = rows; end = rows + more; index = None; marked = false } ∷ []
    → Keeps limits (history ++ record { seat = seat; deed = Accept packed } ∷ []) (record { seat = seat; deed = Accept packed } ∷ before) (rows + more) kept_then low queries
accept_stands limits history before seat packed shared rows more kept kept_then low queries k same count room is =
    let list : kept_then ≡ kept ++ record { packed = packed; first = rows; end = rows + length packed.content.rows; index = None; marked = false } ∷ [] =
    is
    ∙ ap (λ (s : Spelled). kept ++ record { packed = s; first = rows; end = rows + more; index = None; marked = false } ∷ []) same
    ∙ ap (λ (n : ℕ). kept ++ record { packed = packed; first = rows; end = rows + n; index = None; marked = false } ∷ []) count in
    let total : rows + more ≡ rows + length packed.content.rows = ap (λ (n : ℕ). rows + n) count in
    subst (λ (n : ℕ). Keeps limits (history ++ record { seat = seat; deed = Accept packed } ∷ []) (record { seat = seat; deed = Accept packed } ∷ before) n kept_then low queries)
    (sym total)
    (subst (λ (xs : List Kept). Keeps limits (history ++ record { seat = seat; deed = Accept packed } ∷ []) (record { seat = seat; deed = Accept packed } ∷ before)
    (rows + length packed.content.rows) xs low queries)
    (sym list) (accept_keeps limits history before seat packed rows kept low queries k (omega (arith, room, count))))
