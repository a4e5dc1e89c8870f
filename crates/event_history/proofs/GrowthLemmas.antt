-- What a longer history keeps.
use Rattle.std.proofs.Common.{◌≡◌, ◌≢◌, ℕ, zero, suc, ◌+◌, ◌*◌, ◌≤◌, Bool, true, false, ◌&&◌, ◌||◌, List, [], ◌∷◌, ◌++◌, Option, Some, length, map, take, sum_by, refl, ap, ◌∙◌, arith, ◌==◌, if◌then◌else◌}
use Rattle.std.proofs.lemmas.List.{take-append-le, take_all}
use Rattle.event_batch.specs.Contents.{Spelled}
use Rattle.event_history.specs.declared.entry.Deed.{Deed}
use Rattle.event_history.specs.declared.entry.Deed.TheVariants.{Accept, Claim, Unclaim, Index, Seal, Register, Take, Leave}
use Rattle.event_history.specs.declared.entry.Entry.{Entry}
use Rattle.event_history.specs.declared.entry.Limits.{Limits}
use Rattle.event_history.specs.Events.{Event, events_in}
use Rattle.event_history.specs.Histories.{accepted, all_below, batch_count, batches_after, content, event_count, events, events_after, indexes, is_indexed, is_sealed, row_count, seals, with_accepted}
use Rattle.event_history.specs.Laws.{Grows, Keeps}
use Rattle.event_history.specs.Legal.{Allowed, Legal}
use Rattle.event_history.specs.Queries.{Registration, has_left, leaves, query_count, registration, registration_after}
use Rattle.event_history.proofs.TellingLemmas.{events_counted, events_more, registered_within, same_if}
use Rattle.event_history.proofs.SnapshotLemmas.{batches_counted}

or_right : (a b : Bool) → b ≡ true → (a || b) ≡ true
or_right true b e = refl
or_right false b e = e

both : (a b c d : Bool) → (a ≡ true → c ≡ true) → (b ≡ true → d ≡ true) → (a && b) ≡ true → (c && d) ≡ true
both true true c d h k e = ap (λ (x : Bool). x && d) (h refl) ∙ k refl
both true false c d h k e = absurd cc
both false b c d h k e = absurd cc

all_more : (p q : ℕ → Bool) (n : ℕ) → ((i : ℕ) → p i ≡ true → q i ≡ true) → all_below p n ≡ true → all_below q n ≡ true
all_more p q zero h e = refl
all_more p q (suc n) h e = both (all_below p n) (p n) (all_below q n) (q n) (all_more p q n h) (h n) e

more_batches : (d : Deed) (batches : List Spelled) (b : ℕ) → b ≤ length batches → take b (with_accepted d batches) ≡ take b batches
more_batches (Accept packed) batches b h = take-append-le b batches (packed ∷ []) h
more_batches (Claim c) batches b h = refl
more_batches (Unclaim c) batches b h = refl
more_batches (Index c) batches b h = refl
more_batches (Seal k) batches b h = refl
more_batches (Register q mode expr) batches b h = refl
more_batches (Take q past_to live_to) batches b h = refl
more_batches (Leave q) batches b h = refl

more_count : (d : Deed) (n : ℕ) → n ≤ batches_after d n
more_count (Accept packed) n = omega arith
more_count (Claim c) n = omega arith
more_count (Unclaim c) n = omega arith
more_count (Index c) n = omega arith
more_count (Seal k) n = omega arith
more_count (Register q mode expr) n = omega arith
more_count (Take q past_to live_to) n = omega arith
more_count (Leave q) n = omega arith

more_rows : (d : Deed) (n : ℕ) → n ≤ events_after d n
more_rows (Accept packed) n = omega arith
more_rows (Claim c) n = omega arith
more_rows (Unclaim c) n = omega arith
more_rows (Index c) n = omega arith
more_rows (Seal k) n = omega arith
more_rows (Register q mode expr) n = omega arith
more_rows (Take q past_to live_to) n = omega arith
more_rows (Leave q) n = omega arith

more_events : (d : Deed) (batches : List Spelled) (n : ℕ) → n ≤ length (events_in (map content batches))
    → take n (events_in (map content (with_accepted d batches))) ≡ take n (events_in (map content batches))
more_events (Accept packed) batches n h =
    ap (λ (xs : List Event). take n xs) (events_more batches packed) ∙ take-append-le n (events_in (map content batches)) _ h
more_events (Claim c) batches n h = refl
more_events (Unclaim c) batches n h = refl
more_events (Index c) batches n h = refl
more_events (Seal k) batches n h = refl
more_events (Register q mode expr) batches n h = refl
more_events (Take q past_to live_to) batches n h = refl
more_events (Leave q) batches n h = refl

other_query : (b : Bool) (q r : ℕ) (new : Registration) (old : Option Registration) (g : Registration) → (b ≡ true → r ≡ q) → r ≢ q → old ≡ Some g
    → (if b then Some new else old) ≡ Some g
other_query true q r new old g is other e = absurd (other (is refl))
other_query false q r new old g is other e = e

still_registered : (limits : Limits) (before : List Entry) (d : Deed) (q : ℕ) (g : Registration) → Legal limits before → Allowed limits before d
    → registration q before ≡ Some g → registration_after q d (event_count before) (registration q before) ≡ Some g
still_registered limits before (Accept packed) q g legal a e = e
still_registered limits before (Claim c) q g legal a e = e
still_registered limits before (Unclaim c) q g legal a e = e
still_registered limits before (Index c) q g legal a e = e
still_registered limits before (Seal k) q g legal a e = e
still_registered limits before (Register r mode expr) q g legal a e =
    let known : q ≤ query_count before = registered_within limits before q g legal e in
    other_query (r == q) q r (record { mode = mode; expr = expr; from = event_count before }) (registration q before) g (same_if r q)
    (λ same. omega (arith, a.0)) e
still_registered limits before (Take r past_to live_to) q g legal a e = e
still_registered limits before (Leave r) q g legal a e = e

itself : (size : ℕ) (before : List Entry) → Keeps size before before
itself size before = record {
  batches = take_all (batch_count before) (accepted before) (omega (arith, batches_counted before));
  count = omega arith;
  events = take_all (event_count before) (events before) (omega (arith, events_counted before));
  rows = omega arith;
  first = λ b h. refl;
  registered = λ q g e. e;
  indexed = λ b e. e;
  sealed = λ k e. e;
  full = λ k e. e;
  left = λ q e. e;
}

one_more : (limits : Limits) (e : Entry) (later before : List Entry) → Legal limits (e ∷ later) → Keeps limits.group later before → Keeps limits.group (e ∷ later) before
one_more limits e later before legal k =
    let count : length (accepted later) ≡ batch_count later = batches_counted later in
    let rows : length (events later) ≡ event_count later = events_counted later in
    record {
      batches = more_batches e.deed (accepted later) (batch_count before) (omega (arith, k.count)) ∙ k.batches;
      count = omega (arith, k.count, more_count e.deed (batch_count later));
      events = more_events e.deed (accepted later) (event_count before) (omega (arith, k.rows)) ∙ k.events;
      rows = omega (arith, k.rows, more_rows e.deed (event_count later));
      first = λ b h. ap (λ (xs : List Spelled). sum_by row_count xs) (more_batches e.deed (accepted later) b (omega (arith, k.count))) ∙ k.first b h;
      registered = λ q g is. still_registered limits later e.deed q g legal.0 legal.1 (k.registered q g is);
      indexed = λ b is. or_right (indexes b e.deed) (is_indexed b later) (k.indexed b is);
      sealed = λ g is. or_right (seals g e.deed) (is_sealed g later) (k.sealed g is);
      full = λ g is.
          all_more (λ i. is_indexed (g * limits.group + i) later) (λ i. is_indexed (g * limits.group + i) (e ∷ later)) limits.group
          (λ i now. or_right (indexes (g * limits.group + i) e.deed) (is_indexed (g * limits.group + i) later) now) (k.full g is);
      left = λ q is. or_right (leaves q e.deed) (has_left q later) (k.left q is);
    }

pub grows : (limits : Limits) (more before : List Entry) → Grows limits more before
grows limits [] before legal = itself limits.group before
grows limits (e ∷ more) before legal = one_more limits e (more ++ before) before legal (grows limits more before legal.0)
