-- The law of snapshots: the answers of the batches that reach into a range, joined, are the answer over the range.
use Rattle.std.proofs.Common.{◌≡◌, ℕ, zero, suc, ◌+◌, ◌-◌, ◌<◌, ◌≤◌, Bool, true, false, ◌&&◌, List, [], ◌∷◌, ◌++◌, Option, Some, length, map, filter, flat_map, take, drop, slice_get, sum_by, refl, ap, sym, ◌∙◌, arith, max, min, nat_lt, nat_le, cond, add-one, inl, inr}
use Rattle.std.proofs.lemmas.List.{append-nil, length-append, length-drop, length-map, length-take, map-append, take-append-drop, take_all, drop_all}
use Rattle.std.proofs.lemmas.List.Elements.{filter-append}
use Rattle.std.proofs.lemmas.List.Sums.{sum_by-append}
use Rattle.std.proofs.lemmas.Grind.{flat_map-append}
use Rattle.std.proofs.lemmas.Bool.Decides.{leb_tells, nat_tests}
use Rattle.event_batch.specs.Contents.{Content, Spelled}
use Rattle.event_history.specs.declared.entry.Entry.{Entry}
use Rattle.event_history.specs.declared.entry.Deed.{Deed}
use Rattle.event_history.specs.declared.entry.Deed.TheVariants.{Accept, Claim, Unclaim, Index, Seal, Register, Take, Leave}
use Rattle.event_history.specs.Choices.{reaches}
use Rattle.event_history.specs.Events.{Event, events_in, events_of, is_within, matches, numbered, ranged}
use Rattle.event_history.specs.Histories.{accepted, batch_count, batches_after, content, events, first_of, row_count, with_accepted}
use Rattle.event_history.specs.Laws.{BatchesAnswer}
use Rattle.event_history.specs.Pieces.{batch_answer, held_at, held_in, held_upto}
use Rattle.event_history.proofs.AnswerLemmas.{le_false, le_true, lt_false, lt_true, numbered_append}
use Rattle.event_history.proofs.TellingLemmas.{events_counted}

keeps_plain : (p : ℕ × Event → Bool) (n : ℕ) (xs : List Event) → ((id : ℕ) (x : Event) → n ≤ id → id < n + length xs → p (id, x) ≡ true)
    → filter p (numbered n xs) ≡ numbered n xs
keeps_plain p n [] all = refl
keeps_plain p n (x ∷ xs) all =
    ap (λ (b : Bool). cond b ((n, x) ∷ filter p (numbered (n + 1) xs)) (filter p (numbered (n + 1) xs))) (all n x (omega arith) (omega arith))
    ∙ ap (λ (ys : List (ℕ × Event)). (n, x) ∷ ys) (keeps_plain p (n + 1) xs (λ id y low high. all id y (omega arith) (omega arith)))

drops_plain : (p : ℕ × Event → Bool) (n : ℕ) (xs : List Event) → ((id : ℕ) (x : Event) → n ≤ id → id < n + length xs → p (id, x) ≡ false)
    → filter p (numbered n xs) ≡ []
drops_plain p n [] none = refl
drops_plain p n (x ∷ xs) none =
    ap (λ (b : Bool). cond b ((n, x) ∷ filter p (numbered (n + 1) xs)) (filter p (numbered (n + 1) xs))) (none n x (omega arith) (omega arith))
    ∙ drops_plain p (n + 1) xs (λ id y low high. none id y (omega arith) (omega arith))

inside : (from to id : ℕ) (x : Event) → from ≤ id → id < to → is_within from to (id, x) ≡ true
inside from to id x h k = ap (λ (b : Bool). b && nat_lt id to) (le_true from id h) ∙ lt_true id to k

before_it : (from to id : ℕ) (x : Event) → id < from → is_within from to (id, x) ≡ false
before_it from to id x h = ap (λ (b : Bool). b && nat_lt id to) (le_false from id h)

and_false : (b : Bool) → (b && false) ≡ false
and_false true = refl
and_false false = refl

behind_it : (from to id : ℕ) (x : Event) → to ≤ id → is_within from to (id, x) ≡ false
behind_it from to id x h = ap (λ (b : Bool). nat_le from id && b) (lt_false id to h) ∙ and_false (nat_le from id)

out_of : (from to id : ℕ) (x : Event) → to < from → is_within from to (id, x) ≡ false
out_of from to id x h =
    elim (leb_tells from id) as (λ _. is_within from to (id, x) ≡ false)
    [ inl k ↦ behind_it from to id x (omega (arith, k.1)) | inr k ↦ before_it from to id x k.1 ]

out_within : (from to id : ℕ) (x : Event) → (from ≤ id → id < to → ⊥) → is_within from to (id, x) ≡ false
out_within from to id x out =
    elim (leb_tells from id) as (λ _. is_within from to (id, x) ≡ false) [
      | inl h ↦ elim (leb_tells to id) as (λ _. is_within from to (id, x) ≡ false) [ inl k ↦ behind_it from to id x k.1 | inr k ↦ absurd (out h.1 k.1) ]
      | inr h ↦ before_it from to id x h.1
    ]

pub not_lt : (a b : ℕ) → nat_lt a b ≡ false → b ≤ a
not_lt a b h = grind (arith, nat_tests)

-- The numbered events of a range are those of all whose ids lie in it.
upto_range : (from to : ℕ) (xs : List Event) → from ≤ to → to ≤ length xs
    → filter (is_within from to) (numbered 0 (take to xs)) ≡ ranged from to xs
upto_range from to xs h k =
    let low = take from (take to xs) in
    let here = drop from (take to xs) in
    let low_length : length low ≡ from = omega (arith, length-take from (take to xs), length-take to xs) in
    let begins : 0 + length low ≡ from = omega (arith, low_length) in
    let here_length : length here ≡ to - from = omega (arith, length-drop from (take to xs), length-take to xs) in
    ap (λ (zs : List Event). filter (is_within from to) (numbered 0 zs)) (sym (take-append-drop from (take to xs)))
    ∙ ap (λ (zs : List (ℕ × Event)). filter (is_within from to) zs) (numbered_append 0 low here)
    ∙ filter-append (is_within from to) (numbered 0 low) (numbered (0 + length low) here)
    ∙ ap (λ (zs : List (ℕ × Event)). zs ++ filter (is_within from to) (numbered (0 + length low) here))
    (drops_plain (is_within from to) 0 low (λ id x a b. before_it from to id x (omega (arith, low_length))))
    ∙ keeps_plain (is_within from to) (0 + length low) here
    (λ id x a b. inside from to id x (omega (arith, low_length)) (omega (arith, low_length, here_length)))
    ∙ ap (λ (n : ℕ). numbered n here) begins

range_is : (from to : ℕ) (xs : List Event) → from ≤ to → to ≤ length xs → filter (is_within from to) (numbered 0 xs) ≡ ranged from to xs
range_is from to xs h k =
    let long : length (take to xs) ≡ to = omega (arith, length-take to xs) in
    ap (λ (zs : List Event). filter (is_within from to) (numbered 0 zs)) (sym (take-append-drop to xs))
    ∙ ap (λ (zs : List (ℕ × Event)). filter (is_within from to) zs) (numbered_append 0 (take to xs) (drop to xs))
    ∙ filter-append (is_within from to) (numbered 0 (take to xs)) (numbered (0 + length (take to xs)) (drop to xs))
    ∙ ap (λ (zs : List (ℕ × Event)). filter (is_within from to) (numbered 0 (take to xs)) ++ zs)
    (drops_plain (is_within from to) (0 + length (take to xs)) (drop to xs) (λ id x a b. behind_it from to id x (omega (arith, long))))
    ∙ append-nil (filter (is_within from to) (numbered 0 (take to xs)))
    ∙ upto_range from to xs h k

no_range : (from to : ℕ) (xs : List Event) → to < from → filter (is_within from to) (numbered 0 xs) ≡ ranged from to xs
no_range from to xs h =
    let short : length (take to xs) ≤ from = omega (arith, length-take to xs) in
    drops_plain (is_within from to) 0 xs (λ id x a b. out_of from to id x h)
    ∙ sym (ap (λ (zs : List Event). numbered from zs) (drop_all from (take to xs) short))

each_range : (from to : ℕ) (xs : List Event) → to ≤ length xs → filter (is_within from to) (numbered 0 xs) ≡ ranged from to xs
each_range from to xs k =
    elim (leb_tells from to) as (λ _. filter (is_within from to) (numbered 0 xs) ≡ ranged from to xs)
    [ inl h ↦ range_is from to xs h.1 k | inr h ↦ no_range from to xs h.1 ]

-- Batches.
next_batch : (batches : List Spelled) (b : ℕ) → b < length batches
    → (packed : Spelled) × (slice_get batches b ≡ Some packed) × (take (suc b) batches ≡ take b batches ++ packed ∷ [])
next_batch [] b h = absurd (omega arith)
next_batch (packed ∷ batches) zero h = (packed, refl, refl)
next_batch (packed ∷ batches) (suc b) h =
    let rest = next_batch batches b (omega arith) in
    (rest.0, rest.1, ap (λ (xs : List Spelled). packed ∷ xs) rest.2)

pub rows_before : (batches : List Spelled) → length (events_in (map content batches)) ≡ sum_by row_count batches
rows_before [] = refl
rows_before (packed ∷ batches) =
    let sum : length packed.content.rows + length (events_in (map content batches)) ≡ sum_by row_count (packed ∷ batches) =
    omega (arith, rows_before batches, sum_by-append row_count (packed ∷ []) batches) in
    length-append (events_of packed.content) (events_in (map content batches))
    ∙ ap (λ (n : ℕ). n + length (events_in (map content batches))) (length-map packed.content.rows _)
    ∙ sum

deed_batches : (d : Deed) (batches : List Spelled) (n : ℕ) → length batches ≡ n → length (with_accepted d batches) ≡ batches_after d n
deed_batches (Accept packed) batches n e = length-append batches (packed ∷ []) ∙ ap (λ (m : ℕ). m + 1) e
deed_batches (Claim b) batches n e = e
deed_batches (Unclaim b) batches n e = e
deed_batches (Index b) batches n e = e
deed_batches (Seal k) batches n e = e
deed_batches (Register q mode expr) batches n e = e
deed_batches (Take q past_to live_to) batches n e = e
deed_batches (Leave q) batches n e = e

pub batches_counted : (before : List Entry) → length (accepted before) ≡ batch_count before
batches_counted [] = refl
batches_counted (e ∷ before) = deed_batches e.deed (accepted before) (batch_count before) (batches_counted before)

within_batches : (Event → Bool) → ℕ → ℕ → List Spelled → List (ℕ × Event)
within_batches test low high batches = filter (λ (x : ℕ × Event). test x.1) (filter (is_within low high) (numbered 0 (events_in (map content batches))))

module _ (test : Event → Bool) (low high : ℕ) (before : List Entry) where
  one_more : (b : ℕ) (packed : Spelled) → slice_get (accepted before) b ≡ Some packed → take (suc b) (accepted before) ≡ take b (accepted before) ++ packed ∷ []
      → first_of (b + 1) before ≡ first_of b before + length packed.content.rows
  one_more b packed is more =
      ap (λ (n : ℕ). sum_by row_count (take n (accepted before))) (add-one b)
      ∙ ap (λ (xs : List Spelled). sum_by row_count xs) more
      ∙ sum_by-append row_count (take b (accepted before)) (packed ∷ [])
      ∙ omega arith

  -- what the batch adds
  batch_adds : (b : ℕ) (packed : Spelled)
      → within_batches test low high (take b (accepted before) ++ packed ∷ [])
      ≡ within_batches test low high (take b (accepted before))
      ++ batch_answer test low high (record { no = b; first = first_of b before; packed = packed })
  unfolding within_batches
  batch_adds b packed =
      let front = take b (accepted before) in
      let counted : length (events_in (map content front)) ≡ first_of b before = rows_before front in
      let place : 0 + length (events_in (map content front)) ≡ first_of b before = omega (arith, counted) in
      ap (λ (xs : List Content). filter (λ (x : ℕ × Event). test x.1) (filter (is_within low high) (numbered 0 (events_in xs)))) (map-append content front (packed ∷ []))
      ∙ ap (λ (xs : List Event). filter (λ (x : ℕ × Event). test x.1) (filter (is_within low high) (numbered 0 xs)))
      (flat_map-append events_of (map content front) (packed.content ∷ []) ∙ ap (λ (xs : List Event). events_in (map content front) ++ xs) (append-nil (events_of packed.content)))
      ∙ ap (λ (xs : List (ℕ × Event)). filter (λ (x : ℕ × Event). test x.1) (filter (is_within low high) xs))
      (numbered_append 0 (events_in (map content front)) (events_of packed.content)
      ∙ ap (λ (n : ℕ). numbered 0 (events_in (map content front)) ++ numbered n (events_of packed.content)) place)
      ∙ ap (λ (xs : List (ℕ × Event)). filter (λ (x : ℕ × Event). test x.1) xs)
      (filter-append (is_within low high) (numbered 0 (events_in (map content front))) (numbered (first_of b before) (events_of packed.content)))
      ∙ filter-append (λ (x : ℕ × Event). test x.1) (filter (is_within low high) (numbered 0 (events_in (map content front))))
      (filter (is_within low high) (numbered (first_of b before) (events_of packed.content)))

  -- a batch without an event in the range adds nothing
  nothing_of : (b : ℕ) (packed : Spelled) → reaches low high before b ≡ false → first_of (b + 1) before ≡ first_of b before + length packed.content.rows
      → batch_answer test low high (record { no = b; first = first_of b before; packed = packed }) ≡ []
  nothing_of b packed out e =
      let far : min high (first_of (b + 1) before) ≤ max low (first_of b before) = not_lt (max low (first_of b before)) (min high (first_of (b + 1) before)) out in
      let long : length (events_of packed.content) ≡ length packed.content.rows = length-map packed.content.rows _ in
      ap (λ (xs : List (ℕ × Event)). filter (λ (x : ℕ × Event). test x.1) xs)
      (drops_plain (is_within low high) (first_of b before) (events_of packed.content)
      (λ id x from to. out_within low high id x (λ h k. omega (arith, far, long, e))))

  held_adds : (b : ℕ) (packed : Spelled) (reach : Bool) → reaches low high before b ≡ reach → slice_get (accepted before) b ≡ Some packed
      → first_of (b + 1) before ≡ first_of b before + length packed.content.rows
      → flat_map (batch_answer test low high) (held_at reach before b)
      ≡ batch_answer test low high (record { no = b; first = first_of b before; packed = packed })
  held_adds b packed true r is e =
      ap (λ (o : Option Spelled). flat_map (batch_answer test low high) (held_in before b o)) is
      ∙ append-nil (batch_answer test low high (record { no = b; first = first_of b before; packed = packed }))
  held_adds b packed false r is e = sym (nothing_of b packed r e)

  held_are : (b : ℕ) → b ≤ length (accepted before)
      → flat_map (batch_answer test low high) (held_upto low high before b) ≡ within_batches test low high (take b (accepted before))
  unfolding within_batches
  held_are zero h = refl
  held_are (suc b) h =
      let next = next_batch (accepted before) b (omega arith) in
      let packed : Spelled = next.0 in
      let e : first_of (b + 1) before ≡ first_of b before + length packed.content.rows = one_more b packed next.1 next.2 in
      flat_map-append (batch_answer test low high) (held_upto low high before b) (held_at (reaches low high before b) before b)
      ∙ ap (λ (xs : List (ℕ × Event)). xs ++ flat_map (batch_answer test low high) (held_at (reaches low high before b) before b)) (held_are b (omega arith))
      ∙ ap (λ (xs : List (ℕ × Event)). within_batches test low high (take b (accepted before)) ++ xs)
      (held_adds b packed (reaches low high before b) refl next.1 e)
      ∙ sym (batch_adds b packed)
      ∙ ap (λ (xs : List Spelled). within_batches test low high xs) (sym next.2)

pub batches_answer : (before : List Entry) → BatchesAnswer before
unfolding within_batches
batches_answer before expr from to h =
    let count : length (accepted before) ≡ batch_count before = batches_counted before in
    held_are (matches expr) from to before (batch_count before) (omega arith)
    ∙ ap (λ (xs : List Spelled). within_batches (matches expr) from to xs) (take_all (batch_count before) (accepted before) (omega arith))
    ∙ ap (λ (xs : List (ℕ × Event)). filter (λ (x : ℕ × Event). matches expr x.1) xs) (each_range from to (events before) (omega (arith, events_counted before)))
