-- Which batches and groups have events in a range.
use Rattle.std.proofs.Common.{◌≡◌, ℕ, zero, suc, ◌+◌, ◌*◌, ◌/◌, ◌<◌, ◌≤◌, Bool, true, false, not, ◌&&◌, if◌then◌else◌, List, [], ◌++◌, Option, None, Some, sum_by, max, min, refl, ap, sym, ◌∙◌, arith, inl, inr, add-one}
use Rattle.std.specs.Option.{option_or}
use Rattle.std.proofs.lemmas.Bool.Decides.{eqb_tells, leb_tells}
use Rattle.std.proofs.lemmas.List.{append_assoc, append-nil, take_all}
use Rattle.std.proofs.Math.Nat.{div-mul-le_self, lt-div-mul-add, mul-le-mul_right, mul-suc, suc-mul}
use Rattle.event_batch.specs.Contents.{Spelled}
use Rattle.event_history.specs.declared.entry.Entry.{Entry}
use Rattle.event_history.specs.Choices.{again_of, holds_up, least, reaches, some_if, stop_at}
use Rattle.event_history.specs.Histories.{accepted, batch_count, first_of, is_indexed, is_sealed, row_count}
use Rattle.event_history.specs.Pieces.{Held, Piece, group_parts, group_piece, group_reaches, held_at, held_upto, one_if, parts_of, parts_upto, piece_in, reached}
use Rattle.event_history.proofs.AnswerLemmas.{lt_false, lt_of, lt_true}
use Rattle.event_history.proofs.CoverLemmas.{first_up}
use Rattle.event_history.proofs.TellingLemmas.{least_passes}
use Rattle.event_history.proofs.SnapshotLemmas.{batches_counted}
use Rattle.history_core.specs.Snapshots.{spans}
use Rattle.history_core.proofs.LegalLemmas.{least_is, least_none}

and_no : (x : Bool) → (x && false) ≡ false
and_no true = refl
and_no false = refl

pub first_all : (before : List Entry) (b : ℕ) → batch_count before ≤ b → first_of b before ≡ sum_by row_count (accepted before)
first_all before b h = ap (λ (xs : List Spelled). sum_by row_count xs) (take_all b (accepted before) (omega (arith, h, batches_counted before)))

pub first_most : (before : List Entry) (b : ℕ) → first_of b before ≤ sum_by row_count (accepted before)
first_most before b =
    elim (leb_tells (batch_count before) b) as (λ _. first_of b before ≤ sum_by row_count (accepted before)) [
      | inl h ↦ omega (arith, first_all before b h.1)
      | inr h ↦ omega (arith, first_up before b (batch_count before) (omega (arith, h.1)), first_all before (batch_count before) (omega arith))
    ]

module _ (low high : ℕ) (before : List Entry) where
  pub none_before : (b c place : ℕ) → first_of place before ≤ low → c ≤ place → spans low high before b c ≡ false
  none_before b c place h k =
      lt_false (max low (first_of b before)) (min high (first_of c before)) (omega (arith, first_up before c place k, h))

  pub none_past : (b c : ℕ) → batch_count before ≤ b → spans low high before b c ≡ false
  none_past b c h =
      lt_false (max low (first_of b before)) (min high (first_of c before)) (omega (arith, first_all before b h, first_most before c))

  none_behind : (b c place : ℕ) → high < first_of (place + 1) before → place + 1 ≤ b → spans low high before b c ≡ false
  none_behind b c place h k =
      lt_false (max low (first_of b before)) (min high (first_of c before)) (omega (arith, first_up before (place + 1) b k, h))

  pub none_after : (b c place end : ℕ) → (place < batch_count before → high < first_of (place + 1) before) → end ≡ min (batch_count before) (place + 1) → end ≤ b
      → spans low high before b c ≡ false
  none_after b c place end h is k =
      elim (leb_tells (batch_count before) b) as (λ _. spans low high before b c ≡ false) [
        | inl e ↦ none_past b c e.1
        | inr e ↦ none_behind b c place (h (omega (arith, is, k, e.1))) (omega (arith, is, k, e.1))
      ]

  -- Batches.
  nothing_held : (b : ℕ) (there : Bool) → there ≡ false → held_at there before b ≡ []
  nothing_held b there e = ap (λ (x : Bool). held_at x before b) e

  pub none_held : (n : ℕ) → ((b : ℕ) → b < n → reaches low high before b ≡ false) → held_upto low high before n ≡ []
  none_held zero none = refl
  none_held (suc n) none =
      ap (λ (xs : List Held). xs ++ held_at (reaches low high before n) before n) (none_held n (λ b h. none b (omega (arith, h))))
      ∙ nothing_held n (reaches low high before n) (none n (omega arith))

  pub held_rest : (n m : ℕ) → n ≤ m → ((b : ℕ) → n ≤ b → reaches low high before b ≡ false) → held_upto low high before n ≡ held_upto low high before m
  held_rest n zero h none =
      let same : n ≡ zero = omega (arith, h) in
      ap (λ (i : ℕ). held_upto low high before i) same
  held_rest n (suc m) h none =
      elim (eqb_tells n (suc m)) as (λ _. held_upto low high before n ≡ held_upto low high before (suc m)) [
        | inl e ↦ ap (λ (i : ℕ). held_upto low high before i) e.1
        | inr e ↦
            (let less : n ≤ m = omega (arith, h, e.1) in
            held_rest n m less none
            ∙ sym (append-nil (held_upto low high before m))
            ∙ sym (ap (λ (xs : List Held). held_upto low high before m ++ xs) (nothing_held m (reaches low high before m) (none m less))))
      ]

  -- Where a take stops.
  pub free_of : (b : ℕ) → reaches low high before b ≡ false → holds_up low high before b ≡ false
  free_of b e = ap (λ (x : Bool). not (is_indexed b before) && x) e ∙ and_no (not (is_indexed b before))

  pub stops_nowhere : (at : ℕ) → ((b : ℕ) → b < at → holds_up low high before b ≡ false) → ((b : ℕ) → at ≤ b → reaches low high before b ≡ false)
      → again_of low high before ≡ None
  stops_nowhere at front rest =
      least_none (holds_up low high before) (batch_count before)
      (λ b h. elim (leb_tells at b) as (λ _. holds_up low high before b ≡ false) [ inl e ↦ free_of b (rest b e.1) | inr e ↦ front b e.1 ])

  pub stops_here : (at : ℕ) → holds_up low high before at ≡ true → ((b : ℕ) → b < at → holds_up low high before b ≡ false) → at < batch_count before
      → again_of low high before ≡ Some at
  stops_here at it front there = least_is (holds_up low high before) (batch_count before) at it front there

  -- Groups.
  none_reached : (b n : ℕ) → ((i : ℕ) → i < n → reaches low high before (b + i) ≡ false) → reached low high before b n ≡ []
  none_reached b zero none = refl
  none_reached b (suc n) none =
      ap (λ (xs : List Piece). xs ++ one_if (reaches low high before (b + n)) (piece_in before (b + n))) (none_reached b n (λ i h. none i (omega (arith, h))))
      ∙ ap (λ (x : Bool). one_if x (piece_in before (b + n))) (none n (omega arith))

  either : (sealed : Bool) (xs ys : List Piece) → xs ≡ [] → ys ≡ [] → (if sealed then xs else ys) ≡ []
  either true xs ys e f = e
  either false xs ys e f = f

  empty_group : (size k : ℕ) → spans low high before (k * size) (k * size + size) ≡ false → ((i : ℕ) → i < size → reaches low high before (k * size + i) ≡ false)
      → group_parts size low high before k ≡ []
  empty_group size k whole each =
      either (is_sealed k before) (one_if (group_reaches size low high before k) (group_piece size k before)) (reached low high before (k * size) size)
      (ap (λ (x : Bool). one_if x (group_piece size k before)) whole) (none_reached (k * size) size each)

  empty_before : (size k begin : ℕ) → ((b c : ℕ) → c ≤ begin → spans low high before b c ≡ false) → k < begin / size → group_parts size low high before k ≡ []
  empty_before size k begin none h =
      let more : suc k * size ≤ begin / size * size = mul-le-mul_right size h in
      let there : k * size + size ≤ begin = omega (arith, more, suc-mul k size, div-mul-le_self begin size) in
      empty_group size k (none (k * size) (k * size + size) there) (λ i j. none (k * size + i) (k * size + i + 1) (omega (arith, there, j)))

  empty_after : (size k end : ℕ) → ((b c : ℕ) → end ≤ b → spans low high before b c ≡ false) → end ≤ k * size → group_parts size low high before k ≡ []
  empty_after size k end none h =
      empty_group size k (none (k * size) (k * size + size) h) (λ i j. none (k * size + i) (k * size + i + 1) (omega (arith, h)))

  none_parted : (size n : ℕ) → ((k : ℕ) → k < n → group_parts size low high before k ≡ []) → parts_upto size low high before n ≡ []
  none_parted size zero none = refl
  none_parted size (suc n) none =
      ap (λ (xs : List Piece). xs ++ group_parts size low high before n) (none_parted size n (λ k h. none k (omega (arith, h)))) ∙ none n (omega arith)

  pub none_parted_before : (size begin : ℕ) → ((b c : ℕ) → c ≤ begin → spans low high before b c ≡ false) → parts_upto size low high before (begin / size) ≡ []
  none_parted_before size begin none = none_parted size (begin / size) (λ k h. empty_before size k begin none h)

  parts_rest : (size n m : ℕ) → n ≤ m → ((k : ℕ) → n ≤ k → group_parts size low high before k ≡ []) → parts_upto size low high before n ≡ parts_upto size low high before m
  parts_rest size n zero h none =
      let same : n ≡ zero = omega (arith, h) in
      ap (λ (i : ℕ). parts_upto size low high before i) same
  parts_rest size n (suc m) h none =
      elim (eqb_tells n (suc m)) as (λ _. parts_upto size low high before n ≡ parts_upto size low high before (suc m)) [
        | inl e ↦ ap (λ (i : ℕ). parts_upto size low high before i) e.1
        | inr e ↦
            (let less : n ≤ m = omega (arith, h, e.1) in
            parts_rest size n m less none
            ∙ sym (append-nil (parts_upto size low high before m))
            ∙ sym (ap (λ (xs : List Piece). parts_upto size low high before m ++ xs) (none m less)))
      ]

  past_end : (size number k end : ℕ) → 0 < size → end / size < number → number ≤ k → end ≤ k * size
  past_end size number k end some h j =
      let next : suc (end / size) * size ≤ k * size = mul-le-mul_right size (omega (arith, h, j)) in
      let less : end < end / size * size + size = lt-div-mul-add some in
      omega (arith, next, suc-mul (end / size) size, less)

  no_less : (size k : ℕ) → 0 < size → k ≤ k * size
  no_less zero k some = absurd (omega (arith, some))
  no_less (suc size) k some = omega (arith, mul-suc k size)

  pub all_parted : (size number end : ℕ) → 0 < size → end / size < number → end ≤ batch_count before → ((b c : ℕ) → end ≤ b → spans low high before b c ≡ false)
      → parts_upto size low high before number ≡ parts_of size low high before
  all_parted size number end some h within none =
      elim (leb_tells number (batch_count before)) as (λ _. parts_upto size low high before number ≡ parts_of size low high before) [
        | inl e ↦ parts_rest size number (batch_count before) e.1 (λ k j. empty_after size k end none (past_end size number k end some h j))
        | inr e ↦ sym (parts_rest size (batch_count before) number (omega (arith, e.1)) (λ k j. empty_after size k end none (omega (arith, no_less size k some, j, within))))
      ]

  pub begins_within : (size number end : ℕ) → number ≤ end / size → number * size ≤ end
  begins_within size number end h =
      let less : number * size ≤ end / size * size = mul-le-mul_right size h in
      omega (arith, less, div-mul-le_self end size)

  pub step_reached : (b i : ℕ) (old front new : List Piece) → front ≡ old ++ reached low high before b i
      → new ≡ front ++ one_if (reaches low high before (b + i)) (piece_in before (b + i)) → new ≡ old ++ reached low high before b (i + 1)
  step_reached b i old front new e f =
      f
      ∙ ap (λ (xs : List Piece). xs ++ one_if (reaches low high before (b + i)) (piece_in before (b + i))) e
      ∙ append_assoc old (reached low high before b i) (one_if (reaches low high before (b + i)) (piece_in before (b + i)))
      ∙ ap (λ (n : ℕ). old ++ reached low high before b n) (sym (add-one i))

  pub adds_none : (b : ℕ) (xs : List Piece) (p : Piece) → batch_count before ≤ b → xs ≡ xs ++ one_if (reaches low high before b) p
  adds_none b xs p h = sym (ap (λ (x : Bool). xs ++ one_if x p) (none_past b (b + 1) h) ∙ append-nil xs)

-- What a search says of the numbers before it.
all_by : (test : ℕ → Bool) (n : ℕ) (first : Option ℕ) (pass : Bool) (b : ℕ) → pass ≡ test n → (first ≡ None → b < n → test b ≡ false)
    → option_or first (some_if pass n) ≡ None → b < suc n → test b ≡ false
all_by test n (Some c) pass b p below e h = absurd cc
all_by test n None true b p below e h = absurd cc
all_by test n None false b p below e h =
    elim (eqb_tells b n) as (λ _. test b ≡ false) [ inl k ↦ ap test k.1 ∙ sym p | inr k ↦ below refl (omega (arith, h, k.1)) ]

least_all : (test : ℕ → Bool) (n b : ℕ) → least test n ≡ None → b < n → test b ≡ false
least_all test zero b e h = absurd (omega (arith, h))
least_all test (suc n) b e h = all_by test n (least test n) (test n) b refl (λ f j. least_all test n b f j) e h

before_by : (test : ℕ → Bool) (n : ℕ) (first : Option ℕ) (pass : Bool) (a b : ℕ) → ((c : ℕ) → first ≡ Some c → b < c → test b ≡ false)
    → (first ≡ None → b < n → test b ≡ false) → option_or first (some_if pass n) ≡ Some a → b < a → test b ≡ false
before_by test n (Some c) pass a b some none e h = let same : c ≡ a = cc in some c refl (omega (arith, same, h))
before_by test n None true a b some none e h = let same : n ≡ a = cc in none refl (omega (arith, same, h))
before_by test n None false a b some none e h = absurd cc

least_before : (test : ℕ → Bool) (n a b : ℕ) → least test n ≡ Some a → b < a → test b ≡ false
least_before test zero a b e h = absurd cc
least_before test (suc n) a b e h =
    before_by test n (least test n) (test n) a b (λ c f j. least_before test n c b f j) (λ f j. least_all test n b f j) e h

-- Each batch of a past range is indexed.
not_left : (indexed reach : Bool) → (not indexed && reach) ≡ false → reach ≡ true → indexed ≡ true
not_left true reach e f = refl
not_left false true e f = absurd cc
not_left false false e f = absurd cc

and_right : (a b : Bool) → (a && b) ≡ true → b ≡ true
and_right true b e = e
and_right false b e = absurd cc

module _ (low high : ℕ) (before : List Entry) where
  within_count : (to b : ℕ) → reaches low to before b ≡ true → b < batch_count before
  within_count to b reach =
      elim (leb_tells (batch_count before) b) as (λ _. b < batch_count before)
      [ inl k ↦ absurd (let no : true ≡ false = sym reach ∙ none_past low to before b (b + 1) k.1 in cc) | inr k ↦ k.1 ]

  upto : (again : Option ℕ) (b : ℕ) → again_of low high before ≡ again → reaches low (stop_at low high before again) before b ≡ true → is_indexed b before ≡ true
  upto None b is reach =
      not_left (is_indexed b before) (reaches low high before b) (least_all (holds_up low high before) (batch_count before) b is (within_count high b reach)) reach
  upto (Some a) b is reach =
      let inside : max low (first_of b before) < min (max low (first_of a before)) (first_of (b + 1) before) =
      lt_of (max low (first_of b before)) (min (max low (first_of a before)) (first_of (b + 1) before)) reach in
      let stops : reaches low high before a ≡ true =
      and_right (not (is_indexed a before)) (reaches low high before a) (least_passes (holds_up low high before) (batch_count before) a is) in
      let far : max low (first_of a before) < min high (first_of (a + 1) before) = lt_of (max low (first_of a before)) (min high (first_of (a + 1) before)) stops in
      let less : b < a =
      elim (leb_tells a b) as (λ _. b < a) [ inl k ↦ absurd (omega (arith, first_up before a b k.1, inside)) | inr k ↦ k.1 ] in
      not_left (is_indexed b before) (reaches low high before b) (least_before (holds_up low high before) (batch_count before) a b is less)
      (lt_true (max low (first_of b before)) (min high (first_of (b + 1) before)) (omega (arith, inside, far)))

  pub told_indexed : (b : ℕ) → reaches low (stop_at low high before (again_of low high before)) before b ≡ true → is_indexed b before ≡ true
  told_indexed b reach = upto (again_of low high before) b refl reach
