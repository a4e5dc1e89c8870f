-- What a store keeps when a group is sealed, and which group is next.
use Rattle.std.proofs.Common.{◌≡◌, ℕ, zero, suc, ◌+◌, ◌-◌, ◌*◌, ◌<◌, ◌≤◌, Bool, true, false, not, ◌&&◌, ◌||◌, ◌==◌, if◌then◌else◌, List, [], ◌∷◌, ◌++◌, Option, None, Some, is_some, length, map, ◌/◌, slice_get, slice_index_or, refl, ap, sym, ◌∙◌, subst, arith, inl, inr, add-one, Result, Ok, Err, OnOk, take, drop, append-nil}
use Rattle.std.proofs.lemmas.Bool.Decides.{eqb_tells, leb_tells, nat_tests}
use Rattle.std.proofs.Math.Nat.{lt-div-mul-add, mul-le-mul_right, mul-suc}
use Rattle.std.proofs.Math.ListN.{set}
use Rattle.std.proofs.lemmas.Grind.{flat_map-append}
use Rattle.std.proofs.lemmas.List.{length-append}
use Rattle.event_history.specs.Steps.{group_pieces}
use Rattle.std.specs.Option.{option_to_list}
use Rattle.std.specs.Result.{is_err}
use Rattle.std.specs.declared.alloc.AllocError.{AllocError}
use Rattle.event_batch.specs.Contents.{Content}
use Rattle.event_history.specs.declared.entry.Deed.TheVariants.{Seal}
use Rattle.event_history.specs.declared.entry.Entry.{Entry}
use Rattle.event_history.specs.declared.entry.Limits.{Limits}
use Rattle.event_history.specs.Choices.{is_waiting, next_group}
use Rattle.event_history.specs.Histories.{accepted, all_below, batch_count, content, first_of, is_full, is_indexed, is_sealed}
use Rattle.event_history.specs.Legal.{Legal}
use Rattle.event_history.specs.Pieces.{Piece, group_piece, joined, piece_in}
use Rattle.event_history.proofs.TellingLemmas.{least_passes}
use Rattle.history_core.specs.declared.kept.Kept.{Kept}
use Rattle.history_core.specs.declared.kept.Query.{Query}
use Rattle.history_core.specs.declared.kept.Seal.{Seal as KeptSeal}
use Rattle.history_core.specs.Searches.{AllSealed}
use Rattle.history_core.specs.Stores.{EachGroup, IsGroup, IsKept, Keeps, KeepsGroups, Stands, seal_at}
use Rattle.history_core.proofs.CarryLemmas.{below_more, quiet_queries}
use Rattle.history_core.proofs.ClaimLemmas.{entry}
use Rattle.history_core.proofs.LegalLemmas.{least_is, least_none, other, unnamed}

and_left : (a b : Bool) → (a && b) ≡ true → a ≡ true
and_left true b e = refl
and_left false b e = e

and_right : (a b : Bool) → (a && b) ≡ true → b ≡ true
and_right true b e = e
and_right false b e = absurd cc

and_no : (b : Bool) → (b && false) ≡ false
and_no true = refl
and_no false = refl

-- Whole ranges that pass.
pub passes_at : (test : ℕ → Bool) (n i : ℕ) → all_below test n ≡ true → i < n → test i ≡ true
passes_at test zero i e h = absurd (omega (arith, h))
passes_at test (suc n) i e h =
    elim (eqb_tells i n) as (λ _. test i ≡ true) [
      | inl k ↦ ap test k.1 ∙ and_right (all_below test n) (test n) e
      | inr k ↦ passes_at test n i (and_left (all_below test n) (test n) e) (omega (arith, k.1))
    ]

fails_here : (all here : Bool) → here ≡ false → (all && here) ≡ false
fails_here all here e = ap (λ (b : Bool). all && b) e ∙ and_no all

pub fails_at : (test : ℕ → Bool) (n i : ℕ) → i < n → test i ≡ false → all_below test n ≡ false
fails_at test zero i h e = absurd (omega (arith, h))
fails_at test (suc n) i h e =
    elim (eqb_tells i n) as (λ _. all_below test (suc n) ≡ false) [
      | inl k ↦ fails_here (all_below test n) (test n) (ap test (sym k.1) ∙ e)
      | inr k ↦ ap (λ (b : Bool). b && test n) (fails_at test n i (omega (arith, k.1)) e)
    ]

pub passes_more : (test : ℕ → Bool) (n : ℕ) → all_below test n ≡ true → test n ≡ true → all_below test (n + 1) ≡ true
passes_more test n all here =
    ap (λ (m : ℕ). all_below test m) (add-one n) ∙ ap (λ (b : Bool). b && test n) all ∙ here

-- an indexed batch was accepted
pub indexed_within : (limits : Limits) (before : List Entry) (b : ℕ) → Legal limits before → is_indexed b before ≡ true → b < batch_count before
indexed_within limits before b legal e =
    elim (leb_tells (batch_count before) b) as (λ _. b < batch_count before)
    [ inl k ↦ absurd (let no : false ≡ true = sym (unnamed limits before b legal k.1).0 ∙ e in cc) | inr k ↦ k.1 ]

-- the batches of a full group were accepted
pub full_within : (limits : Limits) (before : List Entry) (k : ℕ) → Legal limits before → 0 < limits.group → is_full limits.group k before ≡ true
    → k * limits.group + limits.group ≤ batch_count before
full_within limits before k legal some full =
    let last : k * limits.group + (limits.group - 1) < batch_count before =
    indexed_within limits before (k * limits.group + (limits.group - 1)) legal
    (passes_at (λ i. is_indexed (k * limits.group + i) before) limits.group (limits.group - 1) full (omega (arith, some))) in
    omega (arith, last, some)

is_it : (b : Bool) → ((b ≡ true) → ⊥) → b ≡ false
is_it true h = absurd (h refl)
is_it false h = refl

-- a group that reaches past the last batch isn't waiting
pub short_waits_not : (limits : Limits) (before : List Entry) (k : ℕ) → Legal limits before → 0 < limits.group → batch_count before < k * limits.group + limits.group
    → is_waiting limits.group before k ≡ false
short_waits_not limits before k legal some short =
    ap (λ (b : Bool). not (is_sealed k before) && b)
    (is_it (is_full limits.group k before) (λ full. (let there = full_within limits before k legal some full in omega (arith, there, short))))
    ∙ and_no (not (is_sealed k before))

pub sealed_waits_not : (size : ℕ) (before : List Entry) (k : ℕ) → is_sealed k before ≡ true → is_waiting size before k ≡ false
sealed_waits_not size before k e = ap (λ (b : Bool). not b && is_full size k before) e

pub none_indexed : (k : Kept) → k.index ≡ None → is_some k.index ≡ true → ⊥
none_indexed k e f = let no : false ≡ true = sym (ap (λ (o : Option Piece). is_some o) e) ∙ f in cc

pub on_ok : (r : Result (Unit {0}) AllocError) (P : Type 0) → is_err r ≡ false → OnOk r P → P
on_ok (Ok u) P e h = h
on_ok (Err x) P e h = absurd cc

-- Reads of the merged indexes.
pub seal_here : (seals : List KeptSeal) (k : ℕ) (s : KeptSeal) → k < length seals → s ≡ slice_index_or seals k s → seal_at seals k ≡ s.sealed
seal_here [] k s h e = absurd (omega (arith, h))
seal_here (x ∷ seals) zero s h e = ap (λ (y : KeptSeal). y.sealed) (sym e)
seal_here (x ∷ seals) (suc k) s h e = seal_here seals k s (omega (arith, h)) e

pub seal_past : (seals : List KeptSeal) (k : ℕ) → length seals ≤ k → seal_at seals k ≡ None
seal_past [] k h = refl
seal_past (x ∷ seals) zero h = absurd (omega (arith, h))
seal_past (x ∷ seals) (suc k) h = seal_past seals k (omega (arith, h))

pub sealed_there : (seals : List KeptSeal) (k : ℕ) → is_some (seal_at seals k) ≡ true → k < length seals
sealed_there seals k e =
    elim (leb_tells (length seals) k) as (λ _. k < length seals)
    [ inl h ↦ absurd (let no : false ≡ true = sym (ap (λ (o : Option Piece). is_some o) (seal_past seals k h.1)) ∙ e in cc) | inr h ↦ h.1 ]

-- one more without an index
pub seal_more : (seals : List KeptSeal) (k : ℕ) → seal_at (seals ++ record { sealed = None } ∷ []) k ≡ seal_at seals k
seal_more [] zero = refl
seal_more [] (suc k) = refl
seal_more (x ∷ seals) zero = refl
seal_more (x ∷ seals) (suc k) = seal_more seals k

same_test : (a b : ℕ) → (a == b) ≡ (suc a == suc b)
same_test a b = elim (eqb_tells a b) as (λ _. (a == b) ≡ (suc a == suc b))
    [ inl k ↦ grind (arith, nat_tests) | inr k ↦ k.0 ∙ sym (other (suc a) (suc b) (λ e. k.1 (omega (arith, e)))) ]

pub seal_set : (seals : List KeptSeal) (at k : ℕ) (new : KeptSeal) → at < length seals
    → seal_at (set seals at new) k ≡ (if at == k then new.sealed else seal_at seals k)
seal_set [] at k new h = absurd (omega (arith, h))
seal_set (x ∷ seals) zero zero new h = refl
seal_set (x ∷ seals) zero (suc k) new h = ap (λ (b : Bool). if b then new.sealed else seal_at seals k) (sym (other zero (suc k) (λ e. omega arith)))
seal_set (x ∷ seals) (suc at) zero new h = ap (λ (b : Bool). if b then new.sealed else x.sealed) (sym (other (suc at) zero (λ e. omega arith)))
seal_set (x ∷ seals) (suc at) (suc k) new h =
    seal_set seals at k new (omega (arith, h)) ∙ ap (λ (b : Bool). if b then new.sealed else seal_at seals k) (same_test at k)

-- Sealing a group.
pub seal_keeps : (limits : Limits) (history before : List Entry) (seat k rows : ℕ) (kept : List Kept) (low : ℕ) (queries : List Query)
    → Keeps limits history before rows kept low queries → is_full limits.group k before ≡ true → is_sealed k before ≡ false
    → Keeps limits (history ++ entry seat (Seal k) ∷ []) (entry seat (Seal k) ∷ before) rows kept low queries
seal_keeps limits history before seat k rows kept low queries is full open_yet = record {
  legal = (is.legal, (full, open_yet));
  rows_are = is.rows_are;
  fits = is.fits;
  count = is.count;
  each = is.each;
  low_in = is.low_in;
  busy = is.busy;
  queries_are = is.queries_are;
  each_query = quiet_queries history before (entry seat (Seal k)) queries tt is.each_query;
}

module _ (limits : Limits) (before : List Entry) (seat k : ℕ) (seals grown : List KeptSeal) (new : Piece)
    (there : k * limits.group + limits.group ≤ batch_count before) (same : (g : ℕ) → seal_at grown g ≡ seal_at seals g)
    (long : k < length grown) (stands : new ≡ group_piece limits.group k before) where
  grown_seals : List KeptSeal
  grown_seals = set grown k (record { sealed = Some new })

  sealed_now : (g : ℕ) → k ≡ g → (k == g) ≡ true → IsGroup limits.group (entry seat (Seal k) ∷ before) grown_seals g
  unfolding grown_seals
  sealed_now g e it =
      let found : seal_at (set grown k (record { sealed = Some new })) g ≡ Some new =
      seal_set grown k g (record { sealed = Some new }) long ∙ ap (λ (b : Bool). if b then Some new else seal_at grown g) it in (
        ap (λ (o : Option Piece). is_some o) found ∙ sym (ap (λ (b : Bool). b || is_sealed g before) it),
        subst (λ (o : Option Piece). Stands o (group_piece limits.group g before)) (sym found)
            (stands ∙ ap (λ (n : ℕ). group_piece limits.group n before) e),
        λ h. subst (λ (n : ℕ). n * limits.group + limits.group ≤ batch_count before) e there,
      )

  as_before : (g : ℕ) → (k == g) ≡ false → IsGroup limits.group before seals g → IsGroup limits.group (entry seat (Seal k) ∷ before) grown_seals g
  unfolding grown_seals
  as_before g it is =
      let found : seal_at (set grown k (record { sealed = Some new })) g ≡ seal_at seals g =
      seal_set grown k g (record { sealed = Some new }) long ∙ ap (λ (b : Bool). if b then Some new else seal_at grown g) it ∙ same g in
      let no : is_sealed g (entry seat (Seal k) ∷ before) ≡ is_sealed g before = ap (λ (b : Bool). b || is_sealed g before) it in (
        ap (λ (o : Option Piece). is_some o) found ∙ is.0 ∙ sym no,
        subst (λ (o : Option Piece). Stands o (group_piece limits.group g before)) (sym found) is.1,
        λ h. is.2 (sym no ∙ h),
      )

  each_then : EachGroup limits.group before seals → (g : ℕ) → IsGroup limits.group (entry seat (Seal k) ∷ before) grown_seals g
  each_then each g =
      elim (eqb_tells k g) as (λ _. IsGroup limits.group (entry seat (Seal k) ∷ before) grown_seals g)
      [ inl e ↦ sealed_now g e.1 e.0 | inr e ↦ as_before g e.0 (each g) ]

  pub seal_groups : (unsealed after : ℕ) → KeepsGroups limits before seals unsealed → AllSealed (set grown k (record { sealed = Some new })) unsealed after
      → KeepsGroups limits (entry seat (Seal k) ∷ before) (set grown k (record { sealed = Some new })) after
  unfolding grown_seals
  seal_groups unsealed after is all = record {
    size = is.size;
    few = is.few;
    each = each_then is.each;
    below = λ g h.
        elim (leb_tells unsealed g) as (λ _. is_sealed g (entry seat (Seal k) ∷ before) ≡ true) [
          | inl e ↦ sym (each_then is.each g).0 ∙ all g e.1 h
          | inr e ↦ below_more before (entry seat (Seal k)) unsealed is.below g e.1
        ];
  }

pub number_within : (k size n : ℕ) → 0 < size → k * size + size ≤ n → k + 1 ≤ n
number_within k zero n some h = absurd (omega (arith, some))
number_within k (suc size) n some h = omega (arith, h, mul-suc k size)

-- The groups that are waiting.
short_of : (n size k : ℕ) → 0 < size → n / size ≤ k → n < k * size + size
short_of n size k some h =
    let less : n < n / size * size + size = lt-div-mul-add some in
    let more : n / size * size ≤ k * size = mul-le-mul_right size h in
    omega (arith, less, more)

pub no_group : (limits : Limits) (before : List Entry) (n number : ℕ) → Legal limits before → 0 < limits.group → n ≡ batch_count before → n / limits.group ≤ number
    → ((k : ℕ) → k < number → is_waiting limits.group before k ≡ false) → next_group limits.group before ≡ None
no_group limits before n number legal some count far none =
    least_none (is_waiting limits.group before) (batch_count before)
    (λ k h. elim (leb_tells number k) as (λ _. is_waiting limits.group before k ≡ false)
    [ inl e ↦ short_waits_not limits before k legal some (omega (arith, count, short_of n limits.group k some (omega (arith, e.1, far)))) | inr e ↦ none k e.1 ])

pub this_group : (limits : Limits) (before : List Entry) (number : ℕ) → Legal limits before → 0 < limits.group → is_waiting limits.group before number ≡ true
    → ((k : ℕ) → k < number → is_waiting limits.group before k ≡ false) → next_group limits.group before ≡ Some number
this_group limits before number legal some waits none =
    least_is (is_waiting limits.group before) (batch_count before) number waits none
    (let there : number * limits.group + limits.group ≤ batch_count before =
    full_within limits before number legal some (and_right (not (is_sealed number before)) (is_full limits.group number before) waits) in
    omega (arith, number_within number limits.group (batch_count before) some there))

pub next_is_full : (size : ℕ) (before : List Entry) (k : ℕ) → next_group size before ≡ Some k → is_full size k before ≡ true
next_is_full size before k e =
    and_right (not (is_sealed k before)) (is_full size k before) (least_passes (is_waiting size before) (batch_count before) k e)

-- the index of a batch stands for it
get_map : {X Y : Type 0} (f : X → Y) (xs : List X) (x : X) (b : ℕ) → slice_get xs b ≡ Some x → slice_get (map f xs) b ≡ Some (f x)
get_map f [] x b e = absurd cc
get_map f (y ∷ xs) x zero e = let same : y ≡ x = cc in ap (λ (z : _). Some (f z)) same
get_map f (y ∷ xs) x (suc b) e = get_map f xs x b e

pub stands_in : (before : List Entry) (b : ℕ) (k : Kept) (p : Piece) → IsKept before b k → k.index ≡ Some p → p ≡ piece_in before b
stands_in before b k p is e =
    subst (λ (o : Option Piece). Stands o (record { batch = b; first = k.first; contents = k.packed.content ∷ [] })) e is.5
    ∙ ap (λ (n : ℕ). record { batch = b; first = n; contents = k.packed.content ∷ [] }) is.1
    ∙ ap (λ (o : Option Content). record { batch = b; first = first_of b before; contents = option_to_list o }) (sym (get_map content (accepted before) k.packed b is.0))

-- The pieces of a group's batches, as one.
joined_more : (p : Piece) (ps : List Piece) (q : Piece)
    → joined ((p ∷ ps) ++ q ∷ []) ≡ record { batch = p.batch; first = p.first; contents = (joined (p ∷ ps)).contents ++ q.contents }
joined_more p ps q =
    ap (λ (xs : List Content). record { batch = p.batch; first = p.first; contents = xs })
    (flat_map-append (λ (r : Piece). r.contents) (p ∷ ps) (q ∷ []) ∙ ap (λ (xs : List Content). (joined (p ∷ ps)).contents ++ xs) (append-nil q.contents))

joined_next : (ps : List Piece) (q head : Piece) → 0 < length ps → joined ps ≡ head
    → joined (ps ++ q ∷ []) ≡ record { batch = head.batch; first = head.first; contents = head.contents ++ q.contents }
joined_next [] q head some is = absurd (omega (arith, some))
joined_next (p ∷ ps) q head some is =
    joined_more p ps q ∙ ap (λ (x : Piece). record { batch = x.batch; first = x.first; contents = x.contents ++ q.contents }) is

pub front_wider : (xs : List Content) (n : ℕ) → take (suc n) xs ≡ take n xs ++ option_to_list (slice_get xs n)
front_wider [] zero = refl
front_wider [] (suc n) = refl
front_wider (x ∷ xs) zero = refl
front_wider (x ∷ xs) (suc n) = ap (λ (ys : List Content). x ∷ ys) (front_wider xs n)

get_behind : (xs : List Content) (b n : ℕ) → slice_get (drop b xs) n ≡ slice_get xs (b + n)
get_behind xs zero n = let same : n ≡ zero + n = omega arith in ap (λ (i : ℕ). slice_get xs i) same
get_behind [] (suc b) n = refl
get_behind (x ∷ xs) (suc b) n =
    let same : suc (b + n) ≡ suc b + n = omega arith in
    get_behind xs b n ∙ ap (λ (i : ℕ). slice_get (x ∷ xs) i) same

one_wider : (xs : List Content) (b n : ℕ) → take (suc n) (drop b xs) ≡ take n (drop b xs) ++ option_to_list (slice_get xs (b + n))
one_wider xs b n =
    front_wider (drop b xs) n ∙ ap (λ (o : Option Content). take n (drop b xs) ++ option_to_list o) (get_behind xs b n)

pub pieces_counted : (before : List Entry) (b n : ℕ) → length (group_pieces before b n) ≡ n
pieces_counted before b zero = refl
pieces_counted before b (suc n) =
    length-append (group_pieces before b n) (piece_in before (b + n) ∷ []) ∙ omega (arith, pieces_counted before b n)

joined_run : (before : List Entry) (b n : ℕ)
    → joined (group_pieces before b (suc n)) ≡ record { batch = b; first = first_of b before; contents = take (suc n) (drop b (map content (accepted before))) }
joined_run before b zero =
    let same : b + zero ≡ b = omega arith in
    ap (λ (i : ℕ). record { batch = i; first = first_of i before; contents = option_to_list (slice_get (map content (accepted before)) i) ++ [] }) same
    ∙ ap (λ (xs : List Content). record { batch = b; first = first_of b before; contents = xs })
    (append-nil (option_to_list (slice_get (map content (accepted before)) b))
    ∙ ap (λ (i : ℕ). option_to_list (slice_get (map content (accepted before)) i)) (sym same)
    ∙ sym (one_wider (map content (accepted before)) b zero))
joined_run before b (suc n) =
    joined_next (group_pieces before b (suc n)) (piece_in before (b + suc n)) _ (omega (arith, pieces_counted before b (suc n))) (joined_run before b n)
    ∙ ap (λ (xs : List Content). record { batch = b; first = first_of b before; contents = xs }) (sym (one_wider (map content (accepted before)) b (suc n)))

pub joined_group : (size k : ℕ) (before : List Entry) → 0 < size → joined (group_pieces before (k * size) size) ≡ group_piece size k before
joined_group zero k before some = absurd (omega (arith, some))
joined_group (suc size) k before some = joined_run before (k * suc size) size
