-- What a store keeps when a batch is claimed, given back or indexed.
use Rattle.std.proofs.Common.{◌≡◌, ◌≢◌, ℕ, ◌+◌, ◌<◌, ◌≤◌, Bool, true, false, not, ◌&&◌, ◌||◌, ◌==◌, if◌then◌else◌, List, [], ◌∷◌, ◌++◌, Option, None, Some, is_some, is_none, length, slice_get, slice_index_or, refl, ap, sym, ◌∙◌, subst, arith, inl, inr}
use Rattle.std.proofs.lemmas.Bool.Decides.{leb_tells, nat_tests}
use Rattle.std.proofs.Math.ListN.{set, length-set}
use Rattle.event_batch.specs.Contents.{Spelled}
use Rattle.event_history.specs.declared.entry.Deed.{Deed}
use Rattle.event_history.specs.declared.entry.Deed.TheVariants.{Claim, Unclaim, Index}
use Rattle.event_history.specs.declared.entry.Entry.{Entry}
use Rattle.event_history.specs.declared.entry.Limits.{Limits}
use Rattle.event_history.specs.Choices.{is_free, next_claim}
use Rattle.event_history.specs.Histories.{accepted, batch_count, first_of, is_indexed, is_marked}
use Rattle.event_history.specs.Pieces.{Piece}
use Rattle.history_core.specs.declared.kept.Kept.{Kept}
use Rattle.history_core.specs.declared.kept.Query.{Query}
use Rattle.history_core.specs.Searches.{IsFirstFree, NoneFree, is_open}
use Rattle.history_core.specs.Stores.{EachKept, IsKept, Keeps, NoneFreeBelow}
use Rattle.history_core.proofs.CarryLemmas.{quiet_queries}
use Rattle.history_core.proofs.LegalLemmas.{least_is, least_none, other}
use Rattle.event_history.proofs.SnapshotLemmas.{batches_counted}
use Rattle.partition.proofs.ListLemmas.{at_index, get_within, read_set}

none_is : {X : Type 0} (o : Option X) (b : Bool) → is_some o ≡ b → is_none o ≡ not b
none_is None b e = ap not e
none_is (Some x) b e = ap not e

pub open_is_free : (before : List Entry) (b : ℕ) (k : Kept) → IsKept before b k → is_open k ≡ is_free before b
open_is_free before b k is =
    ap (λ (x : Bool). x && not k.marked) (none_is k.index (is_indexed b before) is.3) ∙ ap (λ (x : Bool). not (is_indexed b before) && not x) is.4

-- What is free.
no_free : (before : List Entry) (kept : List Kept) (low b : ℕ) → EachKept before kept → NoneFreeBelow before low → NoneFree kept low → b < length kept
    → is_free before b ≡ false
no_free before kept low b each busy none h =
    elim (leb_tells low b) as (λ _. is_free before b ≡ false) [
      | inl k ↦
          (let found = at_index kept b h in
          let one : Kept = found.0 in
          sym (open_is_free before b one (each b one h found.1)) ∙ none b one k.1 h found.1)
      | inr k ↦ busy b k.1
    ]

pub none_to_claim : (limits : Limits) (history before : List Entry) (rows : ℕ) (kept : List Kept) (low : ℕ) (queries : List Query)
    → Keeps limits history before rows kept low queries → NoneFree kept low → next_claim before ≡ None
none_to_claim limits history before rows kept low queries k none =
    least_none (is_free before) (batch_count before) (λ b h. no_free before kept low b k.each k.busy none (omega (arith, k.count)))

before_first : (before : List Entry) (kept : List Kept) (low at b : ℕ) → EachKept before kept → NoneFreeBelow before low → IsFirstFree kept low at → b < at
    → is_free before b ≡ false
before_first before kept low at b each busy first h =
    elim (leb_tells low b) as (λ _. is_free before b ≡ false) [
      | inl k ↦
          (let there : b < length kept = omega (arith, first.there) in
          let found = at_index kept b there in
          let one : Kept = found.0 in
          sym (open_is_free before b one (each b one there found.1)) ∙ first.first b one k.1 h found.1)
      | inr k ↦ busy b k.1
    ]

pub first_to_claim : (limits : Limits) (history before : List Entry) (rows : ℕ) (kept : List Kept) (low at : ℕ) (queries : List Query)
    → Keeps limits history before rows kept low queries → IsFirstFree kept low at → next_claim before ≡ Some at
first_to_claim limits history before rows kept low at queries k first =
    let found = at_index kept at first.there in
    let one : Kept = found.0 in
    least_is (is_free before) (batch_count before) at
    (sym (open_is_free before at one (k.each at one first.there found.1)) ∙ first.free one found.1)
    (λ b h. before_first before kept low at b k.each k.busy first h) (omega (arith, first.there, k.count))

-- One batch changed.
abbrev pub entry : ℕ → Deed → Entry
entry seat d = record { seat = seat; deed = d }

one_changed : (before : List Entry) (e : Entry) (kept : List Kept) (at : ℕ) (new : Kept) → EachKept before kept
    → ((b : ℕ) (k : Kept) → b ≢ at → IsKept before b k → IsKept (e ∷ before) b k) → IsKept (e ∷ before) at new
    → EachKept (e ∷ before) (set kept at new)
one_changed before e kept at new each others is b k h found =
    elim (read_set kept at new k b h found) as (λ _. IsKept (e ∷ before) b k) [
      | inl r ↦ subst (λ (x : Kept). IsKept (e ∷ before) b x) (sym r.1) (subst (λ (n : ℕ). IsKept (e ∷ before) n new) (sym r.0) is)
      | inr r ↦ others b k r.0 (each b k r.1 r.2)
    ]

module _ (before : List Entry) (seat at : ℕ) where
  claim_others : (b : ℕ) (k : Kept) → b ≢ at → IsKept before b k → IsKept (entry seat (Claim at) ∷ before) b k
  claim_others b k h is =
      (is.0, is.1, is.2, is.3, is.4 ∙ sym (ap (λ (x : Bool). if x then true else is_marked b before) (other at b (λ e. h (sym e)))), is.5)

  unclaim_others : (b : ℕ) (k : Kept) → b ≢ at → IsKept before b k → IsKept (entry seat (Unclaim at) ∷ before) b k
  unclaim_others b k h is =
      (is.0, is.1, is.2, is.3, is.4 ∙ sym (ap (λ (x : Bool). if x then false else is_marked b before) (other at b (λ e. h (sym e)))), is.5)

  index_others : (b : ℕ) (k : Kept) → b ≢ at → IsKept before b k → IsKept (entry seat (Index at) ∷ before) b k
  index_others b k h is =
      (is.0, is.1, is.2, is.3 ∙ sym (ap (λ (x : Bool). x || is_indexed b before) (other at b (λ e. h (sym e)))), is.4, is.5)

itself : (n : ℕ) → (n == n) ≡ true
itself n = grind (arith, nat_tests)

and_no : (b : Bool) → (b && false) ≡ false
and_no true = refl
and_no false = refl

or_busy : (now indexed marked : Bool) → (not indexed && not marked) ≡ false → (not (now || indexed) && not marked) ≡ false
or_busy true indexed marked e = refl
or_busy false indexed marked e = e

free_after_claim : (before : List Entry) (seat at b : ℕ) → (b < at → is_free before b ≡ false) → b < at + 1 → is_free (entry seat (Claim at) ∷ before) b ≡ false
free_after_claim before seat at b below h =
    elim (leb_tells at b) as (λ _. is_free (entry seat (Claim at) ∷ before) b ≡ false) [
      | inl k ↦
          (let same : at ≡ b = omega (arith, k.1) in
          ap (λ (x : Bool). not (is_indexed b before) && not (if x then true else is_marked b before)) (ap (λ (n : ℕ). n == b) same ∙ itself b)
          ∙ and_no (not (is_indexed b before)))
      | inr k ↦
          ap (λ (x : Bool). not (is_indexed b before) && not (if x then true else is_marked b before)) (other at b (λ e. omega (arith, k.1))) ∙ below k.1
    ]

pub claim_keeps : (limits : Limits) (history before : List Entry) (seat rows : ℕ) (kept : List Kept) (low at : ℕ) (queries : List Query) (old : Kept)
    → Keeps limits history before rows kept low queries → IsFirstFree kept low at → old ≡ slice_index_or kept at old
    → Keeps limits (history ++ entry seat (Claim at) ∷ []) (entry seat (Claim at) ∷ before) rows (set kept at (record old { marked = true })) (at + 1) queries
claim_keeps limits history before seat rows kept low at queries old k first found =
    let is : IsKept before at old = k.each at old first.there found in
    record {
      legal = (k.legal, first_to_claim limits history before rows kept low at queries k first);
      rows_are = k.rows_are;
      fits = k.fits;
      count = length-set kept at (record old { marked = true }) ∙ k.count;
      each = one_changed before (entry seat (Claim at)) kept at (record old { marked = true }) k.each (claim_others before seat at)
          (is.0, is.1, is.2, is.3, sym (ap (λ (x : Bool). if x then true else is_marked at before) (itself at)), is.5);
      low_in = omega (arith, first.there, length-set kept at (record old { marked = true }));
      busy = λ b h. free_after_claim before seat at b (λ j. before_first before kept low at b k.each k.busy first j) h;
      queries_are = k.queries_are;
      each_query = quiet_queries history before (entry seat (Claim at)) queries tt k.each_query;
    }

free_after_unclaim : (before : List Entry) (seat at low b : ℕ) → NoneFreeBelow before low → b < low → b < at → is_free (entry seat (Unclaim at) ∷ before) b ≡ false
free_after_unclaim before seat at low b busy h k =
    ap (λ (x : Bool). not (is_indexed b before) && not (if x then false else is_marked b before)) (other at b (λ e. omega (arith, k))) ∙ busy b h

pub unclaim_keeps : (limits : Limits) (history before : List Entry) (seat rows : ℕ) (kept : List Kept) (low lower at : ℕ) (queries : List Query) (old : Kept)
    → Keeps limits history before rows kept low queries → at < length kept → old ≡ slice_index_or kept at old → lower ≤ low → lower ≤ at
    → Keeps limits (history ++ entry seat (Unclaim at) ∷ []) (entry seat (Unclaim at) ∷ before) rows (set kept at (record old { marked = false })) lower queries
unclaim_keeps limits history before seat rows kept low lower at queries old k there found below under =
    let is : IsKept before at old = k.each at old there found in
    record {
      legal = (k.legal, omega (arith, k.count));
      rows_are = k.rows_are;
      fits = k.fits;
      count = length-set kept at (record old { marked = false }) ∙ k.count;
      each = one_changed before (entry seat (Unclaim at)) kept at (record old { marked = false }) k.each (unclaim_others before seat at)
          (is.0, is.1, is.2, is.3, sym (ap (λ (x : Bool). if x then false else is_marked at before) (itself at)), is.5);
      low_in = omega (arith, there, length-set kept at (record old { marked = false }));
      busy = λ b h. free_after_unclaim before seat at low b k.busy (omega arith) (omega arith);
      queries_are = k.queries_are;
      each_query = quiet_queries history before (entry seat (Unclaim at)) queries tt k.each_query;
    }

free_after_index : (before : List Entry) (seat at low b : ℕ) → NoneFreeBelow before low → b < low → is_free (entry seat (Index at) ∷ before) b ≡ false
free_after_index before seat at low b busy h = or_busy (at == b) (is_indexed b before) (is_marked b before) (busy b h)

pub index_keeps : (limits : Limits) (history before : List Entry) (seat rows : ℕ) (kept : List Kept) (low at : ℕ) (queries : List Query) (old : Kept) (piece : Piece)
    → Keeps limits history before rows kept low queries → at < length kept → old ≡ slice_index_or kept at old → is_some old.index ≡ false
    → piece ≡ record { batch = at; first = old.first; contents = old.packed.content ∷ [] }
    → Keeps limits (history ++ entry seat (Index at) ∷ []) (entry seat (Index at) ∷ before) rows (set kept at (record old { index = Some piece })) low queries
index_keeps limits history before seat rows kept low at queries old piece k there found none stands =
    let is : IsKept before at old = k.each at old there found in
    record {
      legal = (k.legal, (omega (arith, k.count), sym is.3 ∙ none));
      rows_are = k.rows_are;
      fits = k.fits;
      count = length-set kept at (record old { index = Some piece }) ∙ k.count;
      each = one_changed before (entry seat (Index at)) kept at (record old { index = Some piece }) k.each (index_others before seat at)
          (is.0, is.1, is.2, sym (ap (λ (x : Bool). x || is_indexed at before) (itself at)), is.4, stands);
      low_in = omega (arith, k.low_in, length-set kept at (record old { index = Some piece }));
      busy = λ b h. free_after_index before seat at low b k.busy h;
      queries_are = k.queries_are;
      each_query = quiet_queries history before (entry seat (Index at)) queries tt k.each_query;
    }

-- A claim of the store is on a batch that it keeps, with the bytes and the first id that it keeps.
pub claim_within : (limits : Limits) (history before : List Entry) (rows : ℕ) (kept : List Kept) (low b : ℕ) (queries : List Query) (packed : Spelled)
    → Keeps limits history before rows kept low queries → slice_get (accepted before) b ≡ Some packed → b < length kept
claim_within limits history before rows kept low b queries packed k is =
    let there : b < length (accepted before) = get_within (accepted before) b (ap (λ (o : Option Spelled). is_some o) is) in
    omega (arith, batches_counted before, k.count)

some_same : (x y : Spelled) (o : Option Spelled) → o ≡ Some x → o ≡ Some y → x ≡ y
some_same x y o e f = let same : Some x ≡ Some y = sym e ∙ f in cc

pub claimed_stands : (before : List Entry) (b first : ℕ) (packed : Spelled) (k : Kept) → IsKept before b k → slice_get (accepted before) b ≡ Some packed → first ≡ first_of b before
    → ◌≡◌ {A = Piece} (record { batch = b; first = first; contents = packed.content ∷ [] }) (record { batch = b; first = k.first; contents = k.packed.content ∷ [] })
claimed_stands before b first packed k is bytes id =
    ap (λ (n : ℕ). record { batch = b; first = n; contents = packed.content ∷ [] }) (id ∙ sym is.1)
    ∙ ap (λ (x : Spelled). record { batch = b; first = k.first; contents = x.content ∷ [] }) (some_same packed k.packed (slice_get (accepted before) b) bytes is.0)
