-- A cache of decoded batches beside a store.
use Rattle.std.proofs.Common.{◌≡◌, ◌⊎◌, inl, inr, ℕ, zero, suc, ◌+◌, ◌<◌, ◌≤◌, Bool, true, false, List, [], ◌∷◌, ◌++◌, Option, None, Some, IfSome, length, map, take, slice_get, slice_index_or, refl, ap, sym, ◌∙◌, subst, arith}
use Rattle.std.specs.List.{All, Contains}
use Rattle.std.proofs.lemmas.List.{take-map}
use Rattle.std.proofs.lemmas.List.Elements.{All-append, All-nil}
use Rattle.std.proofs.lemmas.Option.{slice_get-map}
use Rattle.std.specs.Option.{option_map}
use Rattle.event_batch.specs.Contents.{Content, Spelled}
use Rattle.event_history.specs.declared.entry.Entry.{Entry}
use Rattle.event_history.specs.declared.entry.Limits.{Limits}
use Rattle.event_history.specs.Choices.{reaches}
use Rattle.event_history.specs.Histories.{accepted, batch_count, content, first_of}
use Rattle.event_history.specs.Legal.{Legal}
use Rattle.event_history.specs.Pieces.{Held, held_at, held_in, held_of, held_upto}
use Rattle.event_history.specs.Queries.{Registration, registration}
use Rattle.event_history.proofs.GrowthLemmas.{grows}
use Rattle.archive_cache.specs.Caches.{Caching, kept_as}
use Rattle.history_core.specs.Snapshots.{IsSnapshot, Snapshot}
use Rattle.exporter.specs.Asks.{AgreesWith, KeepsOnly, asks_of}
use Rattle.exporter.specs.Pages.{held_by}
use Rattle.exporter.specs.Stores.{AreAccepted, IsBatch, IsCacheOf, ServesStore}

got_front : {X : Type 0} (n : ℕ) (xs : List X) (i : ℕ) (x : X) → slice_get (take n xs) i ≡ Some x → slice_get xs i ≡ Some x
got_front zero xs i x e = absurd cc
got_front (suc n) [] i x e = e
got_front (suc n) (y ∷ ys) zero x e = e
got_front (suc n) (y ∷ ys) (suc i) x e = got_front n ys i x e

all_one : {X : Type 0} (P : X → Type 0) (x : X) → P x → All P (x ∷ [])
all_one P x p zero d h = p
all_one P x p (suc k) d h = absurd (omega (arith, h))

abbrev accepted_as : List Entry → Held → Type 0
accepted_as before h = IsBatch before h.no h.packed.content

-- The batches that a take hands out.
one_there : (before : List Entry) (b : ℕ) (o : Option Spelled) → slice_get (accepted before) b ≡ o → AreAccepted before (held_in before b o)
one_there before b None e = All-nil (accepted_as before)
one_there before b (Some packed) e =
    all_one (accepted_as before) (record { no = b; first = first_of b before; packed = packed })
    (slice_get-map content (accepted before) b ∙ ap (λ (o : Option Spelled). option_map content o) e)

at_there : (before : List Entry) (b : ℕ) (reached : Bool) → AreAccepted before (held_at reached before b)
at_there before b true = one_there before b (slice_get (accepted before) b) refl
at_there before b false = All-nil (accepted_as before)

upto_there : (low high : ℕ) (before : List Entry) (n : ℕ) → AreAccepted before (held_upto low high before n)
upto_there low high before zero = All-nil (accepted_as before)
upto_there low high before (suc n) =
    All-append (accepted_as before) (held_upto low high before n) (held_at (reaches low high before n) before n)
    (upto_there low high before n) (at_there before n (reaches low high before n))

taken_by : (size : ℕ) (before : List Entry) (q : ℕ) (x : Snapshot) (o : Option Registration) → IsSnapshot size before q x o → AreAccepted before (held_by x)
taken_by size before q x None is = absurd is
taken_by size before q x (Some g) is =
    All-append (accepted_as before) x.past_batches x.live_batches
    (subst (λ (hs : List Held). AreAccepted before hs) (sym is.2) (upto_there x.taking.past_from x.taking.past_to before (batch_count before)))
    (subst (λ (hs : List Held). AreAccepted before hs) (sym is.3) (upto_there x.taking.live_from x.taking.live_to before (batch_count before)))

-- What is kept beside what is asked for.
agree_by : (before : List Entry) (cache : Caching) (number : ℕ) (what : Content) (o : Option Content) → kept_as number cache ≡ o → IsCacheOf before cache
    → IsBatch before number what → IfSome o (λ kept. kept ≡ what)
agree_by before cache number what None e is there = tt
agree_by before cache number what (Some kept) e is there =
    let same : Some kept ≡ Some what = sym (is number kept e) ∙ there in cc

agrees : (before : List Entry) (held : List Held) (cache : Caching) → AreAccepted before held → IsCacheOf before cache → AgreesWith held cache
agrees before held cache there is k d h =
    let x = slice_index_or held k d in
    agree_by before cache x.no x.packed.content (kept_as x.no cache) refl is (there k d h)

member : (before : List Entry) (held : List Held) (number : ℕ) (what : Content) (k : ℕ) → AreAccepted before held → k < length (asks_of held)
    → slice_index_or (asks_of held) k (number, what) ≡ (number, what) → IsBatch before number what
member before [] number what k there h e = absurd (omega (arith, h))
member before (x ∷ held) number what zero there h e =
    subst (λ (ask : ℕ × Content). IsBatch before ask.0 ask.1) e (there zero x (omega arith))
member before (x ∷ held) number what (suc k) there h e =
    member before held number what k (λ j d l. there (suc j) d (omega (arith, l))) (omega (arith, h)) e

left_by : (before : List Entry) (held : List Held) (old new : Caching) → AreAccepted before held → IsCacheOf before old → KeepsOnly held old new → IsCacheOf before new
left_by before held old new there is only number what e =
    elim (only number what e) as (λ _. IsBatch before number what)
    [ inl kept ↦ is number what kept | inr c ↦ member before held number what c.0 there c.1 c.2 ]

-- A longer history.
stays : (limits : Limits) (more before : List Entry) (number : ℕ) (what : Content) → Legal limits (more ++ before) → IsBatch before number what
    → IsBatch (more ++ before) number what
stays limits more before number what legal there =
    let k = grows limits more before legal in
    got_front (batch_count before) (map content (accepted (more ++ before))) number what
    (ap (λ (xs : List Content). slice_get xs number)
    (take-map content (batch_count before) (accepted (more ++ before)) ∙ ap (λ (xs : List Spelled). map content xs) k.batches) ∙ there)

pub serves : (limits : Limits) (before : List Entry) → ServesStore limits before
serves limits before = record {
  taken = λ q x is. taken_by limits.group before q x (registration q before) is;
  agrees = λ held cache there is. agrees before held cache there is;
  left = λ held old new there is only. left_by before held old new there is only;
  held_stay = λ more held legal there k d h.
      (let x = slice_index_or held k d in stays limits more before x.no x.packed.content legal (there k d h));
  cache_stays = λ more cache legal is number what e. stays limits more before number what legal (is number what e);
}
