-- The second half of a worker's turn.
use Rattle.std.proofs.Common.{◌≡◌, ℕ, Bool, true, false, List, [], ◌∷◌, ◌++◌, Option, Some, Result, Ok, Err, OnOk, All, map, ap, refl, sym, subst, ◌∙◌, inl, inr, ◌⊎◌}
use Rattle.std.specs.declared.alloc.AllocError.{AllocError}
use Rattle.std.proofs.lemmas.List.Elements.{All-cons, All-nil}
use Rattle.archive_cache.specs.Caches.{Caching}
use Rattle.event_history.specs.declared.entry.Deed.{Deed}
use Rattle.event_history.specs.declared.entry.Deed.TheVariants as deed
use Rattle.event_history.specs.declared.entry.Entry.{Entry}
use Rattle.event_history.specs.declared.entry.Limits.{Limits}
use Rattle.event_history.specs.Histories.{past}
use Rattle.event_history.specs.Legal.{Legal}
use Rattle.exporter.specs.Stores.{IsCacheOf, ServesStore}
use Rattle.query_meaning.specs.declared.expr.Expr.{Expr}
use Rattle.shared_store.specs.Turns.{Stands}
use Rattle.worker_pool.specs.declared.paging.QueryEnd.{QueryEnd}
use Rattle.worker_pool.specs.declared.registering.Query.{Query}
use Rattle.worker_pool.specs.Deeds.{Went}
use Rattle.worker_pool.specs.Finishing.{Finishes, IsSound}
use Rattle.worker_pool.specs.Indexing as i
use Rattle.worker_pool.specs.Indexing.{Indexes, Indexing, indexing_deeds}
use Rattle.worker_pool.specs.Registering.{AreAskable, ends}
use Rattle.worker_pool.specs.Sealing as s
use Rattle.worker_pool.specs.Sealing.{Sealing, Seals, sealing_deeds}
use Rattle.worker_pool.specs.Takes.{AreApart, IsFree, IsPaged, TakesOn, is_take, numbers_of}
use Rattle.worker_pool.proofs.TakeLemmas.{all_paged_stay, past_is}

abbrev Silent : ℕ → Deed → Type 0
Silent q d = is_take q d ≡ false

index_silent : (did : Indexing) (q : ℕ) → All (λ (d : Deed). is_take q d ≡ false) (indexing_deeds did)
index_silent i.NoneFree q = All-nil (λ (d : Deed). is_take q d ≡ false)
index_silent (i.Claimed batch true) q = All-cons (λ (d : Deed). is_take q d ≡ false) (deed.Claim batch) (deed.Index batch ∷ []) refl (All-cons (λ (d : Deed). is_take q d ≡ false) (deed.Index batch) [] refl (All-nil (λ (d : Deed). is_take q d ≡ false)))
index_silent (i.Claimed batch false) q = All-cons (λ (d : Deed). is_take q d ≡ false) (deed.Claim batch) [] refl (All-nil (λ (d : Deed). is_take q d ≡ false))

seal_silent : (did : Sealing) (q : ℕ) → All (λ (d : Deed). is_take q d ≡ false) (sealing_deeds did)
seal_silent s.NoneFull q = All-nil (λ (d : Deed). is_take q d ≡ false)
seal_silent (s.Merged group true) q = All-cons (λ (d : Deed). is_take q d ≡ false) (deed.Seal group) [] refl (All-nil (λ (d : Deed). is_take q d ≡ false))
seal_silent (s.Merged group false) q = All-nil (λ (d : Deed). is_take q d ≡ false)

-- ---- what lasts while others go on

pub sound_went : (a b : Stands) (did : List Deed) → Went a b did → IsSound a → IsSound b
sound_went a b did went sound = record {
  limits = sound.limits;
  framed = ap (λ (s : Stands). s.frame) went.leaves ∙ sound.framed;
  legal = went.legal sound.limits sound.framed sound.legal;
}

pub cache_went : ((limits : Limits) (before : List Entry) → ServesStore limits before) → (a b : Stands) (did : List Deed) (cache : Caching) → Went a b did → IsSound a → IsCacheOf (past a.seen) cache → IsCacheOf (past b.seen) cache
cache_went serve a b did cache went sound is =
    let later = past_is a b did went in
    let legal = subst (Legal sound.limits) later (went.legal sound.limits sound.framed sound.legal) in
    subst (λ (l : List Entry). IsCacheOf l cache) (sym later) ((serve sound.limits (past a.seen)).cache_stays (past went.since) cache legal is)

pub askable_went : (a b : Stands) (did : List Deed) (queries : List Query) → Went a b did → ((q : ℕ) → All (λ (d : Deed). is_take q d ≡ false) did) → AreAskable a queries → AreAskable b queries
askable_went a b did queries went silent is = record {
  paged = all_paged_stay a b did went (ends queries) (λ q there. silent q) is.paged;
  free = is.free;
  apart = is.apart;
}

-- ---- the ways in which it ends

module _ (serve : (limits : Limits) (before : List Entry) → ServesStore limits before) (a : Stands) (sound : IsSound a) (old : List Query) (askable : AreAskable a old) (cache : Caching) (kept : IsCacheOf (past a.seen) cache) where
  pub stops_indexing : (e : AllocError) (b : Stands) → Indexes (Err e) a b → Finishes (Err e) old old cache a b
  stops_indexing e b indexes = record {
    is = inl (record { indexes = indexes; same = refl });
    sound = sound_went a b (indexing_deeds indexes.did) indexes.went sound;
    paged = (askable_went a b (indexing_deeds indexes.did) old indexes.went (index_silent indexes.did) askable).paged;
    askable = tt;
    kept = cache_went serve a b (indexing_deeds indexes.did) cache indexes.went sound kept;
  }

  module _ (claimed : Bool) (b : Stands) (indexes : Indexes (Ok claimed) a b) where
    sound_b : IsSound b
    sound_b = sound_went a b (indexing_deeds indexes.did) indexes.went sound

    askable_b : AreAskable b old
    askable_b = askable_went a b (indexing_deeds indexes.did) old indexes.went (index_silent indexes.did) askable

    kept_b : IsCacheOf (past b.seen) cache
    kept_b = cache_went serve a b (indexing_deeds indexes.did) cache indexes.went sound kept

    pub stops_merging : (e : AllocError) (c : Stands) → Seals (Err e) b c → Finishes (Err e) old old cache a c
    stops_merging e c seals = record {
      is = inr (inl (record { indexed = b; claimed = claimed; indexes = indexes; seals = seals; same = refl }));
      sound = sound_went b c (sealing_deeds seals.did) seals.went sound_b;
      paged = (askable_went b c (sealing_deeds seals.did) old seals.went (seal_silent seals.did) askable_b).paged;
      askable = tt;
      kept = cache_went serve b c (sealing_deeds seals.did) cache seals.went sound_b kept_b;
    }

    module _ (merged : Bool) (c : Stands) (seals : Seals (Ok merged) b c) where
      pub sound_sealed : IsSound c
      sound_sealed = sound_went b c (sealing_deeds seals.did) seals.went sound_b

      pub askable_sealed : AreAskable c old
      askable_sealed = askable_went b c (sealing_deeds seals.did) old seals.went (seal_silent seals.did) askable_b

      pub kept_sealed : IsCacheOf (past c.seen) cache
      kept_sealed = cache_went serve b c (sealing_deeds seals.did) cache seals.went sound_b kept_b

      module _ (new : List Query) (d : Stands) (cache_now : Caching) (kept_now : IsCacheOf (past d.seen) cache_now) where
        pub stops_asking : (e : AllocError) → TakesOn (Err e) (ends old) (ends new) c d → Finishes (Err e) old new cache_now a d
        stops_asking e takes = record {
          is = inr (inr (record { indexed = b; sealed = c; claimed = claimed; merged = merged; indexes = indexes; seals = seals; takes = takes }));
          sound = sound_went c d takes.did takes.went sound_sealed;
          paged = takes.paged;
          askable = tt;
          kept = kept_now;
        }

        pub finished : TakesOn (Ok tt) (ends old) (ends new) c d → Finishes (Ok claimed) old new cache_now a d
        finished takes = record {
          is = record { indexed = b; sealed = c; merged = merged; indexes = indexes; seals = seals; takes = takes };
          sound = sound_went c d takes.did takes.went sound_sealed;
          paged = takes.paged;
          askable = record { paged = takes.paged; free = takes.asked.0; apart = subst AreApart (sym takes.numbers) askable.apart };
          kept = kept_now;
        }
