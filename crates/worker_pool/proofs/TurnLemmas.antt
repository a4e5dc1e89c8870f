-- A worker's turn.
use Rattle.std.proofs.Common.{◌≡◌, ℕ, Bool, false, List, [], ◌∷◌, Option, None, Result, Ok, Err, OnOk, All, ap, refl, sym, subst, ◌∙◌, inl, inr, ◌⊎◌}
use Rattle.std.specs.declared.alloc.AllocError.{AllocError}
use Rattle.std.proofs.lemmas.List.Elements.{All-cons, All-nil}
use Rattle.archive_cache.specs.Caches.{Caching}
use Rattle.event_history.specs.declared.entry.Deed.{Deed}
use Rattle.event_history.specs.declared.entry.Deed.TheVariants as deed
use Rattle.event_history.specs.declared.entry.Entry.{Entry}
use Rattle.event_history.specs.declared.entry.Limits.{Limits}
use Rattle.event_history.specs.Histories.{past}
use Rattle.exporter.specs.Stores.{IsCacheOf, ServesStore}
use Rattle.query_meaning.specs.declared.expr.Expr.{Expr}
use Rattle.shared_store.specs.Turns.{Stands}
use Rattle.step_script.specs.Feeds.{Outward}
use Rattle.step_script.specs.Playing.{packed_of}
use Rattle.worker_pool.specs.declared.feeding.Feed.{Feed}
use Rattle.worker_pool.specs.declared.registering.Query.{Query}
use Rattle.worker_pool.specs.Deeds.{Went}
use Rattle.worker_pool.specs.Feeding as f
use Rattle.worker_pool.specs.Feeding.{Feeding, Reads, feeding_deeds}
use Rattle.worker_pool.specs.Finishing.{Finishes, IsSound}
use Rattle.worker_pool.specs.Registering as r
use Rattle.worker_pool.specs.Registering.{AreAskable, EndsRegistering, IsUnasked, Registering, RegistersAll, exprs}
use Rattle.worker_pool.specs.Takes.{is_take}
use Rattle.worker_pool.specs.Turning.{Turns}
use Rattle.worker_pool.proofs.FinishLemmas.{askable_went, cache_went, sound_went}
use Rattle.worker_pool.proofs.RegisterLemmas.{askable_registered, registers_went}
use Rattle.worker_pool.proofs.WentLemmas.{went_none}

feed_silent : (did : Feeding) (q : ℕ) → All (λ (d : Deed). is_take q d ≡ false) (feeding_deeds did)
feed_silent (f.Accepted content) q = All-cons (λ (d : Deed). is_take q d ≡ false) (deed.Accept (packed_of content)) [] refl (All-nil (λ (d : Deed). is_take q d ≡ false))
feed_silent (f.Refused content have limit) q = All-nil (λ (d : Deed). is_take q d ≡ false)
feed_silent (f.Met end) q = All-nil (λ (d : Deed). is_take q d ≡ false)
feed_silent f.Wanting q = All-nil (λ (d : Deed). is_take q d ≡ false)

-- reading takes nothing of any query
reads_went : {S : Type 0} (out : Outward S) (result : Result (Unit {0}) AllocError) (olds news : List (Feed S)) (a b : Stands) → Reads out result olds news a b → (did : List Deed) × Went a b did × ((q : ℕ) → All (λ (d : Deed). is_take q d ≡ false) did)
reads_went out result olds news a b (inl one) = (feeding_deeds one.feeds.did, one.feeds.went, feed_silent one.feeds.did)
reads_went out result olds news a b (inr none) = ([], subst (λ (s : Stands). Went a s []) (sym none.stays) (went_none a), λ q. All-nil (λ (d : Deed). is_take q d ≡ false))

-- where memory was not wanting each is registered
none_by : (did : Registering) (expr left : Option Expr) (s : Stands) → EndsRegistering (Ok tt) did expr left s → left ≡ None
none_by r.Nothing expr left s ends = ends.1
none_by (r.Registered session e) expr left s ends = ends.1
none_by (r.Refused limit) expr left s ends = ends.1
none_by r.Wanting expr left s ends = absurd ends

no_error : {T E : Type 0} (x : T) (e : E) → Ok x ≡ Err e → ⊥
no_error x e is = absurd cc

all_registered : (olds news : List Query) (a b : Stands) → RegistersAll (Ok tt) olds news a b → All (λ (left : Option Expr). left ≡ None) (exprs news)
all_registered [] [] a b all = All-nil (λ (left : Option Expr). left ≡ None)
all_registered [] (y ∷ ys) a b all = absurd all
all_registered (x ∷ xs) [] a b all = absurd all
all_registered (x ∷ xs) (y ∷ ys) a b (inl (mid, one, rest)) =
    All-cons (λ (left : Option Expr). left ≡ None) y.expr (exprs ys) (none_by one.did x.expr y.expr mid one.ends) (all_registered xs ys mid b rest)
all_registered (x ∷ xs) (y ∷ ys) a b (inr (failed, one, same)) = absurd (no_error tt failed.0 failed.1)

on_ok : {A : Type 0} (result : Result Bool AllocError) → A → OnOk result A
on_ok (Ok b) x = x
on_ok (Err e) x = tt

module _ {S : Type 0} (out : Outward S) (serve : (limits : Limits) (before : List Entry) → ServesStore limits before) (a : Stands) (sound : IsSound a) (olds news : List (Feed S)) (old : List Query) (askable : AreAskable a old) (unasked : All IsUnasked old)
    (cache : Caching) (kept : IsCacheOf (past a.seen) cache) where
  module _ (result : Result (Unit {0}) AllocError) (b : Stands) (reads : Reads out result olds news a b) where
    sound_read : IsSound b
    sound_read = let went = reads_went out result olds news a b reads in sound_went a b went.0 went.1 sound

    pub askable_read : AreAskable b old
    askable_read = let went = reads_went out result olds news a b reads in askable_went a b went.0 old went.1 went.2 askable

    kept_read : IsCacheOf (past b.seen) cache
    kept_read = let went = reads_went out result olds news a b reads in cache_went serve a b went.0 cache went.1 sound kept

  pub stops_reading : (e : AllocError) (b : Stands) → Reads out (Err e) olds news a b → Turns out (Err e) olds news old old cache a b
  stops_reading e b reads = record {
    is = inl (inl (record { reads = reads; same = refl }));
    sound = sound_read (Err e) b reads;
    paged = (askable_read (Err e) b reads).paged;
    askable = tt;
    registered = tt;
    kept = kept_read (Err e) b reads;
  }

  module _ (b : Stands) (reads : Reads out (Ok tt) olds news a b) where
    module _ (result : Result (Unit {0}) AllocError) (queries : List Query) (c : Stands) (registers : RegistersAll result old queries b c) where
      pub sound_registered : IsSound c
      sound_registered = let went = registers_went result old queries b c registers in sound_went b c went.0 went.1 (sound_read (Ok tt) b reads)

      pub askable_then : AreAskable c queries
      askable_then = askable_registered result old queries b c registers unasked (askable_read (Ok tt) b reads)

      pub kept_registered : IsCacheOf (past c.seen) cache
      kept_registered = let went = registers_went result old queries b c registers in cache_went serve b c went.0 cache went.1 (sound_read (Ok tt) b reads) (kept_read (Ok tt) b reads)

    pub stops_registering : (e : AllocError) (new : List Query) (c : Stands) → RegistersAll (Err e) old new b c → Turns out (Err e) olds news old new cache a c
    stops_registering e new c registers = record {
      is = inl (inr (record { read = b; reads = reads; registers = registers }));
      sound = sound_registered (Err e) new c registers;
      paged = (askable_then (Err e) new c registers).paged;
      askable = tt;
      registered = tt;
      kept = kept_registered (Err e) new c registers;
    }

    pub goes_on : (result : Result Bool AllocError) (queries new : List Query) (c d : Stands) (cache_now : Caching) → RegistersAll (Ok tt) old queries b c → exprs new ≡ exprs queries → Finishes result queries new cache_now c d
        → Turns out result olds news old new cache_now a d
    goes_on result queries new c d cache_now registers same finishes = record {
      is = inr (record { read = b; registered = c; queries = queries; reads = reads; registers = registers; finishes = finishes.is });
      sound = finishes.sound;
      paged = finishes.paged;
      askable = finishes.askable;
      registered = on_ok result (subst (All (λ (left : Option Expr). left ≡ None)) (sym same) (all_registered old queries b c registers));
      kept = finishes.kept;
    }
