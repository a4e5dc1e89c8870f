-- The page of a snapshot, of all of its batches.
use Rattle.std.proofs.Common.{◌≡◌, ℕ, ◌+◌, ◌^◌, ◌<◌, ◌≤◌, true, List, [], ◌∷◌, ◌++◌, filter, flat_map, length, refl, ap, sym, ◌∙◌, arith, slice_index_or}
use Rattle.std.specs.List.{All, Contains}
use Rattle.std.proofs.lemmas.List.{length-append}
use Rattle.std.proofs.lemmas.List.Elements.{All-contains_itself, Contains-append_left, Contains-append_right}
use Rattle.std.proofs.lemmas.List.Sums.{count_by-le-length, length-filter}
use Rattle.event_history.specs.Events.{Event}
use Rattle.event_history.specs.Pieces.{Held}
use Rattle.archive_cache.specs.Caches.{Caching, Kept}
use Rattle.history_core.specs.Snapshots.{Snapshot, WasTaken}
use Rattle.exporter.specs.Asks.{after_run, asks_of, loads_in}
use Rattle.exporter.specs.Pages.{checked_in, found_in, held_by, touched_in}
use Rattle.exporter.specs.Walks.{Gathered, Reading, live_reading, past_reading, reads, walk}
use Rattle.exporter.proofs.TakenLemmas.{taken_total}
use Rattle.exporter.proofs.WalkLemmas.{chosen, loads_append, loads_few, reads_are, run_append, walk_cache, walk_checked, walk_counts, walk_found, walk_loads, walk_touched}

pub own_past : (x : Snapshot) → All (λ h. Contains (held_by x) h) x.past_batches
own_past x k d at = Contains-append_left x.past_batches x.live_batches (slice_index_or x.past_batches k d) (All-contains_itself x.past_batches k d at)

pub own_live : (x : Snapshot) → All (λ h. Contains (held_by x) h) x.live_batches
own_live x k d at = Contains-append_right x.past_batches x.live_batches (slice_index_or x.live_batches k d) (All-contains_itself x.live_batches k d at)

all_chosen : (held : List Held) → filter (λ (h : Held). true) held ≡ held
all_chosen [] = refl
all_chosen (h ∷ held) = ap (λ (hs : List Held). h ∷ hs) (all_chosen held)

asks_append : (front back : List Held) → asks_of (front ++ back) ≡ asks_of front ++ asks_of back
asks_append [] back = refl
asks_append (h ∷ front) back = ap (λ (asks : List Kept). (h.no, h.packed.content) ∷ asks) (asks_append front back)

asks_long : (held : List Held) → length (asks_of held) ≡ length held
asks_long [] = refl
asks_long (h ∷ held) = omega (arith, asks_long held)

few_chosen : (reading : Held → Reading) (held : List Held) → length (chosen reading held) ≤ length held
few_chosen reading held = omega (arith, length-filter (λ (h : Held). (reading h).touched) held, count_by-le-length (λ (h : Held). (reading h).touched) held)

abbrev pub start : Caching → ℕ → Gathered
start cache steps = record { found = []; checked = 0; touched = 0; loads = 0; cache = cache; steps = steps }

module _ (x : Snapshot) where
  abbrev pub past_of : Held → Reading
  past_of h = past_reading x.taking.expr x.taking.past_from x.taking.past_to h

  abbrev pub live_of : Held → Reading
  live_of h = live_reading x.taking.expr x.taking.live_from x.taking.live_to h

  -- what was gathered in the end
  abbrev pub end : Caching → ℕ → Gathered
  end cache steps = walk live_of x.live_batches (walk past_of x.past_batches (start cache steps))

  live_chosen : chosen live_of x.live_batches ≡ x.live_batches
  live_chosen = all_chosen x.live_batches

  asks_are : asks_of (touched_in x) ≡ asks_of (chosen past_of x.past_batches) ++ asks_of (chosen live_of x.live_batches)
  asks_are =
      asks_append (chosen past_of x.past_batches) x.live_batches
      ∙ ap (λ (hs : List Held). asks_of (chosen past_of x.past_batches) ++ asks_of hs) (sym live_chosen)

  pub touched_long : length (touched_in x) ≡ reads past_of x.past_batches + length x.live_batches
  touched_long = length-append (chosen past_of x.past_batches) x.live_batches ∙ ap (λ (n : ℕ). n + length x.live_batches) (sym (reads_are past_of x.past_batches))

  live_reads : reads live_of x.live_batches ≡ length x.live_batches
  live_reads = reads_are live_of x.live_batches ∙ ap (λ (hs : List Held). length hs) live_chosen

  module _ (cache : Caching) (steps : ℕ) where
    mid : Gathered
    mid = walk past_of x.past_batches (start cache steps)

    pub end_found : (end cache steps).found ≡ found_in x
    unfolding mid
    end_found =
        walk_found live_of x.live_batches mid
        ∙ ap (λ (ys : List (ℕ × Event)). ys ++ flat_map (λ h. (live_of h).found) x.live_batches) (walk_found past_of x.past_batches (start cache steps))

    mid_cache : mid.cache ≡ after_run (asks_of (chosen past_of x.past_batches)) cache
    unfolding mid
    mid_cache = walk_cache past_of x.past_batches (start cache steps)

    pub end_cache : (end cache steps).cache ≡ after_run (asks_of (touched_in x)) cache
    unfolding mid
    end_cache =
        walk_cache live_of x.live_batches mid
        ∙ ap (λ (c : Caching). after_run (asks_of (chosen live_of x.live_batches)) c) mid_cache
        ∙ sym (run_append (asks_of (chosen past_of x.past_batches)) (asks_of (chosen live_of x.live_batches)) cache)
        ∙ ap (λ (asks : List Kept). after_run asks cache) (sym asks_are)

    all_loads : loads_in (asks_of (touched_in x)) cache ≡ loads_in (asks_of (chosen past_of x.past_batches)) cache + loads_in (asks_of (chosen live_of x.live_batches)) mid.cache
    unfolding mid
    all_loads =
        ap (λ (asks : List Kept). loads_in asks cache) asks_are
        ∙ loads_append (asks_of (chosen past_of x.past_batches)) (asks_of (chosen live_of x.live_batches)) cache
        ∙ ap (λ (c : Caching). loads_in (asks_of (chosen past_of x.past_batches)) cache + loads_in (asks_of (chosen live_of x.live_batches)) c) (sym mid_cache)

    pub end_steps : (end cache steps).steps ≡ steps + loads_in (asks_of (touched_in x)) cache
    unfolding mid
    end_steps =
        omega (arith, walk_counts live_of x.live_batches mid, walk_counts past_of x.past_batches (start cache steps), all_loads)

    pub end_checked : WasTaken x → (end cache steps).checked ≡ checked_in x
    unfolding mid
    end_checked w =
        let one = walk_checked past_of x.past_batches (start cache steps) (omega arith) in
        let two = walk_checked live_of x.live_batches mid (omega (arith, one)) in
        omega (arith, one, two, taken_total x w)

    pub end_touched : length x.past_batches + length x.live_batches < 2 ^ 64 → (end cache steps).touched ≡ length (touched_in x)
    unfolding mid
    end_touched h =
        let one = walk_touched past_of x.past_batches (start cache steps) (omega arith) in
        let two = walk_touched live_of x.live_batches mid (omega (arith, one)) in
        omega (arith, h, one, two, touched_long, live_reads, reads_are past_of x.past_batches, few_chosen past_of x.past_batches)

    pub end_loads : length x.past_batches + length x.live_batches < 2 ^ 64 → (end cache steps).loads ≡ loads_in (asks_of (touched_in x)) cache
    unfolding mid
    end_loads h =
        let one = walk_loads past_of x.past_batches (start cache steps) (omega arith) in
        let two = walk_loads live_of x.live_batches mid (omega (arith, one)) in
        omega (arith, h, one, two, all_loads, loads_few (asks_of (touched_in x)) cache, asks_long (touched_in x), touched_long, reads_are past_of x.past_batches, few_chosen past_of x.past_batches)

pub start_of : (found : List (ℕ × Event)) (checked touched loads : ℕ) (cache : Caching) (steps : ℕ) → found ≡ [] → checked ≡ 0 → touched ≡ 0 → loads ≡ 0
    → record { found = found; checked = checked; touched = touched; loads = loads; cache = cache; steps = steps } ≡ start cache steps
start_of found checked touched loads cache steps a b d e =
    ap (λ (x : List (ℕ × Event)). record { found = x; checked = checked; touched = touched; loads = loads; cache = cache; steps = steps }) a
    ∙ ap (λ (x : ℕ). record { found = []; checked = x; touched = touched; loads = loads; cache = cache; steps = steps }) b
    ∙ ap (λ (x : ℕ). record { found = []; checked = 0; touched = x; loads = loads; cache = cache; steps = steps }) d
    ∙ ap (λ (x : ℕ). record { found = []; checked = 0; touched = 0; loads = x; cache = cache; steps = steps }) e

pub end_of : (x : Snapshot) (past live : List Held) (cache : Caching) (steps : ℕ) (begin mid last : Gathered) → begin ≡ start cache steps → past ≡ x.past_batches → live ≡ x.live_batches
    → mid ≡ walk (past_of x) past begin → last ≡ walk (live_of x) live mid → last ≡ end x cache steps
end_of x past live cache steps begin mid last a b d e f =
    f ∙ ap (λ (hs : List Held). walk (live_of x) hs mid) d
    ∙ ap (λ (g : Gathered). walk (live_of x) x.live_batches g)
    (e ∙ ap (λ (hs : List Held). walk (past_of x) hs begin) b ∙ ap (λ (g : Gathered). walk (past_of x) x.past_batches g) a)
