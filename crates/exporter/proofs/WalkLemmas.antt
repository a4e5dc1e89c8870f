-- What a page has after some batches.
use Rattle.std.proofs.Common.{◌≡◌, ℕ, suc, ◌+◌, ◌-◌, ◌^◌, ◌<◌, ◌≤◌, Bool, true, false, cond, if◌then◌else◌, List, [], ◌∷◌, ◌++◌, filter, flat_map, length, drop, is_some, refl, ap, sym, ◌∙◌, arith, get_or, drop-cons}
use Rattle.std.specs.List.{sum_by}
use Rattle.std.proofs.lemmas.List.{append-nil, append_assoc}
use Rattle.std.proofs.lemmas.List.Sums.{sum_by-append}
use Rattle.event_history.specs.Pieces.{Held}
use Rattle.archive_cache.specs.Caches.{Caching, Kept, after_ask, kept_as}
use Rattle.exporter.specs.Asks.{after_run, asks_of, loads_in}
use Rattle.exporter.specs.Walks.{Gathered, Reading, capped, decoded, one_of, reads, walk, with_batch}

at_most_one : (n : ℕ) (b : Bool) → cond b 0 1 ≤ 1
at_most_one n true = omega arith
at_most_one n false = omega arith

pub decoded_few : (touched : Bool) (h : Held) (c : Caching) → decoded touched h c ≤ one_of touched
decoded_few true h c = at_most_one 0 (is_some (kept_as h.no c))
decoded_few false h c = omega arith

-- The next batch of a list.
pub walk_next : (reading : Held → Reading) (held : List Held) (i : ℕ) (h : Held) (g next : Gathered) → i < length held → h ≡ get_or held i h
    → next ≡ with_batch (reading h) h g → walk reading (drop i held) g ≡ walk reading (drop (i + 1) held) next
walk_next reading held i h g next at is e =
    let one : i + 1 ≡ suc i = omega arith in
    ap (λ (hs : List Held). walk reading hs g) (drop-cons held i h at ∙ ap (λ (x : Held). x ∷ drop (suc i) held) (sym is))
    ∙ ap (λ (x : Gathered). walk reading (drop (suc i) held) x) (sym e)
    ∙ ap (λ (n : ℕ). walk reading (drop n held) next) (sym one)

pub reads_next : (reading : Held → Reading) (held : List Held) (i : ℕ) (h : Held) → i < length held → h ≡ get_or held i h
    → reads reading (drop i held) ≡ one_of (reading h).touched + reads reading (drop (i + 1) held)
reads_next reading held i h at is =
    let one : i + 1 ≡ suc i = omega arith in
    ap (λ (hs : List Held). reads reading hs) (drop-cons held i h at ∙ ap (λ (x : Held). x ∷ drop (suc i) held) (sym is))
    ∙ ap (λ (n : ℕ). one_of (reading h).touched + reads reading (drop n held)) (sym one)

pub walk_append : (reading : Held → Reading) (front back : List Held) (g : Gathered) → walk reading (front ++ back) g ≡ walk reading back (walk reading front g)
walk_append reading [] back g = refl
walk_append reading (h ∷ front) back g = walk_append reading front back (with_batch (reading h) h g)

pub reads_append : (reading : Held → Reading) (front back : List Held) → reads reading (front ++ back) ≡ reads reading front + reads reading back
reads_append reading [] back = omega arith
reads_append reading (h ∷ front) back = omega (arith, reads_append reading front back)

pub walk_steps : (reading : Held → Reading) (held : List Held) (g : Gathered) → (walk reading held g).steps ≤ g.steps + reads reading held
walk_steps reading [] g = omega arith
walk_steps reading (h ∷ held) g =
    omega (arith, walk_steps reading held (with_batch (reading h) h g), decoded_few (reading h).touched h g.cache)

-- What the whole list gives.
module _ (reading : Held → Reading) where
  abbrev pub chosen : List Held → List Held
  chosen held = filter (λ h. (reading h).touched) held

  pub walk_found : (held : List Held) (g : Gathered) → (walk reading held g).found ≡ g.found ++ flat_map (λ h. (reading h).found) held
  walk_found [] g = sym (append-nil g.found)
  walk_found (h ∷ held) g = walk_found held (with_batch (reading h) h g) ∙ append_assoc g.found (reading h).found (flat_map (λ x. (reading x).found) held)

  pub walk_checked : (held : List Held) (g : Gathered) → g.checked ≤ 2 ^ 64 - 1
      → (walk reading held g).checked ≡ capped (g.checked + sum_by (λ h. (reading h).checked) held)
  walk_checked [] g h = omega (arith, h)
  walk_checked (x ∷ held) g h =
      let one : sum_by (λ y. (reading y).checked) (x ∷ held) ≡ (reading x).checked + sum_by (λ y. (reading y).checked) held =
      sum_by-append (λ y. (reading y).checked) (x ∷ []) held ∙ omega arith in
      walk_checked held (with_batch (reading x) x g) (omega arith) ∙ omega (arith, one)

  pub walk_touched : (held : List Held) (g : Gathered) → g.touched ≤ 2 ^ 64 - 1 → (walk reading held g).touched ≡ capped (g.touched + reads reading held)
  walk_touched [] g h = omega (arith, h)
  walk_touched (x ∷ held) g h = walk_touched held (with_batch (reading x) x g) (omega arith) ∙ omega arith

  run_one : (touched : Bool) (h : Held) (hs : List Held) (c : Caching)
      → after_run (asks_of hs) (if touched then after_ask h.no h.packed.content c else c) ≡ after_run (asks_of (cond touched (h ∷ hs) hs)) c
  run_one true h hs c = refl
  run_one false h hs c = refl

  pub walk_cache : (held : List Held) (g : Gathered) → (walk reading held g).cache ≡ after_run (asks_of (chosen held)) g.cache
  walk_cache [] g = refl
  walk_cache (x ∷ held) g = walk_cache held (with_batch (reading x) x g) ∙ run_one (reading x).touched x (chosen held) g.cache

  loads_one : (touched : Bool) (h : Held) (hs : List Held) (c : Caching)
      → decoded touched h c + loads_in (asks_of hs) (if touched then after_ask h.no h.packed.content c else c) ≡ loads_in (asks_of (cond touched (h ∷ hs) hs)) c
  loads_one true h hs c = refl
  loads_one false h hs c = omega arith

  pub walk_loads : (held : List Held) (g : Gathered) → g.loads ≤ 2 ^ 64 - 1 → (walk reading held g).loads ≡ capped (g.loads + loads_in (asks_of (chosen held)) g.cache)
  walk_loads [] g h = omega (arith, h)
  walk_loads (x ∷ held) g h =
      walk_loads held (with_batch (reading x) x g) (omega arith)
      ∙ omega (arith, loads_one (reading x).touched x (chosen held) g.cache)

  pub walk_counts : (held : List Held) (g : Gathered) → (walk reading held g).steps ≡ g.steps + loads_in (asks_of (chosen held)) g.cache
  walk_counts [] g = omega arith
  walk_counts (x ∷ held) g =
      walk_counts held (with_batch (reading x) x g) ∙ omega (arith, loads_one (reading x).touched x (chosen held) g.cache)

  reads_one : (touched : Bool) (h : Held) (hs : List Held) → length (cond touched (h ∷ hs) hs) ≡ one_of touched + length hs
  reads_one true h hs = omega arith
  reads_one false h hs = omega arith

  pub reads_are : (held : List Held) → reads reading held ≡ length (chosen held)
  reads_are [] = refl
  reads_are (x ∷ held) = omega (arith, reads_one (reading x).touched x (chosen held), reads_are held)

pub loads_few : (asks : List Kept) (c : Caching) → loads_in asks c ≤ length asks
loads_few [] c = omega arith
loads_few (a ∷ asks) c = omega (arith, loads_few asks (after_ask a.0 a.1 c), at_most_one 0 (is_some (kept_as a.0 c)))

pub run_append : (front back : List Kept) (c : Caching) → after_run (front ++ back) c ≡ after_run back (after_run front c)
run_append [] back c = refl
run_append (a ∷ front) back c = run_append front back (after_ask a.0 a.1 c)

pub loads_append : (front back : List Kept) (c : Caching) → loads_in (front ++ back) c ≡ loads_in front c + loads_in back (after_run front c)
loads_append [] back c = omega arith
loads_append (a ∷ front) back c = omega (arith, loads_append front back (after_ask a.0 a.1 c))
