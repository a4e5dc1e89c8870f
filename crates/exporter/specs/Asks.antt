-- Asks of a cache, one after another.
use Rattle.std.specs.Prelude.{◌≡◌, ◌⊎◌, ℕ, ◌+◌, ◌≤◌, true, List, [], ◌∷◌, ◌++◌, Some, All, Contains, map, length, count_by, is_none, is_some}
use Rattle.event_batch.specs.Contents.{Content}
use Rattle.event_history.specs.Pieces.{Held}
use Rattle.archive_cache.specs.Caches.{Agrees, Caching, Kept, after_ask, decodings, kept_as}

-- the number and the content of each batch, the first ask in front
abbrev pub asks_of : List Held → List Kept
asks_of held = map (λ h. (h.no, h.packed.content)) held

-- the cache after these asks
abbrev pub after_run : List Kept → Caching → Caching
after_run [] cache = cache
after_run (ask ∷ asks) cache = after_run asks (after_ask ask.0 ask.1 cache)

-- how many of them find their batch not kept
abbrev pub loads_in : List Kept → Caching → ℕ
loads_in [] cache = 0
loads_in (ask ∷ asks) cache = decodings ask.0 cache + loads_in asks (after_ask ask.0 ask.1 cache)

-- what is kept under the number of each batch, if anything, is that batch
abbrev pub AgreesWith : List Held → Caching → Type 0
AgreesWith held cache = All (λ h. Agrees h.no h.packed.content cache) held

-- what is kept was kept before, or is one of these batches, under its number
abbrev pub KeepsOnly : List Held → Caching → Caching → Type 0
KeepsOnly held old new =
    (number : ℕ) (content : Content) → kept_as number new ≡ Some content
    → (kept_as number old ≡ Some content) ⊎ Contains (asks_of held) (number, content)

-- how many batches are kept or asked for, all together
abbrev pub together : List Kept → Caching → ℕ
together asks cache = length cache.entries + count_by (λ ask. is_none (kept_as ask.0 cache)) asks

-- Where the batches that are kept and those asked for are together no more than the size, none that is kept is decoded.
abbrev pub KeptAreNotLoaded : List Kept → Caching → Type 0
KeptAreNotLoaded asks cache =
    together asks cache ≤ cache.size
    → (front back : List Kept) (ask : Kept) → asks ≡ front ++ ask ∷ back
    → is_some (kept_as ask.0 cache) ≡ true → decodings ask.0 (after_run front cache) ≡ 0
