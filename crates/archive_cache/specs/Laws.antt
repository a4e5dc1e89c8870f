-- What a cache keeps of a run of asks.
use Rattle.std.specs.Prelude.{◌≡◌, ℕ, not, List, [], ◌∷◌, filter, take, nat_eq}
use Rattle.archive_cache.specs.Caches.{Kept, Caching, after_ask}

-- a new cache after asks for these batches, the latest in front
abbrev pub after_asks : ℕ → List Kept → Caching
after_asks size [] = record { size = size; entries = [] }
after_asks size (ask ∷ before) = after_ask ask.0 ask.1 (after_asks size before)

-- those of other batches
abbrev pub others : ℕ → List Kept → List Kept
others number asks = filter (λ ask. not (nat_eq number ask.0)) asks

-- of each batch the latest ask
abbrev pub latest : List Kept → List Kept
latest [] = []
latest (ask ∷ before) = ask ∷ others ask.0 (latest before)

-- A cache keeps the batches that were asked for last, as many as its size.
abbrev pub KeepsTheLatest : ℕ → List Kept → Type 0
KeepsTheLatest size asks = after_asks size asks ≡ record { size = size; entries = take size (latest asks) }
