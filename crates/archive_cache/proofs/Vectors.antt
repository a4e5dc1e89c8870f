-- Asks, computed by the prover. Each fact is false where its definition is wrong.
use Rattle.std.proofs.Common.{◌≡◌, ℕ, ◌+◌, ◌≤◌, true, false, List, [], ◌∷◌, map, refl, ap, arith}
use Rattle.std.specs.List.{IsDistinct}
use Rattle.event_batch.specs.Contents.{Content}
use Rattle.archive_cache.specs.Caches.{Kept, Caching, IsCache, Agrees, after_ask, decodings}
use Rattle.archive_cache.specs.Laws.{after_asks, others, latest}

-- the content of the batch with this number
abbrev content : ℕ → Content
content number = record { source = number; heading = record { path = []; fields = [] }; rows = [] }

abbrev batches : List ℕ → List Kept
batches numbers = map (λ n. (n, content n)) numbers

-- a cache that holds the batches of these numbers, the one asked for last in front
abbrev holds : ℕ → List ℕ → Caching
holds size numbers = record { size = size; entries = batches numbers }

abbrev asked : ℕ → Caching → Caching
asked number cache = after_ask number (content number) cache

-- the first batch, and a second one in a cache of one and of two
first_ask : asked 0 (holds 2 []) ≡ holds 2 (0 ∷ [])
first_ask = refl

full_of_one : asked 1 (holds 1 (0 ∷ [])) ≡ holds 1 (1 ∷ [])
full_of_one = refl

not_full : asked 1 (holds 2 (0 ∷ [])) ≡ holds 2 (1 ∷ 0 ∷ [])
not_full = refl

-- the oldest goes
oldest_goes : asked 2 (holds 2 (1 ∷ 0 ∷ [])) ≡ holds 2 (2 ∷ 1 ∷ [])
oldest_goes = refl

-- a kept batch moves to the front, and none goes
moved_from_the_end : asked 0 (holds 2 (1 ∷ 0 ∷ [])) ≡ holds 2 (0 ∷ 1 ∷ [])
moved_from_the_end = refl

moved_from_between : asked 5 (holds 3 (4 ∷ 5 ∷ 6 ∷ [])) ≡ holds 3 (5 ∷ 4 ∷ 6 ∷ [])
moved_from_between = refl

stays_in_front : asked 4 (holds 3 (4 ∷ 5 ∷ 6 ∷ [])) ≡ holds 3 (4 ∷ 5 ∷ 6 ∷ [])
stays_in_front = refl

-- a kept batch is not decoded, and another is
kept_is_free : decodings 0 (holds 2 (1 ∷ 0 ∷ [])) ≡ 0
kept_is_free = refl

other_counts : decodings 2 (holds 2 (1 ∷ 0 ∷ [])) ≡ 1
other_counts = refl

-- what is kept under a number agrees with its content alone, and anything where nothing is kept
agrees_with_itself : Agrees 0 (content 0) (holds 2 (1 ∷ 0 ∷ []))
agrees_with_itself = refl

other_content_disagrees : ¬ Agrees 0 (content 1) (holds 2 (1 ∷ 0 ∷ []))
other_content_disagrees e = let sources : 0 ≡ 1 = ap (λ (c : Content). c.source) e in omega (arith, sources)

nothing_kept_agrees : Agrees 2 (content 0) (holds 2 (1 ∷ 0 ∷ []))
nothing_kept_agrees = tt

-- as many batches as the size, each once
full_cache : IsCache (holds 2 (1 ∷ 0 ∷ []))
unfolding IsDistinct
full_cache = record { once = ((refl, tt), (tt, tt)); bounded = omega arith; some = omega arith }

too_many : ¬ IsCache (holds 1 (1 ∷ 0 ∷ []))
too_many c = let bounded : 2 ≤ 1 = c.bounded in omega (arith, bounded)

no_size : ¬ IsCache (holds 0 [])
no_size c = let some : 1 ≤ 0 = c.some in omega (arith, some)

kept_twice : ¬ IsCache (holds 2 (1 ∷ 1 ∷ []))
unfolding IsDistinct
kept_twice c = let same : true ≡ false = c.once.0.0 in cc

-- asks for the batches 0, 1, 0, 2 and 1, the latest in front
abbrev asks : List ℕ
asks = 1 ∷ 2 ∷ 0 ∷ 1 ∷ 0 ∷ []

abbrev steps : ℕ → List ℕ → ℕ
steps size [] = 0
steps size (n ∷ before) = steps size before + decodings n (after_asks size (batches before))

two_are_kept : after_asks 2 (batches asks) ≡ holds 2 (1 ∷ 2 ∷ [])
two_are_kept = refl

four_steps : steps 2 asks ≡ 4
four_steps = refl

three_steps : steps 3 asks ≡ 3
three_steps = refl

other_asks : others 1 (batches asks) ≡ batches (2 ∷ 0 ∷ 0 ∷ [])
other_asks = refl

latest_asks : latest (batches asks) ≡ batches (1 ∷ 2 ∷ 0 ∷ [])
latest_asks = refl

-- the latest content counts
content_of_the_latest_ask : latest ((0, content 1) ∷ (0, content 2) ∷ []) ≡ (0, content 1) ∷ []
content_of_the_latest_ask = refl
