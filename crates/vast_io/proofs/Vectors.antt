-- Values that the definitions have, computed by the prover, and what they say in other words. Each is false where its
-- definition is wrong.
use Rattle.std.proofs.Common.{◌≡◌, ℕ, ◌-◌, ◌^◌, ◌<◌, true, false, List, [], ◌∷◌, ◌++◌, Some, Ok, Err, take, refl, arith, lit≤}
use Rattle.vast_io.specs.declared.outside.Failed.{Failed}
use Rattle.vast_io.specs.Causes.{Rose, HasCause}
use Rattle.vast_io.specs.Told.{Reads, Writes, IsAtEnd, WritesPart}
use Rattle.vast_io.specs.Memory.{Intake, fails_at, next_number, refuses, taken_count, faults_after}

-- a count that rose is a greater one, unless it was the last of its type
rose_is_more : (before now : ℕ) → before < 2 ^ 64 - 1 → Rose before now → before < now
rose_is_more before now low rose = omega arith

rose_at_the_end : Rose (2 ^ 64 - 1) (2 ^ 64 - 1)
rose_at_the_end = lit≤ tt

-- an answer leaves the count, and a failure raises it
kept_where_it_answered : (before now n : ℕ) → HasCause {E = Failed} before now (Ok n) → now ≡ before
kept_where_it_answered before now n cause = cause.kept

risen_where_it_failed : (before now : ℕ) (e : Failed) → HasCause {T = ℕ} before now (Err e) → Rose before now
risen_where_it_failed before now e cause = cause.failed

-- two bytes read are the first two that were left; a failed read leaves all
two_read : Reads {E = Failed} (Some (1 ∷ 2 ∷ 3 ∷ [])) (Some (3 ∷ [])) (1 ∷ 2 ∷ 9 ∷ []) (Ok 2)
two_read = refl

one_written : Writes {E = Failed} (Some (1 ∷ [])) (Some (1 ∷ 2 ∷ [])) (2 ∷ 3 ∷ []) (Ok 1)
one_written = refl

-- the first call fails alone; no room, a piece of none, and an empty text
calls : (fails_at (0 ∷ []) 0 ∷ fails_at (0 ∷ []) 1 ∷ []) ≡ (true ∷ false ∷ [])
calls = refl

abbrev sink : ℕ → ℕ → Intake
sink room piece = record { written = 1 ∷ []; room = room; piece = piece; fails = []; calls = 0; faults = 0 }

refusals : (refuses (sink 1 4) (7 ∷ []) ∷ refuses (sink 2 0) (7 ∷ []) ∷ refuses (sink 2 4) (7 ∷ []) ∷ refuses (sink 1 0) [] ∷ []) ≡ (true ∷ true ∷ false ∷ false ∷ [])
refusals = refl

takings : (taken_count (sink 9 4) 6 ∷ taken_count (sink 3 4) 6 ∷ taken_count (sink 9 4) 2 ∷ []) ≡ (4 ∷ 2 ∷ 2 ∷ [])
takings = refl

counts : (next_number 0 ∷ next_number 18446744073709551615 ∷ faults_after 3 true ∷ faults_after 3 false ∷ []) ≡ (1 ∷ 18446744073709551615 ∷ 4 ∷ 3 ∷ [])
counts = refl

some_is : (a b : List ℕ) → Some a ≡ Some b → a ≡ b
some_is a b e = cc

-- at the end nothing is left
at_end_is_nothing : (bytes : List ℕ) → IsAtEnd (Some bytes) → bytes ≡ []
at_end_is_nothing bytes end = end

-- a part of a text is one of its fronts behind what was written before
part_is_a_front : (before now text : List ℕ) → WritesPart (Some before) (Some now) text → (count : ℕ) × (now ≡ before ++ take count text)
part_is_a_front before now text part = (part.count, some_is now (before ++ take part.count text) part.is)
