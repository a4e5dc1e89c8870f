-- A list of keys, some missing, grown by gaps: what every index stands for. A row without a key is `None`.
use Rattle.std.specs.Prelude.{◌≡◌, ℕ, ◌-◌, get_or, Bool, false, List, [], ◌∷◌, ◌++◌, length, replicate, map, Option, None, Some}

-- the list with `none` up to `rows` rows
abbrev pub padded : {X : Type 0} → X → List X → ℕ → List X
padded none xs rows = xs ++ replicate (rows - length xs) none

-- the list with `x` at `row`, and `none` at the rows between
abbrev pub placed : {X : Type 0} → X → List X → ℕ → X → List X
placed none xs row x = padded none xs row ++ x ∷ []

-- keys with a gap up to `rows` rows
abbrev pub with_gap : {K : Type 0} → List (Option K) → ℕ → List (Option K)
with_gap keys rows = padded None keys rows

-- keys with one more at `row`, the rows between having none
abbrev pub with_key : {K : Type 0} → List (Option K) → ℕ → K → List (Option K)
with_key keys row key = placed None keys row (Some key)

-- whether a row has a key that meets the test
abbrev pub meets : {K : Type 0} → (K → Bool) → Option K → Bool
meets test None = false
meets test (Some key) = test key

-- the answer row by row, false at rows without a key
abbrev pub answers : {K : Type 0} → (K → Bool) → List (Option K) → List Bool
answers test keys = map (meets test) keys

-- each key that a row has meets the condition
abbrev pub EachKey : {K : Type 0} → (K → Type 0) → List (Option K) → Type 0
EachKey {K} meets_it keys = (row : ℕ) (key : K) → get_or keys row None ≡ Some key → meets_it key
