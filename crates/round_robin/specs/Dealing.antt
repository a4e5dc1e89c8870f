-- Lists that are dealt out in turn.
use Rattle.std.specs.Prelude.{ℕ, zero, suc, ◌+◌, ◌%◌, ◌==◌, if◌then◌else◌, List, [], ◌∷◌}

-- what hand w of n gets of a list whose first member has the number k
abbrev pub dealt : {X : Type 0} → ℕ → ℕ → ℕ → List X → List X
dealt n w k [] = []
dealt n w k (x ∷ xs) = if k % n == w then x ∷ dealt n w (k + 1) xs else dealt n w (k + 1) xs

-- how many members hand w of n gets of so many, numbered from 0 on
abbrev pub share : ℕ → ℕ → ℕ → ℕ
share n w zero = 0
share n w (suc count) = if count % n == w then share n w count + 1 else share n w count
