-- The lines of a text.
use Rattle.std.specs.Prelude.{ℕ, Bool, ◌==◌, if◌then◌else◌, List, [], ◌∷◌, length, nat_lt}
use Rattle.std.specs.List.{slice_split}
use Rattle.source_block.specs.declared.stop.Stop.{Stop}
use Rattle.source_block.specs.declared.stop.Stop.TheVariants.{AtEnd, Failed, AtBound}

abbrev pub is_newline : ℕ → Bool
is_newline b = b == 10

-- a line of more than 1,048,576 bytes, its newline not counted
abbrev pub is_too_long : List ℕ → Bool
is_too_long line = nat_lt 1048576 (length line)

-- What stands behind the last newline is a line where all bytes are there. Else more of it may be to come, and it is a
-- line only where it is already too long.
abbrev pub last_line : Stop → List ℕ → List (List ℕ)
last_line AtEnd line = line ∷ []
last_line Failed line = if is_too_long line then line ∷ [] else []
last_line AtBound line = if is_too_long line then line ∷ [] else []

abbrev pub kept_lines : Stop → List (List ℕ) → List (List ℕ)
kept_lines stop [] = []
kept_lines stop (line ∷ []) = last_line stop line
kept_lines stop (line ∷ (next ∷ more)) = line ∷ kept_lines stop (next ∷ more)

-- A newline ends a line, and the last line may lack it.
abbrev pub lines_of : Stop → List ℕ → List (List ℕ)
lines_of stop text = kept_lines stop (slice_split is_newline text)

-- a text split at each separator: one piece more than there are separators
abbrev pub pieces_of : ℕ → List ℕ → List (List ℕ)
pieces_of separator text = slice_split (λ b. b == separator) text
