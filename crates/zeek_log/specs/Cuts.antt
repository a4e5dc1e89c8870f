-- Texts cut at a byte.
use Rattle.std.specs.Prelude.{◌≡◌, ◌≤◌, ◌==◌, ℕ, ◌+◌, Bool, false, List, [], ◌∷◌, Option, None, Some, length}
use Rattle.std.specs.List.{list_any}
use Rattle.zeek_log.specs.Lines.{pieces_of}

-- the pieces of what follows a separator, or none where no separator is left
abbrev pub pieces_left : ℕ → Option (List ℕ) → List (List ℕ)
pieces_left separator None = []
pieces_left separator (Some rest) = pieces_of separator rest

-- the length of what follows, with one for its separator
abbrev pub length_left : Option (List ℕ) → ℕ
length_left None = 0
length_left (Some rest) = length rest + 1

-- a backslash is among the bytes
abbrev pub has_backslash : List ℕ → Bool
has_backslash text = list_any (λ b. b == 92) text

-- a backslash is among what follows
abbrev pub has_backslash_left : Option (List ℕ) → Bool
has_backslash_left None = false
has_backslash_left (Some rest) = has_backslash rest

-- the first piece of a text, and what follows its separator
pub record SplitsPiece (separator : ℕ) (text piece : List ℕ) (rest : Option (List ℕ)) : Type 0 where
  pub pieces : pieces_of separator text ≡ piece ∷ pieces_left separator rest
  pub shorter : length_left rest ≤ length text
  pub within : length piece ≤ length text
  pub plain : has_backslash text ≡ false → has_backslash piece ≡ false
  pub plain_left : has_backslash text ≡ false → has_backslash_left rest ≡ false
