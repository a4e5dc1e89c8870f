-- The places of bytes in a text, and what stands between them.
use Rattle.std.specs.Prelude.{◌⊎◌, ◌≡◌, ◌<◌, ◌≤◌, ◌++◌, length, ℕ, zero, suc, ◌+◌, ◌-◌, ◌/◌, ◌%◌, ◌==◌, Bool, if◌then◌else◌, List, [], ◌∷◌, take, drop}
use Rattle.std.specs.List.{position_or_len}

-- the places of the bytes that pass, the first byte being at so much
abbrev pub places_of : (ℕ → Bool) → ℕ → List ℕ → List ℕ
places_of passes at [] = []
places_of passes at (b ∷ bs) =
    if passes b then at ∷ places_of passes (at + 1) bs else places_of passes (at + 1) bs

-- the places of the bits of a mask that are set, among so many bits, the lowest being at so much
unfoldable pub ones_of : ℕ → ℕ → ℕ → List ℕ
ones_of zero at marks = []
ones_of (suc more) at marks =
    if marks % 2 == 1 then at ∷ ones_of more (at + 1) (marks / 2) else ones_of more (at + 1) (marks / 2)

-- a text cut at places, from so much on: what stands before each, and behind the last
abbrev pub cut_at : List ℕ → ℕ → List ℕ → List (List ℕ)
cut_at [] from text = drop from text ∷ []
cut_at (to ∷ more) from text = take (to - from) (drop from text) ∷ cut_at more (to + 1) text

abbrev pub is_newline : ℕ → Bool
is_newline b = b == 10

-- The first places are those of the separators before the first newline, and that newline's.
pub record CutsLine (separator : ℕ) (text places : List ℕ) (count : ℕ) : Type 0 where
  pub within : count ≤ length places
  pub newline : position_or_len is_newline text < length text
  pub are : take count places ≡ places_of (λ b. b == separator) 0 (take (position_or_len is_newline text) text) ++ position_or_len is_newline text ∷ []

-- So many places are too few for the separators before the first newline and for it, or that newline is none or stands
-- among the last 31 bytes.
abbrev pub IsShort : ℕ → List ℕ → ℕ → Type 0
IsShort separator text room =
    (room < length (places_of (λ b. b == separator) 0 (take (position_or_len is_newline text) text)) + 1) ⊎ (length text < position_or_len is_newline text + 32)
