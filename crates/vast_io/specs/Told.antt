-- What an object of the outside has left or has got, where it tells that. An object that tells nothing has `None`, before
-- and after each call alike.
use Rattle.std.specs.Prelude.{◌≡◌, ℕ, ◌≤◌, List, [], Option, Result, MatchResult, IfSome, length, take}
use Rattle.std.specs.Io.KnownBytes.{prepend_known, append_known}

-- the first n bytes of what was left went into the buffer, or nothing was taken
abbrev pub Reads : {E : Type 0} → Option (List ℕ) → Option (List ℕ) → List ℕ → Result ℕ E → Type 0
Reads before now into result = MatchResult result (λ n. before ≡ prepend_known (take n into) now) (λ _. now ≡ before)

-- the first n bytes of the piece stand behind what was written, or nothing does
abbrev pub Writes : {E : Type 0} → Option (List ℕ) → Option (List ℕ) → List ℕ → Result ℕ E → Type 0
Writes before now piece result = MatchResult result (λ n. now ≡ append_known before (take n piece)) (λ _. now ≡ before)

-- no bytes are left
abbrev pub IsAtEnd : Option (List ℕ) → Type 0
IsAtEnd left = IfSome left (λ bytes. bytes ≡ [])

-- the first bytes of a text were written, and nothing else
pub record WritesPart (before now : Option (List ℕ)) (text : List ℕ) : Type 0 where
  pub count : ℕ
  pub within : count ≤ length text
  pub is : now ≡ append_known before (take count text)
