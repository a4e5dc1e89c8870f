-- How a text goes through a buffer.
use Rattle.std.specs.Prelude.{◌≡◌, ℕ, List, ◌++◌, Option}
use Rattle.std.specs.Io.KnownBytes.{append_known}

-- the first part of what a buffer held was written, and the rest is held
pub record Sends (held left : List ℕ) (before now : Option (List ℕ)) : Type 0 where
  pub sent : List ℕ
  pub split : held ≡ sent ++ left
  pub is : now ≡ append_known before sent
