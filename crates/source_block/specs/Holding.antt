-- What a reader holds of its source.
use Rattle.std.specs.Prelude.{ℕ, ◌^◌, List, length, take, drop}

-- the bytes that were taken and not let go yet, how many were taken in all, and how many bytes of memory are kept for them
pub record Hold : Type 0 where
  pub bytes : List ℕ
  pub taken : ℕ
  pub kept : ℕ

-- what is held are the bytes of the memory between two places
abbrev pub hold : List ℕ → ℕ → ℕ → ℕ → Hold
hold memory start end taken = record { bytes = drop start (take end memory); taken = taken; kept = length memory }

-- no more bytes than these are taken of a source
abbrev pub most_bytes : ℕ
most_bytes = 2 ^ 36
