-- Where the number of rows lies: behind the source, the path and the columns.
use Rattle.std.specs.Prelude.{ℕ, zero, suc, if◌then◌else◌, List, length, drop, Option, None, Some, nat_lt}
use Rattle.event_batch.specs.Reading.{◌>>=◌, byte_at, number_at}

-- the bytes behind a text
unfoldable pub behind_text : List ℕ → Option (List ℕ)
behind_text bytes = do
  n ← number_at 4 bytes
  if nat_lt (length n.1) n.0 then None else Some (drop n.0 n.1)

-- the bytes behind a column
unfoldable pub behind_field : List ℕ → Option (List ℕ)
behind_field bytes = do
  code ← byte_at bytes
  behind_text code.1

-- the bytes behind so many columns
unfoldable pub behind_fields : ℕ → List ℕ → Option (List ℕ)
behind_fields zero bytes = Some bytes
behind_fields (suc n) bytes = do
  rest ← behind_field bytes
  behind_fields n rest

unfoldable pub source_at : List ℕ → Option (ℕ × List ℕ)
source_at bytes = do
  format ← byte_at bytes
  number_at 4 format.1

unfoldable pub row_count_at : List ℕ → Option (ℕ × List ℕ)
row_count_at bytes = do
  source ← source_at bytes
  rest ← behind_text source.1
  n ← number_at 2 rest
  fields ← behind_fields n.0 n.1
  number_at 4 fields
