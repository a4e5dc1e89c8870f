-- Bytes that spell a batch, and what they say.
use Rattle.std.specs.Prelude.{◌≡◌, ℕ, List, [], Some, true, unwrap_or}
use Rattle.event_batch.specs.declared.format.Format.TheVariants.{Second}
use Rattle.event_batch.specs.Contents.{Spelled, is_spellable}
use Rattle.event_batch.specs.Spelling.{spelling}
use Rattle.event_batch.specs.Reading.{content_at}

abbrev nothing : Spelled
nothing = record { format = Second; content = record { source = 0; heading = record { path = []; fields = [] }; rows = [] } }

-- what the bytes say, where they spell a batch
unfoldable pub said_in : List ℕ → Spelled
said_in bytes = unwrap_or (content_at bytes) nothing

-- the bytes are the spelling of a batch's content, by which they are read
pub record IsSpelled (bytes : List ℕ) : Type 0 where
  pub spelled : bytes ≡ spelling (said_in bytes)
  pub spellable : is_spellable (said_in bytes) ≡ true
  pub read : content_at bytes ≡ Some (said_in bytes)
