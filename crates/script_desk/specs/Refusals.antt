-- What comes back of a batch that was offered.
use Rattle.std.specs.Prelude.{◌≡◌, ℕ, Option, None, Some}
use Rattle.event_batch.specs.Contents.{Spelled}
use Rattle.event_history.specs.Steps as s
use Rattle.script_desk.specs.declared.desk.Refused.{Refused}

-- The batch comes back with what the store replied, exactly where it is full.
abbrev pub IsBack : Option Refused → Spelled → s.Reply → Type 0
IsBack None packed reply = (batch : ℕ) × ((first : ℕ) × (reply ≡ s.Accepted batch first))
IsBack (Some refused) packed reply = (refused.packed ≡ packed) × (reply ≡ s.Full refused.have refused.limit)
