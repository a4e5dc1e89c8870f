-- What is found at the front of the bytes that were taken of a source.
use Rattle.std.specs.Prelude.{◌≡◌, ◌≢◌, ℕ, ◌+◌, ◌-◌, ◌<◌, ◌≤◌, List, Option, None, Some, Result, Ok, length, get_or, drop}
use Rattle.std.specs.declared.alloc.AllocError.{AllocError}
use Rattle.memchr.specs.Find.{IsFirstByte, is_byte}
use Rattle.vast_io.specs.Causes.{Rose}
use Rattle.source_block.specs.Holding.{Hold}
use Rattle.source_block.specs.Taking.{Stops}
use Rattle.source_block.specs.declared.stop.Stop.TheVariants as stop
use Rattle.zeek_log.specs.declared.finding.Found.{Found}
use Rattle.zeek_log.specs.declared.finding.Found.TheVariants.{Line, Long, Stopped}

-- The first newline of the bytes held, or that there is none: they are too many for a line, or no more bytes come.
abbrev pub Finds : Found → Hold → Option (List ℕ) → Type 0
Finds (Line n) hold now = IsFirstByte (is_byte 10) hold.bytes (Some n)
Finds Long hold now = IsFirstByte (is_byte 10) hold.bytes None × (1048576 < length hold.bytes)
Finds (Stopped why) hold now = IsFirstByte (is_byte 10) hold.bytes None × (length hold.bytes ≤ 1048576) × Stops why now hold.taken

-- the count of the source's faults rose exactly where a failed read is the reason
abbrev pub FindCounts : Result Found AllocError → ℕ → ℕ → Type 0
FindCounts (Ok (Stopped stop.Failed)) before now = Rose before now
FindCounts _ before now = now ≡ before

-- memory for the longest line and a block
abbrev pub most_kept : ℕ
most_kept = 1048576 + 65536

-- a line begins behind the first `at` bytes: there are none, or the last of them is a newline
abbrev pub IsLineStart : List ℕ → ℕ → Type 0
IsLineStart bytes at = (0 < at) → get_or bytes (at - 1) 0 ≡ 10

-- a data line stands behind the first `at` bytes, and its newline is there
pub record HoldsRow (bytes : List ℕ) : Type 0 where
  pub at : ℕ
  pub count : ℕ
  pub begins : IsLineStart bytes at
  pub ends : IsFirstByte (is_byte 10) (drop at bytes) (Some count)
  pub some : 0 < count
  pub no_head : get_or (drop at bytes) 0 0 ≢ 35
