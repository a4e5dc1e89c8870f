-- What was taken of a source, and why no more was.
use Rattle.std.specs.Prelude.{◌≡◌, ℕ, ◌+◌, ◌<◌, ◌≤◌, List, ◌++◌, length, Option, Result, Ok, Err, ⊤}
use Rattle.std.specs.Io.KnownBytes.{prepend_known}
use Rattle.std.specs.declared.alloc.AllocError.{AllocError}
use Rattle.vast_io.specs.Causes.{Rose}
use Rattle.vast_io.specs.Told.{IsAtEnd}
use Rattle.source_block.specs.Holding.{Hold, most_bytes}
use Rattle.source_block.specs.declared.stop.Stop.{Stop}
use Rattle.source_block.specs.declared.stop.Stop.TheVariants.{AtEnd, Failed, AtBound}
use Rattle.source_block.specs.declared.stop.Took.{Took}
use Rattle.source_block.specs.declared.stop.Took.TheVariants.{Enough, Stopped}

-- the bytes of the source that were taken stand behind those held
pub record Takes (old new : Hold) (before now : Option (List ℕ)) : Type 0 where
  pub took : List ℕ
  pub left : before ≡ prepend_known took now
  pub count : new.taken ≡ old.taken + length took
  pub held : new.bytes ≡ old.bytes ++ took

-- what a reason says of the source and of the number of bytes that were taken of it
abbrev pub Stops : Stop → Option (List ℕ) → ℕ → Type 0
Stops AtEnd now taken = IsAtEnd now × (taken < most_bytes)
Stops Failed now taken = ⊤
Stops AtBound now taken = taken ≡ most_bytes

-- some bytes were taken, or none for a reason
abbrev pub Tells : Result Took AllocError → Hold → Hold → Option (List ℕ) → Type 0
Tells (Ok Enough) old new now = old.taken < new.taken
Tells (Ok (Stopped stop)) old new now = (new.bytes ≡ old.bytes) × (new.taken ≡ old.taken) × Stops stop now new.taken
Tells (Err e) old new now = new ≡ old

-- so many bytes are held, or fewer for a reason or for want of memory
abbrev pub Fills : Result Took AllocError → ℕ → Hold → Option (List ℕ) → Type 0
Fills (Ok Enough) need new now = need ≤ length new.bytes
Fills (Ok (Stopped stop)) need new now = (length new.bytes < need) × Stops stop now new.taken
Fills (Err e) need new now = length new.bytes < need

-- the count of the source's faults rose exactly where a failed read is the reason
abbrev pub Counts : Result Took AllocError → ℕ → ℕ → Type 0
Counts (Ok (Stopped Failed)) before now = Rose before now
Counts _ before now = now ≡ before
