-- What a reader of the program answers, beside what reading gives.
use Rattle.std.specs.Prelude.{◌≡◌, Option, None, Some, Result, Ok, Err}
use Rattle.vast_value.specs.Headings.{heading_of}
use Rattle.event_batch.specs.declared.packed_end.PackedEnd.{PackedEnd}
use Rattle.event_batch.specs.declared.packed_end.PackedEnd.TheVariants.{NotABatch, Memory}
use Rattle.event_batch.specs.declared.reading.Parts.{Parts}
use Rattle.event_batch.specs.Contents.{Spelled}

abbrev pub said_by : Parts → Spelled
said_by p = record { format = p.format; content = record { source = p.source; heading = heading_of p.layout; rows = p.rows } }

abbrev pub Fails : {Y : Type 0} → PackedEnd → Option Y → Type 0
Fails Memory read = Unit {0}
Fails NotABatch read = read ≡ None

-- What a function returned, seen by view, is what reading gives, unless memory ran out.
abbrev pub Gives : {X Y : Type 0} → (X → Y) → Result X PackedEnd → Option Y → Type 0
Gives view (Ok x) read = read ≡ Some (view x)
Gives view (Err e) read = Fails e read
