-- The form of an input, told by its first bytes.
use Rattle.std.specs.Prelude.{◌≡◌, ℕ, ◌&&◌, ◌||◌, Bool, true, false, if◌then◌else◌, List, [], ◌∷◌, Option, None, Some, Result, Ok, Err, length, nat_eq, nat_lt, ⊤}
use Rattle.std.specs.List.{starts_with}
use Rattle.std.specs.Str.{bytes_eq}
use Rattle.std.specs.declared.alloc.AllocError.{AllocError}
use Rattle.source_block.specs.declared.stop.Stop.{Stop}
use Rattle.source_block.specs.declared.stop.Stop.TheVariants.{AtEnd, Failed, AtBound}
use Rattle.source_block.specs.declared.stop.Took.{Took}
use Rattle.source_block.specs.declared.stop.Took.TheVariants.{Enough, Stopped}
use Rattle.source_block.specs.Holding.{Hold}
use Rattle.source_block.specs.Taking.{Stops}
use Rattle.vast_value.specs.Layouts.{is_empty}
use Rattle.zeek_log.specs.declared.fault.ZeekFault.TheVariants.{NoHead}
use Rattle.importer.specs.declared.ends.FormFault.TheVariants.{Compressed, Pcapng}
use Rattle.importer.specs.declared.ends.ImportEnd.{ImportEnd}
use Rattle.importer.specs.declared.ends.ImportEnd.TheVariants.{Fault, ReadFault, TooLong}
use Rattle.importer.specs.declared.ends.InputFault.TheVariants.{Line}
use Rattle.importer.specs.declared.form.Form.{Form}
use Rattle.importer.specs.declared.form.Form.TheVariants.{Log, Capture, Refused}

-- the first bytes of a file of gzip, of a pcapng file, and of a capture: two magics, each in two byte orders

abbrev pub gzip : List ℕ
gzip = 0x1f ∷ 0x8b ∷ []

abbrev pub pcapng : List ℕ
pcapng = 0x0a ∷ 0x0d ∷ 0x0d ∷ 0x0a ∷ []

abbrev pub micro_big : List ℕ
micro_big = 0xa1 ∷ 0xb2 ∷ 0xc3 ∷ 0xd4 ∷ []

abbrev pub micro_little : List ℕ
micro_little = 0xd4 ∷ 0xc3 ∷ 0xb2 ∷ 0xa1 ∷ []

abbrev pub nano_big : List ℕ
nano_big = 0xa1 ∷ 0xb2 ∷ 0x3c ∷ 0x4d ∷ []

abbrev pub nano_little : List ℕ
nano_little = 0x4d ∷ 0x3c ∷ 0xb2 ∷ 0xa1 ∷ []

abbrev pub begins_with : List ℕ → List ℕ → Bool
begins_with bytes magic = starts_with nat_eq bytes magic

abbrev pub is_capture : List ℕ → Bool
is_capture bytes = begins_with bytes micro_big || begins_with bytes micro_little || begins_with bytes nano_big || begins_with bytes nano_little

-- all that begins otherwise is a log, also fewer bytes
abbrev pub form_of : List ℕ → Form
form_of bytes =
    if begins_with bytes gzip then Refused Compressed
    else (if begins_with bytes pcapng then Refused Pcapng
    else (if is_capture bytes then Capture else Log))

-- Where an input is read: when its form is told.

-- bytes behind these may still make this beginning
abbrev pub may_become : List ℕ → List ℕ → Bool
may_become bytes magic = nat_lt (length bytes) (length magic) && starts_with nat_eq magic bytes

-- and so another form than theirs
abbrev pub is_start : List ℕ → Bool
is_start bytes =
    may_become bytes gzip || may_become bytes pcapng || may_become bytes micro_big || may_become bytes micro_little
    || may_become bytes nano_big || may_become bytes nano_little

-- bytes were taken that tell the form, or no more come for a reason
abbrev pub Decides : Result Took AllocError → Hold → Option (List ℕ) → Type 0
Decides (Ok Enough) new now = is_start new.bytes ≡ false
Decides (Ok (Stopped stop)) new now = (is_start new.bytes ≡ true) × Stops stop now new.taken
Decides (Err e) new now = ⊤

-- how a log ends whose few bytes may still become another form
abbrev pub end_of_few : List ℕ → Option ImportEnd
end_of_few bytes =
    if is_empty bytes || bytes_eq bytes (10 ∷ []) then None
    else Some (Fault (Line (if begins_with bytes (10 ∷ []) then 2 else 1) 0 NoHead))

abbrev pub end_of_start : Stop → List ℕ → Option ImportEnd
end_of_start AtEnd bytes = end_of_few bytes
end_of_start Failed bytes = Some ReadFault
end_of_start AtBound bytes = Some TooLong
