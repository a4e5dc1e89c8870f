-- The records of a capture file, said of the whole list of its bytes.
use Rattle.std.specs.Prelude.{◌≡◌, ◌≤◌, ◌++◌, Bool, true, false, Option, ℕ, zero, suc, ℤ, pos, ◌+◌, ◌*◌, nat_lt, if◌then◌else◌, List, [], ◌∷◌, length, take, drop, Result, Ok, Err}
use Rattle.std.specs.Io.KnownBytes.{prepend_known}
use Rattle.vast_io.specs.Causes.{Rose}
use Rattle.source_block.specs.Holding.{Hold}
use Rattle.source_block.specs.Taking.{Stops}
use Rattle.source_block.specs.declared.stop.Stop.{Stop}
use Rattle.source_block.specs.declared.stop.Stop.TheVariants.{AtEnd, Failed, AtBound}
use Rattle.pcap_file.specs.Heads.{number_at, head_of}
use Rattle.pcap_file.specs.declared.head.Fraction.{Fraction}
use Rattle.pcap_file.specs.declared.head.Fraction.TheVariants.{Micro, Nano}
use Rattle.pcap_file.specs.declared.head.FileHead.{FileHead}
use Rattle.pcap_file.specs.declared.record.Captured.{Captured}
use Rattle.pcap_file.specs.declared.end.PcapEnd.{PcapEnd}
use Rattle.pcap_file.specs.declared.end.PcapEnd.TheVariants.{Done, Fault, ReadFault, TooLong, Memory}
use Rattle.pcap_file.specs.declared.end.CaptureFault.{CaptureFault}
use Rattle.pcap_file.specs.declared.end.CaptureFault.TheVariants.{RecordTooLong, ShortHead, ShortRecord}

abbrev pub end_of : Stop → PcapEnd
end_of AtEnd = Done
end_of Failed = ReadFault
end_of AtBound = TooLong

-- what is cut off is a fault where all bytes are there
abbrev pub cut_off : Stop → ℕ → CaptureFault → PcapEnd
cut_off AtEnd offset what = Fault offset what
cut_off Failed offset what = ReadFault
cut_off AtBound offset what = TooLong

-- the time of a record, in nanoseconds
abbrev pub nanoseconds : Fraction → ℕ → ℕ → ℤ
nanoseconds Micro seconds part = pos (seconds * 1_000_000_000 + part * 1000)
nanoseconds Nano seconds part = pos (seconds * 1_000_000_000 + part)

-- how many bytes a record tells as captured, and how many it has with its head of 16
abbrev pub captured_of : FileHead → List ℕ → ℕ
captured_of head bytes = number_at head.magic.endian 4 8 bytes

abbrev pub size_of_record : FileHead → List ℕ → ℕ
size_of_record head bytes = 16 + captured_of head bytes

-- the record that the bytes begin with
abbrev pub record_of : FileHead → List ℕ → Captured
record_of head bytes = record {
  time = nanoseconds head.magic.fraction (number_at head.magic.endian 4 0 bytes) (number_at head.magic.endian 4 4 bytes);
  captured = captured_of head bytes;
  original = number_at head.magic.endian 4 12 bytes;
  link = head.link;
  bytes = take (captured_of head bytes) (drop 16 bytes);
}

-- the records of a capture, in order, and its end
pub record Answers : Type 0 where
  pub records : List Captured
  pub last : PcapEnd

abbrev pub ended : PcapEnd → Answers
ended e = record { records = []; last = e }

abbrev pub first : Captured → Answers → Answers
first r answers = record { records = r ∷ answers.records; last = answers.last }

-- the records of the bytes from a record's start on, which is at this offset; there are at most so many
unfoldable pub records_within : ℕ → FileHead → ℕ → List ℕ → Stop → Answers
records_within zero head offset bytes stop = ended (end_of stop)
records_within (suc most) head offset bytes stop =
    if nat_lt (length bytes) 1 then ended (end_of stop)
    else (if nat_lt (length bytes) 16 then ended (cut_off stop offset ShortRecord)
    else (if nat_lt 262144 (captured_of head bytes) then ended (Fault offset RecordTooLong)
    else (if nat_lt (length bytes) (size_of_record head bytes) then ended (cut_off stop offset ShortRecord)
    else first (record_of head bytes)
    (records_within most head (offset + size_of_record head bytes) (drop (size_of_record head bytes) bytes) stop))))

-- a list of bytes has no more records than bytes
unfoldable pub records_from : FileHead → ℕ → List ℕ → Stop → Answers
records_from head offset bytes stop = records_within (length bytes) head offset bytes stop

-- the records behind a file head, or its fault
abbrev pub records_behind : Result FileHead PcapEnd → List ℕ → Stop → Answers
records_behind (Err e) bytes stop = ended e
records_behind (Ok head) bytes stop = records_from head 24 (drop 24 bytes) stop

-- the records of a capture file, after which no more bytes come for the reason given
unfoldable pub records : List ℕ → Stop → Answers
records bytes stop =
    if nat_lt (length bytes) 24 then ended (cut_off stop (length bytes) ShortHead)
    else records_behind (head_of bytes) bytes stop

-- by the bytes that were taken and the reason why no more were, all that is still to come is this end
abbrev pub EndsBy : Stop → (List ℕ → Stop → Answers) → List ℕ → Option (List ℕ) → ℕ → PcapEnd → Type 0
EndsBy stop come new now taken e = (come new stop ≡ ended e) × Stops stop now taken

-- All that is still to come is this end: `new` are the bytes that were taken from here on, `now` those that the source has
-- left, and `taken` is how many were taken in all. A fault of a head or of a record's length stands whatever bytes follow.
abbrev pub Ends : (List ℕ → Stop → Answers) → List ℕ → Option (List ℕ) → ℕ → PcapEnd → Type 0
Ends come new now taken Done = EndsBy AtEnd come new now taken Done
Ends come new now taken (Fault at ShortHead) = EndsBy AtEnd come new now taken (Fault at ShortHead)
Ends come new now taken (Fault at ShortRecord) = EndsBy AtEnd come new now taken (Fault at ShortRecord)
Ends come new now taken (Fault at what) = (more : List ℕ) (stop : Stop) → come (new ++ more) stop ≡ ended (Fault at what)
Ends come new now taken ReadFault = EndsBy Failed come new now taken ReadFault
Ends come new now taken TooLong = EndsBy AtBound come new now taken TooLong
Ends come new now taken Memory = Unit {0}

-- the source's count of faults rose exactly where a read failed
abbrev pub CountsBy : {X : Type 0} → Result X PcapEnd → ℕ → ℕ → Type 0
CountsBy (Err ReadFault) before now = Rose before now
CountsBy _ before now = now ≡ before

-- the bytes held begin with a whole record of this size
pub record IsWhole (head : FileHead) (size : ℕ) (new : List ℕ) : Type 0 where
  pub size_is : size ≡ size_of_record head new
  pub within : size ≤ length new
  pub short : captured_of head new ≤ 262144

-- why the bytes of a record didn't all come, where none or some did
abbrev pub end_after : Stop → Bool → ℕ → PcapEnd
end_after stop true offset = end_of stop
end_after stop false offset = cut_off stop offset ShortRecord

-- by the bytes held and those to come, a record is the first of what is still to come, and leaves the rest
pub record StepsTo (come rest : List ℕ → Stop → Answers) (old new : Hold) (before now : Option (List ℕ)) (r : Captured) : Type 0 where
  pub took : List ℕ
  pub left : before ≡ prepend_known took now
  pub count : new.taken ≡ old.taken + length took
  pub is : (more : List ℕ) (stop : Stop) → come (old.bytes ++ (took ++ more)) stop ≡ first r (rest (new.bytes ++ more) stop)

-- and so is an end
pub record ClosesAs (come : List ℕ → Stop → Answers) (old new : Hold) (before now : Option (List ℕ)) (e : PcapEnd) : Type 0 where
  pub took : List ℕ
  pub left : before ≡ prepend_known took now
  pub count : new.taken ≡ old.taken + length took
  pub is : Ends come (old.bytes ++ took) now new.taken e
