-- What contracts see of a reader, and what is still to come from it.
use Rattle.std.specs.Prelude.{◌≡◌, ℕ, ◌+◌, ◌*◌, ◌≤◌, Bool, true, false, List, ◌++◌, Option, Result, Ok, Err, length}
use Rattle.std.specs.Io.KnownBytes.{prepend_known}
use Rattle.source_block.specs.declared.stop.Stop.{Stop}
use Rattle.pcap_file.specs.Heads.{has_head}
use Rattle.pcap_file.specs.Records.{Answers, ended, first, records, records_from, size_of_record, Ends, IsWhole, CountsBy}
use Rattle.pcap_file.specs.declared.reader.Phase.{Phase}
use Rattle.pcap_file.specs.declared.reader.Phase.TheVariants.{Start, Records, Ended}
use Rattle.pcap_file.specs.declared.record.Captured.{Captured}
use Rattle.pcap_file.specs.declared.end.PcapEnd.{PcapEnd}

-- how far the reader is, the bytes that it took and that belong to no record given, how many it took in all, how many bytes
-- of memory it keeps for them, and how many records it gave
pub record Reading : Type 0 where
  pub phase : Phase
  pub held : List ℕ
  pub taken : ℕ
  pub kept : ℕ
  pub given : ℕ

-- what is still to come by the bytes held and those that come behind them
abbrev pub come_from : Phase → List ℕ → Stop → Answers
come_from Start bytes stop = records bytes stop
come_from (Records head offset) bytes stop = records_from head offset bytes stop
come_from (Ended e headed) bytes stop = ended e

-- a whole record is among the bytes held
abbrev pub HoldsWhole : Phase → List ℕ → Type 0
HoldsWhole (Records head offset) held = IsWhole head (size_of_record head held) held
HoldsWhole _ held = ⊥

abbrev pub HoldsRecord : Reading → Type 0
HoldsRecord r = HoldsWhole r.phase r.held

-- what is still to come of a reader by the bytes that its source still gives, after which no more come for the reason
abbrev pub to_come : Reading → List ℕ → Stop → Answers
to_come r bytes stop = come_from r.phase (r.held ++ bytes) stop

-- the file head was read, and has no fault
abbrev pub is_headed : Phase → Bool
is_headed Start = false
is_headed (Records head offset) = true
is_headed (Ended e headed) = headed

-- records may come
abbrev pub is_open : Phase → Bool
is_open (Ended e headed) = false
is_open _ = true

-- and so it is once these bytes are there: at the start they have to begin with such a head
abbrev pub headed_by : Phase → List ℕ → Bool
headed_by Start bytes = has_head bytes
headed_by (Records head offset) bytes = true
headed_by (Ended e headed) bytes = headed

-- a record is the first of what is still to come, and leaves the rest; it stands behind a file head
pub record Gives (old new : Reading) (before now : Option (List ℕ)) (r : Captured) : Type 0 where
  pub took : List ℕ
  pub left : before ≡ prepend_known took now
  pub total : new.taken ≡ old.taken + length took
  pub is : (more : List ℕ) (stop : Stop) → to_come old (took ++ more) stop ≡ first r (to_come new more stop)
  pub count : new.given ≡ old.given + 1
  pub head : headed_by old.phase (old.held ++ took) ≡ true
  pub headed : is_headed new.phase ≡ true
  pub opens : is_open new.phase ≡ true

-- all that is still to come is this end, which stays; the file head was read exactly where the bytes begin with one
pub record Closes (old new : Reading) (before now : Option (List ℕ)) (e : PcapEnd) : Type 0 where
  pub took : List ℕ
  pub left : before ≡ prepend_known took now
  pub total : new.taken ≡ old.taken + length took
  pub is : Ends (come_from old.phase) (old.held ++ took) now new.taken e
  pub stays : new.phase ≡ Ended e (headed_by old.phase (old.held ++ took))

abbrev pub Answer : Reading → Reading → Option (List ℕ) → Option (List ℕ) → Result Captured PcapEnd → Type 0
Answer old new before now (Ok r) = Gives old new before now r
Answer old new before now (Err e) = Closes old new before now e

-- an end, once given, stays; before it each answer is the first of what is still to come
abbrev pub Follows : Phase → Reading → Reading → Option (List ℕ) → Option (List ℕ) → Result Captured PcapEnd → Type 0
Follows (Ended e headed) old new before now result = (result ≡ Err e) × (new ≡ old) × (now ≡ before)
Follows _ old new before now result = Answer old new before now result

abbrev pub CountsOf : Phase → Result Captured PcapEnd → ℕ → ℕ → Type 0
CountsOf (Ended e headed) result before now = now ≡ before
CountsOf _ result before now = CountsBy result before now

-- so many bytes were taken, those held included, and each record given had at least 16 of them
abbrev pub IsSound : Phase → ℕ → ℕ → ℕ → Type 0
IsSound Start held taken given = (held ≡ taken) × (given ≡ 0)
IsSound (Records head offset) held taken given = (offset + held ≡ taken) × (24 + 16 * given ≤ offset)
IsSound (Ended e headed) held taken given = given ≤ 4294967295

-- memory for the longest record and a block
abbrev pub most_kept : ℕ
most_kept = 16 + 262144 + 65536
