-- How the readers of packets and flows go on.
use Rattle.std.specs.Prelude.{◌≡◌, ℕ, ◌≤◌, Bool, true, false, List, [], ◌∷◌, Option, None, Some, Result, Ok, Err, ◌⊎◌}
use Rattle.vast_value.specs.declared.cell.Cell.{Cell}
use Rattle.zeek_log.specs.declared.step.Step.{Step}
use Rattle.zeek_log.specs.Steps.{step_of}
use Rattle.zeek_log.specs.Table.{LogStep}
use Rattle.pcap_flow.specs.declared.flow.Flow.{Flow}
use Rattle.pcap_flow.specs.Steps.{with_packet}
use Rattle.pcap_file.specs.declared.end.PcapEnd.{PcapEnd}
use Rattle.pcap_file.specs.declared.end.PcapEnd.TheVariants as capture
use Rattle.pcap_file.specs.declared.reader.Phase.{Phase}
use Rattle.pcap_file.specs.declared.reader.Phase.TheVariants.{Ended as PhaseEnded}
use Rattle.pcap_file.specs.declared.record.Captured.{Captured}
use Rattle.pcap_file.specs.Reading.{CountsOf, Follows}
use Rattle.importer.specs.declared.ends.ImportEnd.{ImportEnd}
use Rattle.importer.specs.declared.ends.ImportEnd.TheVariants as import
use Rattle.importer.specs.Captures.{FlowsAt, PacketsAt, Rowed, packet_cells, packet_of}
use Rattle.importer.specs.Coming.{Standing, Packets, Flows, Ended}
use Rattle.importer.specs.Ending.{end_of_capture}

-- no packet was read before the file head was
abbrev pub IsNewBy : Bool → List Flow → Option (List Cell) → Type 0
IsNewBy true flows first = Unit {0}
IsNewBy false flows first = (flows ≡ []) × (first ≡ None)

-- no more packets are in the flows than records were read, as long as more are read
abbrev pub IsWithin : Phase → ℕ → ℕ → Type 0
IsWithin (PhaseEnded end headed) added given = Unit {0}
IsWithin phase added given = added ≤ given

-- a record was read
pub record ReadsRecord (old new : PacketsAt) (before now : Option (List ℕ)) : Type 0 where
  pub captured : Captured
  pub follows : Follows old.reader.phase old.reader new.reader before now (Ok captured)
  pub few : new.reader.given ≤ 4294967295

-- its packet is one of the flows' now, and this is its row
pub record ReadsRow (old new : PacketsAt) (before now : Option (List ℕ)) (row : List Cell) : Type 0 where
  pub read : ReadsRecord old new before now
  pub row_is : row ≡ packet_cells (packet_of read.captured)
  pub flows : new.flows ≡ with_packet old.flows (packet_of read.captured)

-- no record was read, for this reason
pub record ReadsEnd (old new : PacketsAt) (before now : Option (List ℕ)) (e : PcapEnd) : Type 0 where
  pub follows : Follows old.reader.phase old.reader new.reader before now (Err e)
  pub flows : new.flows ≡ old.flows

abbrev pub is_memory : PcapEnd → Bool
is_memory capture.Memory = true
is_memory _ = false

-- the same, or memory was wanting once a record was read
abbrev pub ReadsPacket : PacketsAt → PacketsAt → Option (List ℕ) → Option (List ℕ) → Result (List Cell) PcapEnd → Type 0
ReadsPacket old new before now (Ok row) = ReadsRow old new before now row
ReadsPacket old new before now (Err e) = ReadsEnd old new before now e ⊎ ((is_memory e ≡ true) × ReadsRecord old new before now)

-- the source's count of faults rose exactly where a failed read is the end, and was not before
abbrev pub CountsPacket : Phase → Result (List Cell) PcapEnd → ℕ → ℕ → Type 0
CountsPacket phase (Ok row) before now = now ≡ before
CountsPacket phase (Err e) before now = CountsOf phase (Err e) before now

-- where a capture stands after an answer of its packets' reader
abbrev pub came_after : PacketsAt → Option (Rowed FlowsAt) → Standing
came_after new None = Packets new
came_after new (Some flows) = Flows flows.at

abbrev pub capture_after : PacketsAt → Result (Step × Option (Rowed FlowsAt)) PcapEnd → Standing
capture_after new (Ok came) = came_after new came.1
capture_after new (Err e) = Ended (end_of_capture e)

abbrev pub capture_given : Result (Step × Option (Rowed FlowsAt)) PcapEnd → List LogStep
capture_given (Ok came) = step_of came.0 ∷ []
capture_given (Err e) = []

-- where it stands after an answer of its flows' reader
abbrev pub flows_after : FlowsAt → Result (Option Step) ImportEnd → Standing
flows_after new (Ok (Some step)) = Flows new
flows_after new (Ok None) = Ended None
flows_after new (Err e) = Ended (Some e)

-- an end that is answered is the one behind the flows, or memory was wanting
abbrev pub FlowsAnswer : Option ImportEnd → Result (Option Step) ImportEnd → Type 0
FlowsAnswer end (Ok (Some step)) = Unit {0}
FlowsAnswer end (Ok None) = end ≡ None
FlowsAnswer end (Err e) = (end ≡ Some e) ⊎ (e ≡ import.Memory)
