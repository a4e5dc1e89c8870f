-- What is still to come of an input by the bytes that its source still gives, and how an answer leads from there to here.
use Rattle.std.specs.Prelude.{◌≡◌, ℕ, ◌+◌, ◌-◌, ◌*◌, ◌^◌, Bool, true, false, if◌then◌else◌, List, [], ◌∷◌, ◌++◌, Option, None, Some, Result, Ok, Err, IfSome, IsSome, length, ◌⊎◌}
use Rattle.std.specs.Io.KnownBytes.{prepend_known}
use Rattle.vast_io.specs.Causes.{Rose}
use Rattle.vast_value.specs.declared.cell.Cell.{Cell}
use Rattle.vast_value.specs.Headings.{Field, Heading}
use Rattle.source_block.specs.declared.stop.Stop.{Stop}
use Rattle.source_block.specs.declared.stop.Stop.TheVariants.{AtEnd, Failed, AtBound}
use Rattle.source_block.specs.Holding.{most_bytes}
use Rattle.source_block.specs.Taking.{Stops}
use Rattle.pcap_file.specs.declared.reader.Phase.{Phase}
use Rattle.pcap_file.specs.declared.reader.Phase.TheVariants.{Ended as CaptureEnded}
use Rattle.pcap_file.specs.Reading as capture
use Rattle.pcap_file.specs.Reading.{HoldsRecord, is_headed, is_open}
use Rattle.zeek_log.specs.Finding.{HoldsRow}
use Rattle.zeek_log.specs.Going.{lines_left}
use Rattle.zeek_log.specs.Reader.{Reading, State, heading_told, heading_or_none, to_come}
use Rattle.zeek_log.specs.Reader.{Reads as StateReads, Last as StateLast, Ended as StateEnded}
use Rattle.zeek_log.specs.Steps.{step_of}
use Rattle.zeek_log.specs.Table.{LogStep, Head, Line}
use Rattle.zeek_log.specs.declared.step.Moved.{Moved}
use Rattle.zeek_log.specs.declared.step.Moved.TheVariants as moved
use Rattle.zeek_log.specs.declared.step.Step.{Step}
use Rattle.event_batch.specs.declared.batch.Batch.{Batch}
use Rattle.event_batch.specs.Contents.{Content, content_of}
use Rattle.importer.specs.declared.ends.ImportEnd.{ImportEnd}
use Rattle.importer.specs.declared.ends.ImportEnd.TheVariants.{Fault, ReadFault, TooLong, Memory}
use Rattle.importer.specs.Captures.{FlowsAt, PacketsAt, flows_heading, flows_to_come, given_row, head_or_none, packet_steps, packets_heading}
use Rattle.importer.specs.Ending.{Answers, ahead, end_of_capture, end_of_log, only_end}
use Rattle.importer.specs.Steps.{capture_steps, carried_answers, input_steps}
use Rattle.importer.specs.Cutting.{cut_answers, steps_behind}

-- Nothing was read, a log is read, or a capture: its packets and behind them its flows; or nothing but an end is to come.
pub data Standing : Type 0 where
  Fresh : Standing
  Log : Reading → Standing
  Packets : PacketsAt → Standing
  Flows : FlowsAt → Standing
  Ended : Option ImportEnd → Standing

-- before anything was read
abbrev pub fresh : Standing
fresh = Fresh

-- the heading of the last head, as long as its rows may come
abbrev pub heading_at : Standing → Option Heading
heading_at Fresh = None
heading_at (Log r) = heading_told r.state
heading_at (Packets p) = packets_heading p.reader.phase
heading_at (Flows f) = Some (flows_heading f)
heading_at (Ended end) = None

abbrev pub fields_told : Option Heading → List Field
fields_told heading = (heading_or_none heading).fields

-- the steps still to come of a capture's packets and flows, by how far the reader of its records is
abbrev pub packets_to_come : PacketsAt → List ℕ → Stop → Answers LogStep
packets_to_come p bytes stop =
    if is_headed p.reader.phase then packet_steps p.first p.flows (capture.to_come p.reader bytes stop)
    else capture_steps (capture.headed_by p.reader.phase (p.reader.held ++ bytes)) (capture.to_come p.reader bytes stop)

-- the steps still to come by the bytes that the source still gives, after which no more come for the reason
abbrev pub steps_to_come : Standing → List ℕ → Stop → Answers LogStep
steps_to_come Fresh bytes stop = input_steps bytes stop
steps_to_come (Packets p) bytes stop = packets_to_come p bytes stop
steps_to_come (Flows f) bytes stop = flows_to_come f
steps_to_come (Log r) bytes stop = carried_answers (fields_told (heading_told r.state)) (to_come r bytes stop)
steps_to_come (Ended end) bytes stop = only_end end

-- an import: the number of its source, at how many rows a batch closes, the heading of the last head, and where its input
-- stands
pub record Importing : Type 0 where
  pub number : ℕ
  pub rows : ℕ
  pub heading : Option Heading
  pub standing : Standing

-- the batches still to come, where these rows of the last head were read and are in no batch yet
abbrev pub batches_behind : Importing → List (List Cell) → List ℕ → Stop → Answers Content
batches_behind import held bytes stop =
    cut_answers import.number import.rows (steps_behind import.heading held (steps_to_come import.standing bytes stop))

-- the batches still to come between two calls
abbrev pub batches_to_come : Importing → List ℕ → Stop → Answers Content
batches_to_come import bytes stop = batches_behind import [] bytes stop

-- where an input stands, and the cells of the row at which it stands, none where it stands at none
pub record Placed : Type 0 where
  pub at : Standing
  pub row : List Cell

-- Where an input stands, the cells of the row at which it stands, none where it stands at none, and its source.
pub record Standpoint (S : Type 0) : Type 0 where
  pub at : Standing
  pub row : List Cell
  pub source : S

-- a value, and the source that it stands on
pub record Sourced (V S : Type 0) : Type 0 where
  pub at : V
  pub source : S

-- What may still follow the bytes that were taken: anything, nothing for this reason, or that is not known.
pub data Follow : Type 0 where
  Anything : Follow
  Nothing : Stop → Follow
  Lost : Follow

abbrev pub MayFollow : Follow → List ℕ → Stop → Type 0
MayFollow Anything more stop = Unit {0}
MayFollow (Nothing why) more stop = (more ≡ []) × (stop ≡ why)
MayFollow Lost more stop = ⊥

-- an end was met for its reason, and a fault in a last line that no newline ends only where the source ended
abbrev pub IsAfterEnd : Option ImportEnd → Follow → Type 0
IsAfterEnd None follow = follow ≡ Nothing AtEnd
IsAfterEnd (Some ReadFault) follow = follow ≡ Nothing Failed
IsAfterEnd (Some TooLong) follow = follow ≡ Nothing AtBound
IsAfterEnd (Some (Fault fault)) follow = (follow ≡ Anything) ⊎ (follow ≡ Nothing AtEnd)
IsAfterEnd (Some Memory) follow = follow ≡ Lost

abbrev pub IsAfterState : State → Follow → Type 0
IsAfterState (StateReads told n) follow = follow ≡ Anything
IsAfterState (StateLast told) follow = follow ≡ Nothing AtEnd
IsAfterState (StateEnded end) follow = IsAfterEnd (end_of_log end) follow

abbrev pub IsAfter : Standing → Follow → Type 0
IsAfter Fresh follow = follow ≡ Anything
IsAfter (Packets p) follow = (follow ≡ Anything) × (is_open p.reader.phase ≡ true)
IsAfter (Flows f) follow = IsAfterEnd f.end follow
IsAfter (Log r) follow = IsAfterState r.state follow
IsAfter (Ended end) follow = IsAfterEnd end follow

-- what the reason says of the source and of the number of bytes that were taken of it
abbrev pub IsKnownBy : Follow → Option (List ℕ) → ℕ → Type 0
IsKnownBy Anything left taken = Unit {0}
IsKnownBy (Nothing why) left taken = Stops why left taken
IsKnownBy Lost left taken = Unit {0}

abbrev pub IsCounted : Standing → ℕ → Type 0
IsCounted Fresh taken = taken ≡ 0
IsCounted (Packets p) taken = p.reader.taken ≡ taken
IsCounted (Flows f) taken = Unit {0}
IsCounted (Log r) taken = r.taken ≡ taken
IsCounted (Ended end) taken = Unit {0}

-- so many bytes of the source were taken, it has these left, and this may follow
pub record IsAt (standing : Standing) (follow : Follow) (left : Option (List ℕ)) (taken : ℕ) : Type 0 where
  pub after : IsAfter standing follow
  pub known : IsKnownBy follow left taken
  pub count : IsCounted standing taken

-- Some bytes were taken, and what was to come by them and by whatever may follow is `add` of what is to come now.
pub record Leads {X Y : Type 0} (new : Standing) (come : List ℕ → Stop → X) (come_now : List ℕ → Stop → Y) (add : Y → X) (before now : Option (List ℕ)) (may : Follow) (taken : ℕ) : Type 0 where
  pub took : List ℕ
  pub left : before ≡ prepend_known took now
  pub follow : Follow
  pub at : IsAt new follow now (taken + length took)
  pub follows : (more : List ℕ) (stop : Stop) → MayFollow follow more stop → MayFollow may (took ++ more) stop
  pub is : (more : List ℕ) (stop : Stop) → MayFollow follow more stop → come (took ++ more) stop ≡ add (come_now more stop)

-- the same, whatever might follow
abbrev pub Goes : {X Y : Type 0} → Standing → Standing → (List ℕ → Stop → X) → (List ℕ → Stop → Y) → (Y → X) → Option (List ℕ) → Option (List ℕ) → Type 0
Goes old new come come_now add before now =
    (may : Follow) (taken : ℕ) → IsAt old may before taken → Leads new come come_now add before now may taken

-- A call gave these steps, and leads from where the input stood to where it stands.
abbrev pub StepsOn : Standing → Standing → Option (List ℕ) → Option (List ℕ) → List LogStep → Type 0
StepsOn old new before now given = Goes old new (steps_to_come old) (steps_to_come new) (ahead given) before now

-- the same of batches
abbrev pub BatchesOn : Importing → Importing → Option (List ℕ) → Option (List ℕ) → List Content → Type 0
BatchesOn old new before now given = Goes old.standing new.standing (batches_to_come old) (batches_to_come new) (ahead given) before now

-- what a call gave
abbrev pub steps_given : {E : Type 0} → Result (Option Step) E → List LogStep
steps_given (Ok (Some step)) = step_of step ∷ []
steps_given _ = []

abbrev pub batches_given : {E : Type 0} → Result (Option Batch) E → List Content
batches_given (Ok (Some batch)) = content_of batch ∷ []
batches_given _ = []

-- the step at which an input stands that went on to a head or to a line
abbrev pub step_at : Standing → List Cell → Moved → LogStep
step_at at row moved.Head = Head (heading_or_none (heading_at at))
step_at at row moved.Line = Line row

-- what a call gave that went on
abbrev pub moves_given : {E : Type 0} → Standing → List Cell → Result (Option Moved) E → List LogStep
moves_given at row (Ok (Some moved)) = step_at at row moved ∷ []
moves_given at row _ = []

-- the next step is a row, and takes nothing of the source, or nothing is taken of it any more
abbrev pub HoldsNext : Standing → Type 0
HoldsNext (Log r) = HoldsRow r.held
HoldsNext (Packets p) = IsSome p.first ⊎ HoldsRecord p.reader
HoldsNext (Flows f) = Unit {0}
HoldsNext _ = ⊥

-- the answer where nothing but an end is to come
abbrev pub end_answer : {X : Type 0} → Option ImportEnd → Result (Option X) ImportEnd
end_answer None = Ok None
end_answer (Some end) = Err end

abbrev pub IsLostEnd : Option ImportEnd → Type 0
IsLostEnd None = ⊥
IsLostEnd (Some Memory) = Unit {0}
IsLostEnd (Some ReadFault) = ⊥
IsLostEnd (Some TooLong) = ⊥
IsLostEnd (Some (Fault fault)) = ⊥

abbrev pub IsLostState : State → Type 0
IsLostState (StateEnded end) = Unit {0}
IsLostState state = ⊥

abbrev pub IsLostPhase : Phase → Type 0
IsLostPhase (CaptureEnded end headed) = Unit {0}
IsLostPhase phase = ⊥

-- want of memory is all that is to come, or a reader's end was given and is not kept
abbrev pub IsLost : Standing → Type 0
IsLost Fresh = ⊥
IsLost (Packets p) = IsLostPhase p.reader.phase
IsLost (Flows f) = IsLostEnd f.end
IsLost (Log r) = IsLostState r.state
IsLost (Ended end) = IsLostEnd end

-- where an end was answered nothing else is to come, and where memory was wanting nothing else was answered
abbrev pub EndsAt : {X : Type 0} → Result (Option X) ImportEnd → Standing → Type 0
EndsAt (Ok (Some x)) new = ¬ IsLost new
EndsAt (Ok None) new = new ≡ Ended None
EndsAt (Err end) new = new ≡ Ended (Some end)

-- an end, once it is all that is to come, is answered and stays
abbrev pub Stays : {X V : Type 0} → Standing → V → V → Result (Option X) ImportEnd → Type 0
Stays at old new result = (end : Option ImportEnd) → at ≡ Ended end → (result ≡ end_answer end) × (new ≡ old)

abbrev pub IsReadFaultEnd : Option ImportEnd → Type 0
IsReadFaultEnd (Some ReadFault) = Unit {0}
IsReadFaultEnd _ = ⊥

abbrev pub IsReadFaultState : State → Type 0
IsReadFaultState (StateEnded end) = IsReadFaultEnd (end_of_log end)
IsReadFaultState _ = ⊥

abbrev pub IsReadFaultPhase : Phase → Type 0
IsReadFaultPhase (CaptureEnded end headed) = IsReadFaultEnd (end_of_capture end)
IsReadFaultPhase _ = ⊥

-- a failed read is the end, also where steps are still to come before it
abbrev pub IsReadFault : Standing → Type 0
IsReadFault Fresh = ⊥
IsReadFault (Packets p) = IsReadFaultPhase p.reader.phase
IsReadFault (Flows f) = IsReadFaultEnd f.end
IsReadFault (Log r) = IsReadFaultState r.state
IsReadFault (Ended end) = IsReadFaultEnd end

-- The source's count of faults rose exactly where a failed read is now the end and was not before, or memory was wanting
-- behind one. A failed read stays the end, and nothing is read behind it.
pub record HasFaults (old new : Standing) (before now : ℕ) : Type 0 where
  pub failed : IsReadFault new → ¬ IsReadFault old → Rose before now
  pub kept : ¬ IsReadFault new → ¬ IsLost new → now ≡ before
  pub again : IsReadFault old → now ≡ before
  pub lasts : IsReadFault old → ¬ IsLost new → IsReadFault new

abbrev pub reads_on : State → Bool
reads_on (StateReads told n) = true
reads_on _ = false

-- more of the source may be taken before the next step is given
abbrev pub is_reading : Standing → Bool
is_reading Fresh = true
is_reading (Packets p) = true
is_reading (Flows f) = false
is_reading (Log r) = reads_on r.state
is_reading (Ended end) = false

-- else nothing of it is taken, and no read fails
abbrev pub IsQuiet : Standing → Option (List ℕ) → Option (List ℕ) → ℕ → ℕ → Type 0
IsQuiet at left left_now faults faults_now = is_reading at ≡ false → (left_now ≡ left) × (faults_now ≡ faults)

-- at most so many rows and heads of a capture are still to come, where it has at most 2^32 records
abbrev pub packets_left : PacketsAt → ℕ
packets_left p = 3 * (2 ^ 32 - p.reader.given) + length (given_row p.first) + length p.flows + 2

abbrev pub rows_left : FlowsAt → ℕ
rows_left f = length (head_or_none f.told) + length f.rows

-- each step takes a line, a record, a head or a flow, and there are no more of them than this
abbrev pub steps_left : Standing → ℕ
steps_left Fresh = most_bytes + 2
steps_left (Packets p) = packets_left p
steps_left (Flows f) = rows_left f
steps_left (Log r) = lines_left r.state
steps_left (Ended end) = 0

-- the layout kept is the last head's, as long as its rows may come
abbrev pub IsLastLayout : Option Heading → Standing → Type 0
IsLastLayout heading at = IfSome (heading_at at) (λ told. heading ≡ Some told)
