-- How a capture goes on: its packets, and behind them its flows.
use Rattle.std.proofs.Common.{◌≡◌, ℕ, ◌+◌, ◌^◌, ◌<◌, ◌≤◌, Bool, true, false, if◌then◌else◌, List, [], ◌∷◌, ◌++◌, ◌||◌, not, Option, None, Some, Result, Ok, Err, fold, map, length, refl, ap, sym, ◌∙◌, subst, arith, append_assoc, length-append, inl, inr, is_some}
use Rattle.std.proofs.lemmas.List.{append-nil}
use Rattle.std.specs.Prelude.{IfOk, IfSome, IsTrue}
use Rattle.std.specs.declared.alloc.AllocError.{AllocError}
use Rattle.std.specs.Io.KnownBytes.{prepend_known}
use Rattle.std.specs.Option.{option_map_or}
use Rattle.vast_value.specs.declared.cell.Cell.{Cell}
use Rattle.vast_value.specs.Headings.{Field, Heading, fits_fields}
use Rattle.source_block.specs.declared.stop.Stop.{Stop}
use Rattle.source_block.specs.declared.stop.Stop.TheVariants.{AtEnd, Failed, AtBound}
use Rattle.zeek_log.specs.Table.{LogStep, Head, Line}
use Rattle.pcap_flow.specs.declared.flow.Flow.{Flow}
use Rattle.pcap_flow.specs.declared.packet.Packet.{Packet}
use Rattle.pcap_flow.specs.declared.sighting.Sighting.{Sighting}
use Rattle.pcap_flow.specs.Rows.{flow_heading, flow_row, flow_rows_of, packet_heading, packet_row}
use Rattle.pcap_flow.specs.Sightings.{key_of, sighting_of}
use Rattle.pcap_flow.specs.Steps.{begun, flow_key, is_over, join_latest, joined, latest_flow, with_packet, with_sighting}
use Rattle.pcap_flow.specs.Keys.{same_key}
use Rattle.pcap_flow.specs.Laws.{StepsGiveFlows}
use Rattle.pcap_file.specs.declared.end.CaptureFault.TheVariants.{BadMagic, LinkUnknown, RecordTooLong, ShortHead, ShortRecord, VersionUnknown}
use Rattle.pcap_file.specs.declared.end.PcapEnd.{PcapEnd}
use Rattle.pcap_file.specs.declared.end.PcapEnd.TheVariants as capture
use Rattle.pcap_file.specs.declared.reader.Phase.{Phase}
use Rattle.pcap_file.specs.declared.reader.Phase.TheVariants.{Start, Records, Ended as PhaseEnded}
use Rattle.pcap_file.specs.declared.record.Captured.{Captured}
use Rattle.pcap_file.specs.Reading.{Answer, Closes, CountsOf, Follows, Gives, Reading, come_from, headed_by, is_headed, is_open, to_come}
use Rattle.pcap_file.specs.Records.{Answers as Captures, CountsBy, Ends, ended, first}
use Rattle.pcap_file.proofs.HeadLemmas.{head_stays, headed_anyway}
use Rattle.importer.specs.declared.ends.ImportEnd.{ImportEnd}
use Rattle.importer.specs.declared.ends.ImportEnd.TheVariants as import
use Rattle.importer.specs.Captures.{FlowsAt, PacketsAt, Rowed, flow_cells, flow_steps, flows_behind, flows_to_come, given_row, packet_cells, packet_line, packet_of, packet_steps, packets_of, plain_steps}
use Rattle.importer.specs.Carrying.{carried, protocol_place}
use Rattle.importer.specs.Coming.{Anything, Ended, Flows, Follow, Goes, HasFaults, IsAfterEnd, IsAt, IsKnownBy, IsLostPhase, IsReadFault, IsReadFaultEnd, IsReadFaultPhase, Leads, Lost, MayFollow, Nothing, Packets, Standing, StepsOn, packets_left, packets_to_come, rows_left, steps_to_come}
use Rattle.importer.specs.Ending.{Answers, ahead, end_of_capture, only_end}
use Rattle.importer.specs.Reads.{CountsPacket, IsNewBy, IsWithin, ReadsEnd, ReadsPacket, ReadsRecord, ReadsRow, is_memory}
use Rattle.importer.specs.Steps.{capture_steps, carried_steps}
use Rattle.importer.proofs.CarryLemmas.{still_fits}
use Rattle.importer.proofs.GoingLemmas.{faults_memory, goes_join, goes_lost, goes_seen, goes_stay}

-- ---- the steps of packets, each row carried

rows_carried : (packets : List Packet) (rest : List LogStep)
    → carried_steps packet_heading.fields (map (λ p. Line (packet_row p)) packets ++ (Head flow_heading ∷ rest)) ≡ map packet_line packets ++ (Head flow_heading ∷ carried_steps flow_heading.fields rest)
rows_carried [] rest = refl
rows_carried (p ∷ packets) rest = ap (λ (xs : List LogStep). packet_line p ∷ xs) (rows_carried packets rest)

flows_carried : (flows : List Flow) → carried_steps flow_heading.fields (map Line (map flow_row flows)) ≡ map (λ f. Line (flow_cells f)) flows
flows_carried [] = refl
flows_carried (f ∷ flows) = ap (λ (xs : List LogStep). Line (flow_cells f) ∷ xs) (flows_carried flows)

plain_carried : StepsGiveFlows → (packets : List Packet) → carried_steps [] (plain_steps packets) ≡ Head packet_heading ∷ (map packet_line packets ++ flow_steps (fold with_packet [] packets))
plain_carried law packets =
    let rows = map Line (flow_rows_of packets) in
    ap (λ (xs : List LogStep). Head packet_heading ∷ xs) (rows_carried packets rows
    ∙ ap (λ (xs : List LogStep). map packet_line packets ++ (Head flow_heading ∷ xs))
    (ap (λ (flows : List Flow). carried_steps flow_heading.fields (map Line (map flow_row flows))) (sym (law packets))
    ∙ flows_carried (fold with_packet [] packets)))

lines_of_flows : (flows : List Flow) → map (λ f. Line (flow_cells f)) flows ≡ map Line (map flow_cells flows)
lines_of_flows [] = refl
lines_of_flows (f ∷ flows) = ap (λ (xs : List LogStep). Line (flow_cells f) ∷ xs) (lines_of_flows flows)

-- where no more records come, the flows do
flows_come : (flows : List Flow) (e : PcapEnd) → packet_steps None flows (ended e) ≡ flows_to_come (flows_behind flows (end_of_capture e))
flows_come flows e = ap (λ (xs : List LogStep). record { given = Head flow_heading ∷ xs; end = end_of_capture e }) (lines_of_flows flows)

-- ---- a reader of records that may go on

false_true : false ≡ true → ⊥
false_true same = cc

pub answers_of : (phase : Phase) (old new : Reading) (before now : Option (List ℕ)) (result : Result Captured PcapEnd) → is_open phase ≡ true → Follows phase old new before now result → Answer old new before now result
answers_of Start old new before now result opens follows = follows
answers_of (Records head offset) old new before now result opens follows = follows
answers_of (PhaseEnded e headed) old new before now result never follows = absurd (false_true never)

abbrev Seen : Type 0
Seen = Bool × Captures

-- what is still to come, and whether the file head is there
abbrev comes : Reading → List ℕ → Stop → Seen
comes r bytes stop = (headed_by r.phase (r.held ++ bytes), to_come r bytes stop)

abbrev seen_by : PacketsAt → Seen → Answers LogStep
seen_by p seen = if is_headed p.reader.phase then packet_steps p.first p.flows seen.1 else capture_steps seen.0 seen.1

-- the file head stays there, whatever bytes follow
head_more : (phase : Phase) (bytes more : List ℕ) → is_open phase ≡ true → headed_by phase bytes ≡ true → headed_by phase (bytes ++ more) ≡ true
head_more Start bytes more opens head = head_stays bytes more head
head_more (Records h offset) bytes more opens head = refl
head_more (PhaseEnded e headed) bytes more never head = absurd (false_true never)

gives_pair : (old new : Reading) (before now : Option (List ℕ)) (r : Captured) (g : Gives old new before now r) → is_open old.phase ≡ true
    → (more : List ℕ) (stop : Stop) → comes old (g.took ++ more) stop ≡ (true, first r (to_come new more stop))
gives_pair old new before now r g opens more stop =
    let there : headed_by old.phase (old.held ++ (g.took ++ more)) ≡ true =
    ap (headed_by old.phase) (sym (append_assoc old.held g.took more)) ∙ head_more old.phase (old.held ++ g.took) more opens g.head in
    rw (there, g.is more stop) refl

-- a record was read
pub gives_leads : {Y : Type 0} (old new : PacketsAt) (before now : Option (List ℕ)) (r : Captured) (come_now : List ℕ → Stop → Y) (add : Y → Answers LogStep) → Gives old.reader new.reader before now r
    → ((more : List ℕ) (stop : Stop) → seen_by old (true, first r (to_come new.reader more stop)) ≡ add (come_now more stop))
    → Goes (Packets old) (Packets new) (packets_to_come old) come_now add before now
gives_leads old new before now r come_now add g same may taken is_at =
    let total : new.reader.taken ≡ taken + length g.took = omega (arith, g.total, is_at.count) in
    record {
      took = g.took;
      left = g.left;
      follow = Anything;
      at = record { after = (refl, g.opens); known = tt; count = total };
      follows = λ more stop ok. subst (λ (f : Follow). MayFollow f (g.took ++ more) stop) (sym is_at.after.0) tt;
      is = λ more stop ok. ap (seen_by old) (gives_pair old.reader new.reader before now r g is_at.after.1 more stop) ∙ same more stop;
    }

-- ---- an end

abbrev EndsPair : Reading → Bool → PcapEnd → Option (List ℕ) → Option (List ℕ) → PacketsAt → Type 0
EndsPair old headed e before now p = Goes (Packets p) (Ended (end_of_capture e)) (comes old) (λ more stop. (headed, ended e)) (λ (s : Seen). s) before now

ends_leads : (p : PacketsAt) (headed : Bool) (e : PcapEnd) (before now : Option (List ℕ)) (may : Follow) (taken : ℕ) (took : List ℕ) (follow : Follow)
    → before ≡ prepend_known took now → IsAfterEnd (end_of_capture e) follow → IsKnownBy follow now (taken + length took) → may ≡ Anything
    → ((more : List ℕ) (stop : Stop) → MayFollow follow more stop → comes p.reader (took ++ more) stop ≡ (headed, ended e))
    → Leads (Ended (end_of_capture e)) (comes p.reader) (λ more stop. (headed, ended e)) (λ (s : Seen). s) before now may taken
ends_leads p headed e before now may taken took follow left after known any is = record {
  took = took;
  left = left;
  follow = follow;
  at = record { after = after; known = known; count = tt };
  follows = λ more stop ok. subst (λ (f : Follow). MayFollow f (took ++ more) stop) (sym any) tt;
  is = is;
}

-- nothing follows, for this reason
there : (old : Reading) (took more : List ℕ) (stop why : Stop) (e : PcapEnd) → (more ≡ []) × (stop ≡ why) → come_from old.phase (old.held ++ took) why ≡ ended e
    → comes old (took ++ more) stop ≡ (headed_by old.phase (old.held ++ took), ended e)
there old took more stop why e may is =
    let all : took ++ more ≡ took = ap (λ (xs : List ℕ). took ++ xs) may.0 ∙ append-nil took in
    ap (λ (xs : List ℕ). comes old xs stop) all ∙ ap (λ (s : Stop). comes old took s) may.1 ∙ ap (λ (a : Captures). (headed_by old.phase (old.held ++ took), a)) is

head_anyway : (phase : Phase) (bytes more : List ℕ) (e : PcapEnd) → is_open phase ≡ true → ((more : List ℕ) (stop : Stop) → come_from phase (bytes ++ more) stop ≡ ended e)
    → (e ≡ capture.Fault (length bytes) ShortHead → ⊥) → headed_by phase (bytes ++ more) ≡ headed_by phase bytes
head_anyway Start bytes more e opens same other = headed_anyway bytes more e same other
head_anyway (Records head offset) bytes more e opens same other = refl
head_anyway (PhaseEnded f headed) bytes more e never same other = absurd (false_true never)

anyway : (old : Reading) (took more : List ℕ) (stop : Stop) (e : PcapEnd) → is_open old.phase ≡ true
    → ((more : List ℕ) (stop : Stop) → come_from old.phase ((old.held ++ took) ++ more) stop ≡ ended e)
    → (e ≡ capture.Fault (length (old.held ++ took)) ShortHead → ⊥) → comes old (took ++ more) stop ≡ (headed_by old.phase (old.held ++ took), ended e)
anyway old took more stop e opens same other =
    let group = sym (append_assoc old.held took more) in
    let head : headed_by old.phase (old.held ++ (took ++ more)) ≡ headed_by old.phase (old.held ++ took) =
    ap (headed_by old.phase) group ∙ head_anyway old.phase (old.held ++ took) more e opens same other in
    let all : to_come old (took ++ more) stop ≡ ended e = ap (λ (xs : List ℕ). come_from old.phase xs stop) group ∙ same more stop in
    rw (head, all) refl

short_other : (n m : ℕ) → capture.Fault n ShortRecord ≡ capture.Fault m ShortHead → ⊥
short_other n m same = cc

closes_leads : (p : PacketsAt) (e : PcapEnd) (before now : Option (List ℕ)) (may : Follow) (taken : ℕ) (took : List ℕ) (count : ℕ)
    → before ≡ prepend_known took now → may ≡ Anything → is_open p.reader.phase ≡ true → count ≡ taken + length took
    → Ends (come_from p.reader.phase) (p.reader.held ++ took) now count e
    → Leads (Ended (end_of_capture e)) (comes p.reader) (λ more stop. (headed_by p.reader.phase (p.reader.held ++ took), ended e)) (λ (s : Seen). s) before now may taken
closes_leads p e before now may taken took count left any opens total ends =
    by e (subst (λ (n : ℕ). Ends (come_from p.reader.phase) (p.reader.held ++ took) now n e) total ends)
  where
    headed : Bool
    headed = headed_by p.reader.phase (p.reader.held ++ took)

    To : PcapEnd → Type 0
    To e = Leads (Ended (end_of_capture e)) (comes p.reader) (λ more stop. (headed, ended e)) (λ (s : Seen). s) before now may taken

    stopped : (e : PcapEnd) (why : Stop) → IsAfterEnd (end_of_capture e) (Nothing why) → (come_from p.reader.phase (p.reader.held ++ took) why ≡ ended e) × IsKnownBy (Nothing why) now (taken + length took) → To e
    stopped e why after is = ends_leads p headed e before now may taken took (Nothing why) left after is.1 any (λ more stop ok. there p.reader took more stop why e ok is.0)

    always : (e : PcapEnd) → IsAfterEnd (end_of_capture e) Anything → (e ≡ capture.Fault (length (p.reader.held ++ took)) ShortHead → ⊥)
        → ((more : List ℕ) (stop : Stop) → come_from p.reader.phase ((p.reader.held ++ took) ++ more) stop ≡ ended e) → To e
    always e after other is = ends_leads p headed e before now may taken took Anything left after tt any (λ more stop ok. anyway p.reader took more stop e opens is other)

    by : (e : PcapEnd) → Ends (come_from p.reader.phase) (p.reader.held ++ took) now (taken + length took) e → To e
    by capture.Done is = stopped capture.Done AtEnd refl is
    by capture.ReadFault is = stopped capture.ReadFault Failed refl is
    by capture.TooLong is = stopped capture.TooLong AtBound refl is
    by (capture.Fault n ShortHead) is = stopped (capture.Fault n ShortHead) AtEnd (inr refl) is
    by (capture.Fault n ShortRecord) is = stopped (capture.Fault n ShortRecord) AtEnd (inr refl) is
    by (capture.Fault n BadMagic) is = always (capture.Fault n BadMagic) (inl refl) (λ same. cc) is
    by (capture.Fault n VersionUnknown) is = always (capture.Fault n VersionUnknown) (inl refl) (λ same. cc) is
    by (capture.Fault n LinkUnknown) is = always (capture.Fault n LinkUnknown) (inl refl) (λ same. cc) is
    by (capture.Fault n RecordTooLong) is = always (capture.Fault n RecordTooLong) (inl refl) (λ same. cc) is
    by capture.Memory is = ends_leads p headed capture.Memory before now may taken took Lost left refl tt any (λ more stop never. absurd never)

-- nothing but this end is to come of the records
pub closes_goes : (p : PacketsAt) (new : Reading) (e : PcapEnd) (before now : Option (List ℕ)) (c : Closes p.reader new before now e)
    → EndsPair p.reader (headed_by p.reader.phase (p.reader.held ++ c.took)) e before now p
closes_goes p new e before now c may taken is_at =
    let total : new.taken ≡ taken + length c.took = omega (arith, c.total, is_at.count) in
    closes_leads p e before now may taken c.took new.taken c.left is_at.after.0 is_at.after.1 total c.is

-- the flows stand before an end as that end does
goes_flows : {X Y : Type 0} (a : Standing) (f : FlowsAt) (come : List ℕ → Stop → X) (come_now : List ℕ → Stop → Y) (add : Y → X) (before now : Option (List ℕ))
    → Goes a (Ended f.end) come come_now add before now → Goes a (Flows f) come come_now add before now
goes_flows a f come come_now add before now goes may taken is_at =
    let p = goes may taken is_at in
    record {
      took = p.took;
      left = p.left;
      follow = p.follow;
      at = record { after = p.at.after; known = p.at.known; count = tt };
      follows = p.follows;
      is = p.is;
    }

-- ---- the reader of packets

-- a reader that is no longer open is at no point from which a call goes on
only_open : {X Y : Type 0} (old : PacketsAt) (new : Standing) (come : List ℕ → Stop → X) (come_now : List ℕ → Stop → Y) (add : Y → X) (before now : Option (List ℕ))
    → (is_open old.reader.phase ≡ true → Goes (Packets old) new come come_now add before now) → Goes (Packets old) new come come_now add before now
only_open old new come come_now add before now goes may taken is_at = goes is_at.after.1 may taken is_at

not_headed : (p : PacketsAt) (seen : Seen) → is_headed p.reader.phase ≡ false → seen_by p seen ≡ capture_steps seen.0 seen.1
not_headed p seen never = rw never refl

when_headed : (p : PacketsAt) (seen : Seen) → is_headed p.reader.phase ≡ true → seen_by p seen ≡ packet_steps p.first p.flows seen.1
when_headed p seen is = rw is refl

-- the head of packets, and the first packet behind it
first_seen : StepsGiveFlows → (old new : PacketsAt) (r : Captured) (rest : Captures) → is_headed old.reader.phase ≡ false → new.first ≡ Some (packet_cells (packet_of r)) → new.flows ≡ with_packet [] (packet_of r)
    → seen_by old (true, first r rest) ≡ ahead (Head packet_heading ∷ []) (packet_steps new.first new.flows rest)
first_seen law old new r rest never row flows =
    not_headed old (true, first r rest) never
    ∙ ap (λ (xs : List LogStep). record { given = xs; end = end_of_capture rest.last }) (plain_carried law (packet_of r ∷ packets_of rest))
    ∙ rw (row, flows) refl

pub begins_on : StepsGiveFlows → (old mid new : PacketsAt) (before now : Option (List ℕ)) (row : List Cell) → is_headed old.reader.phase ≡ false → old.flows ≡ [] → ReadsRow old mid before now row
    → new.reader ≡ mid.reader → new.first ≡ Some row → new.flows ≡ mid.flows → StepsOn (Packets old) (Packets new) before now (Head packet_heading ∷ [])
begins_on law old mid new before now row never none reads reader first_is flows_are =
    only_open old (Packets new) (steps_to_come (Packets old)) (steps_to_come (Packets new)) (ahead (Head packet_heading ∷ [])) before now (λ opens.
    let follows = subst (λ (r : Reading). Follows old.reader.phase old.reader r before now (Ok reads.read.captured)) (sym reader) reads.read.follows in
    let gives = answers_of old.reader.phase old.reader new.reader before now (Ok reads.read.captured) opens follows in
    let begun : new.flows ≡ with_packet [] (packet_of reads.read.captured) = flows_are ∙ reads.flows ∙ ap (λ (fs : List Flow). with_packet fs (packet_of reads.read.captured)) none in
    gives_leads old new before now reads.read.captured (packets_to_come new) (ahead (Head packet_heading ∷ [])) gives (λ more stop.
    first_seen law old new reads.read.captured (to_come new.reader more stop) never (first_is ∙ ap Some reads.row_is) begun
    ∙ ap (ahead (Head packet_heading ∷ [])) (sym (when_headed new (comes new.reader more stop) gives.headed))))

-- a further packet
next_seen : (old new : PacketsAt) (r : Captured) (rest : Captures) → is_headed old.reader.phase ≡ true → old.first ≡ None → new.first ≡ None → new.flows ≡ with_packet old.flows (packet_of r)
    → seen_by old (true, first r rest) ≡ ahead (packet_line (packet_of r) ∷ []) (packet_steps new.first new.flows rest)
next_seen old new r rest is none none_now flows = when_headed old (true, first r rest) is ∙ rw (none, none_now, flows) refl

pub goes_on : (old new : PacketsAt) (before now : Option (List ℕ)) (row : List Cell) → is_headed old.reader.phase ≡ true → old.first ≡ None → new.first ≡ None → ReadsRow old new before now row
    → StepsOn (Packets old) (Packets new) before now (Line row ∷ [])
goes_on old new before now row is none none_now reads =
    subst (λ (cells : List Cell). StepsOn (Packets old) (Packets new) before now (Line cells ∷ [])) (sym reads.row_is)
    (only_open old (Packets new) (steps_to_come (Packets old)) (steps_to_come (Packets new)) (ahead (packet_line (packet_of reads.read.captured) ∷ [])) before now (λ opens.
    let gives = answers_of old.reader.phase old.reader new.reader before now (Ok reads.read.captured) opens reads.read.follows in
    gives_leads old new before now reads.read.captured (packets_to_come new) (ahead (packet_line (packet_of reads.read.captured) ∷ [])) gives (λ more stop.
    next_seen old new reads.read.captured (to_come new.reader more stop) is none none_now reads.flows
    ∙ ap (ahead (packet_line (packet_of reads.read.captured) ∷ [])) (sym (when_headed new (comes new.reader more stop) gives.headed)))))

-- the row of the first packet, which was read already
first_given : (old new : PacketsAt) (row : List Cell) (seen : Seen) → is_headed old.reader.phase ≡ true → old.first ≡ Some row → new ≡ record { reader = old.reader; first = None; flows = old.flows }
    → seen_by old seen ≡ ahead (Line row ∷ []) (seen_by new seen)
first_given old new row seen is first_is rest = rw (rest, first_is, is) refl

pub gives_first : (old new : PacketsAt) (left : Option (List ℕ)) (row : List Cell) → is_headed old.reader.phase ≡ true → old.first ≡ Some row
    → new ≡ record { reader = old.reader; first = None; flows = old.flows } → StepsOn (Packets old) (Packets new) left left (Line row ∷ [])
gives_first old new left row is first_is rest may taken is_at =
    let same = ap (λ (p : PacketsAt). p.reader) rest in
    let here : IsAt (Packets new) may left taken = record {
      after = (is_at.after.0, ap (λ (r : Reading). is_open r.phase) same ∙ is_at.after.1);
      known = is_at.known;
      count = ap (λ (r : Reading). r.taken) same ∙ is_at.count;
    } in
    let stay = goes_stay (Packets new) (packets_to_come new) left may taken here in
    record {
      took = stay.took;
      left = stay.left;
      follow = stay.follow;
      at = stay.at;
      follows = stay.follows;
      is = λ more stop ok.
          first_given old new row (comes old.reader (stay.took ++ more) stop) is first_is rest
          ∙ ap (λ (r : Reading). ahead (Line row ∷ []) (seen_by new (comes r (stay.took ++ more) stop))) (sym same)
          ∙ ap (ahead (Line row ∷ [])) (stay.is more stop ok);
    }

-- no more packets: the flows come
pub flows_on : (old new : PacketsAt) (before now : Option (List ℕ)) (e : PcapEnd) → is_headed old.reader.phase ≡ true → old.first ≡ None → ReadsEnd old new before now e
    → StepsOn (Packets old) (Flows (flows_behind old.flows (end_of_capture e))) before now []
flows_on old new before now e is none reads =
    only_open old (Flows (flows_behind old.flows (end_of_capture e))) (steps_to_come (Packets old)) (steps_to_come (Flows (flows_behind old.flows (end_of_capture e)))) (ahead []) before now (λ opens.
    let closes = answers_of old.reader.phase old.reader new.reader before now (Err e) opens reads.follows in
    let headed = headed_by old.reader.phase (old.reader.held ++ closes.took) in
    let flows = flows_behind old.flows (end_of_capture e) in
    goes_flows (Packets old) flows (packets_to_come old) (λ more stop. flows_to_come flows) (ahead []) before now
    (goes_seen (Packets old) (Ended (end_of_capture e)) (comes old.reader) (λ more stop. (headed, ended e)) (λ (s : Seen). s) before now (seen_by old) (λ (s : Seen). flows_to_come flows) (ahead [])
    (λ more stop. when_headed old (headed, ended e) is ∙ ap (λ (o : Option (List Cell)). packet_steps o old.flows (ended e)) none ∙ flows_come old.flows e)
    (closes_goes old new.reader e before now closes)))

-- and its head at once
pub flows_told : (flows : FlowsAt) (left : Option (List ℕ)) → flows.told ≡ false
    → StepsOn (Flows flows) (Flows (record { told = true; rows = flows.rows; end = flows.end })) left left (Head flow_heading ∷ [])
flows_told flows left never may taken is_at =
    let new : FlowsAt = record { told = true; rows = flows.rows; end = flows.end } in
    let stay = goes_stay (Flows new) (steps_to_come (Flows new)) left may taken (record { after = is_at.after; known = is_at.known; count = tt }) in
    record {
      took = stay.took;
      left = stay.left;
      follow = stay.follow;
      at = stay.at;
      follows = stay.follows;
      is = λ more stop ok. rw never refl;
    }

-- only the two heads: no packets, and so no flows
empty_seen : StepsGiveFlows → (old : PacketsAt) (e : PcapEnd) → is_headed old.reader.phase ≡ false
    → seen_by old (true, ended e) ≡ ahead (Head packet_heading ∷ []) (flows_to_come (flows_behind [] (end_of_capture e)))
empty_seen law old e never =
    not_headed old (true, ended e) never ∙ ap (λ (xs : List LogStep). record { given = xs; end = end_of_capture e }) (plain_carried law [])

pub begins_flows : StepsGiveFlows → (old new : PacketsAt) (before now : Option (List ℕ)) (e : PcapEnd) → is_headed old.reader.phase ≡ false → is_headed new.reader.phase ≡ true → ReadsEnd old new before now e
    → StepsOn (Packets old) (Flows (flows_behind [] (end_of_capture e))) before now (Head packet_heading ∷ [])
begins_flows law old new before now e never is reads =
    only_open old (Flows (flows_behind [] (end_of_capture e))) (steps_to_come (Packets old)) (steps_to_come (Flows (flows_behind [] (end_of_capture e)))) (ahead (Head packet_heading ∷ [])) before now (λ opens.
    let closes = answers_of old.reader.phase old.reader new.reader before now (Err e) opens reads.follows in
    let headed : headed_by old.reader.phase (old.reader.held ++ closes.took) ≡ true = sym (ap is_headed closes.stays) ∙ is in
    let flows = flows_behind [] (end_of_capture e) in
    goes_flows (Packets old) flows (packets_to_come old) (λ more stop. flows_to_come flows) (ahead (Head packet_heading ∷ [])) before now
    (goes_seen (Packets old) (Ended (end_of_capture e)) (comes old.reader) (λ more stop. (headed_by old.reader.phase (old.reader.held ++ closes.took), ended e)) (λ (s : Seen). s) before now (seen_by old) (λ (s : Seen). flows_to_come flows) (ahead (Head packet_heading ∷ []))
    (λ more stop. ap (λ (b : Bool). seen_by old (b, ended e)) headed ∙ empty_seen law old e never)
    (closes_goes old new.reader e before now closes)))

-- no file head: nothing but the end
pub begins_nothing : (old new : PacketsAt) (before now : Option (List ℕ)) (e : PcapEnd) → is_headed old.reader.phase ≡ false → is_headed new.reader.phase ≡ false → ReadsEnd old new before now e
    → StepsOn (Packets old) (Ended (end_of_capture e)) before now []
begins_nothing old new before now e never is reads =
    only_open old (Ended (end_of_capture e)) (steps_to_come (Packets old)) (steps_to_come (Ended (end_of_capture e))) (ahead []) before now (λ opens.
    let closes = answers_of old.reader.phase old.reader new.reader before now (Err e) opens reads.follows in
    let headed : headed_by old.reader.phase (old.reader.held ++ closes.took) ≡ false = sym (ap is_headed closes.stays) ∙ is in
    goes_seen (Packets old) (Ended (end_of_capture e)) (comes old.reader) (λ more stop. (headed_by old.reader.phase (old.reader.held ++ closes.took), ended e)) (λ (s : Seen). s) before now (seen_by old) (λ (s : Seen). only_end (end_of_capture e)) (ahead [])
    (λ more stop. ap (λ (b : Bool). seen_by old (b, ended e)) headed ∙ not_headed old (false, ended e) never)
    (closes_goes old new.reader e before now closes))

-- memory was wanting: nothing is said of what was to come
pub memory_record : (old new : PacketsAt) (before now : Option (List ℕ)) → ReadsRecord old new before now → StepsOn (Packets old) (Ended (Some import.Memory)) before now []
memory_record old new before now reads =
    only_open old (Ended (Some import.Memory)) (steps_to_come (Packets old)) (steps_to_come (Ended (Some import.Memory))) (ahead []) before now (λ opens.
    let gives = answers_of old.reader.phase old.reader new.reader before now (Ok reads.captured) opens reads.follows in
    goes_lost (Packets old) (Packets new) (packets_to_come old) (λ more stop. seen_by old (true, first reads.captured (to_come new.reader more stop))) (λ (s : Answers LogStep). s)
    (steps_to_come (Packets old)) (steps_to_come (Ended (Some import.Memory))) (ahead []) before now
    (gives_leads old new before now reads.captured (λ more stop. seen_by old (true, first reads.captured (to_come new.reader more stop))) (λ (s : Answers LogStep). s) gives (λ more stop. refl)))

pub memory_end : (old new : PacketsAt) (before now : Option (List ℕ)) (e : PcapEnd) → ReadsEnd old new before now e → StepsOn (Packets old) (Ended (Some import.Memory)) before now []
memory_end old new before now e reads =
    only_open old (Ended (Some import.Memory)) (steps_to_come (Packets old)) (steps_to_come (Ended (Some import.Memory))) (ahead []) before now (λ opens.
    let closes = answers_of old.reader.phase old.reader new.reader before now (Err e) opens reads.follows in
    goes_lost (Packets old) (Ended (end_of_capture e)) (comes old.reader) (λ more stop. (headed_by old.reader.phase (old.reader.held ++ closes.took), ended e)) (λ (s : Seen). s)
    (steps_to_come (Packets old)) (steps_to_come (Ended (Some import.Memory))) (ahead []) before now
    (closes_goes old new.reader e before now closes))

both_false : true ≡ false → ⊥
both_false same = cc

memory_only : (e : PcapEnd) → is_memory e ≡ true → e ≡ capture.Memory
memory_only capture.Memory is = refl
memory_only capture.Done is = cc
memory_only capture.ReadFault is = cc
memory_only capture.TooLong is = cc
memory_only (capture.Fault n what) is = cc

pub memory_or_end : (old new : PacketsAt) (before now : Option (List ℕ)) (e : PcapEnd) → is_memory e ≡ true → ReadsPacket old new before now (Err e) → StepsOn (Packets old) (Ended (end_of_capture e)) before now []
memory_or_end old new before now e is (inl end) =
    subst (λ (x : PcapEnd). StepsOn (Packets old) (Ended (end_of_capture x)) before now []) (sym (memory_only e is)) (memory_end old new before now e end)
memory_or_end old new before now e is (inr read) =
    subst (λ (x : PcapEnd). StepsOn (Packets old) (Ended (end_of_capture x)) before now []) (sym (memory_only e is)) (memory_record old new before now read.1)

pub no_memory : (old new : PacketsAt) (before now : Option (List ℕ)) (e : PcapEnd) → is_memory e ≡ false → ReadsPacket old new before now (Err e) → ReadsEnd old new before now e
no_memory old new before now e never (inl end) = end
no_memory old new before now e never (inr read) = absurd (both_false (sym read.0 ∙ never))

-- an end is answered: memory was wanting, or there is no file head
pub begins_end : (old new : PacketsAt) (before now : Option (List ℕ)) (e : PcapEnd) → is_headed old.reader.phase ≡ false → is_memory e || not (is_headed new.reader.phase) ≡ true
    → ReadsPacket old new before now (Err e) → StepsOn (Packets old) (Ended (end_of_capture e)) before now []
begins_end old new before now e never either reads = by (is_memory e) (is_headed new.reader.phase) refl refl either
  where
    by : (b c : Bool) → is_memory e ≡ b → is_headed new.reader.phase ≡ c → b || not c ≡ true → StepsOn (Packets old) (Ended (end_of_capture e)) before now []
    by true c is headed either = memory_or_end old new before now e is reads
    by false false is headed either = begins_nothing old new before now e never headed (no_memory old new before now e is reads)
    by false true is headed either = cc

pub memory_reads : (old new : PacketsAt) (before now : Option (List ℕ)) (e : PcapEnd) → ReadsPacket old new before now (Err e) → StepsOn (Packets old) (Ended (Some import.Memory)) before now []
memory_reads old new before now e (inl end) = memory_end old new before now e end
memory_reads old new before now e (inr read) = memory_record old new before now read.1

-- ---- faults

open_fault : (phase : Phase) → is_open phase ≡ true → IsReadFaultPhase phase → ⊥
open_fault Start opens is = is
open_fault (Records head offset) opens is = is
open_fault (PhaseEnded e headed) never is = absurd (false_true never)

read_open : (phase : Phase) (old new : Reading) (before now : Option (List ℕ)) (r : Captured) → Follows phase old new before now (Ok r) → (is_open phase ≡ true) × (is_open new.phase ≡ true)
read_open Start old new before now r follows = (refl, follows.opens)
read_open (Records head offset) old new before now r follows = (refl, follows.opens)
read_open (PhaseEnded e headed) old new before now r follows = let never = follows.0 in cc

-- a record was read
pub record_faults : (old new next : PacketsAt) (before now : Option (List ℕ)) (x y : ℕ) → ReadsRecord old new before now → next.reader ≡ new.reader → y ≡ x → HasFaults (Packets old) (Packets next) x y
record_faults old new next before now x y reads same still =
    let opens = read_open old.reader.phase old.reader new.reader before now reads.captured reads.follows in
    record {
      failed = λ is other. absurd (open_fault new.reader.phase opens.1 (subst (λ (r : Reading). IsReadFaultPhase r.phase) same is));
      kept = λ other there. still;
      again = λ is. still;
      lasts = λ is there. absurd (open_fault old.reader.phase opens.0 is);
    }

by_fault : (p : PacketsAt) (e : PcapEnd) (x y : ℕ) → (IsReadFault (Packets p) → ⊥) → CountsBy {X = Captured} (Err e) x y → HasFaults (Packets p) (Ended (end_of_capture e)) x y
by_fault p capture.ReadFault x y never counts = record { failed = λ is other. counts; kept = λ other there. absurd (other tt); again = λ is. absurd (never is); lasts = λ is there. tt }
by_fault p capture.Done x y never counts = record { failed = λ is other. absurd is; kept = λ other there. counts; again = λ is. absurd (never is); lasts = λ is there. absurd (never is) }
by_fault p capture.TooLong x y never counts = record { failed = λ is other. absurd is; kept = λ other there. counts; again = λ is. absurd (never is); lasts = λ is there. absurd (never is) }
by_fault p capture.Memory x y never counts = record { failed = λ is other. absurd is; kept = λ other there. counts; again = λ is. absurd (never is); lasts = λ is there. absurd (never is) }
by_fault p (capture.Fault n what) x y never counts = record { failed = λ is other. absurd is; kept = λ other there. counts; again = λ is. absurd (never is); lasts = λ is there. absurd (never is) }

abbrev err_captured : PcapEnd → Result Captured PcapEnd
err_captured e = Err e

same_err : (e f : PcapEnd) → err_captured e ≡ err_captured f → e ≡ f
same_err e f same = cc

-- no record was read
pub end_faults : (old new : PacketsAt) (before now : Option (List ℕ)) (e : PcapEnd) (x y : ℕ) → ReadsEnd old new before now e → CountsOf old.reader.phase (err_captured e) x y
    → HasFaults (Packets old) (Ended (end_of_capture e)) x y
end_faults old new before now e x y reads counts = by old.reader.phase refl reads.follows counts
  where
    at : {phase : Phase} → old.reader.phase ≡ phase → IsReadFault (Packets old) → IsReadFaultPhase phase
    at is fault = subst IsReadFaultPhase is fault

    by : (phase : Phase) → old.reader.phase ≡ phase → Follows phase old.reader new.reader before now (Err e) → CountsOf phase (err_captured e) x y → HasFaults (Packets old) (Ended (end_of_capture e)) x y
    by Start is follows counts = by_fault old e x y (λ fault. at is fault) counts
    by (Records head offset) is follows counts = by_fault old e x y (λ fault. at is fault) counts
    by (PhaseEnded f headed) is follows counts =
        let same = same_err e f follows.0 in
        record {
          failed = λ fault other. absurd (other (subst IsReadFaultPhase (sym is) (subst (λ (z : PcapEnd). IsReadFaultEnd (end_of_capture z)) same fault)));
          kept = λ other there. counts;
          again = λ fault. counts;
          lasts = λ fault there. subst (λ (z : PcapEnd). IsReadFaultEnd (end_of_capture z)) (sym same) (at is fault);
        }

-- the same, the flows standing before the end
pub flows_faults : (a : Standing) (f : FlowsAt) (x y : ℕ) → HasFaults a (Ended f.end) x y → HasFaults a (Flows f) x y
flows_faults a f x y faults = record { failed = faults.failed; kept = faults.kept; again = faults.again; lasts = faults.lasts }

counts_kept : (phase : Phase) (x y : ℕ) → y ≡ x → CountsOf phase (err_captured capture.Memory) x y
counts_kept Start x y same = same
counts_kept (Records head offset) x y same = same
counts_kept (PhaseEnded e headed) x y same = same

counts_ok : (phase : Phase) (r : Captured) (x y : ℕ) → CountsOf phase (Ok r) x y → y ≡ x
counts_ok Start r x y counts = counts
counts_ok (Records head offset) r x y counts = counts
counts_ok (PhaseEnded e headed) r x y counts = counts

-- a record was read, and memory was wanting for its packet
pub counts_lost : (phase : Phase) (r : Captured) (x y : ℕ) → CountsOf phase (Ok r) x y → CountsOf phase (err_captured capture.Memory) x y
counts_lost phase r x y counts = counts_kept phase x y (counts_ok phase r x y counts)

pub counts_row : (phase : Phase) (r : Captured) (x y : ℕ) → CountsOf phase (Ok r) x y → y ≡ x
counts_row phase r x y counts = counts_ok phase r x y counts

of_memory : (phase : Phase) (e : PcapEnd) (x y : ℕ) → is_memory e ≡ true → CountsOf phase (err_captured e) x y → y ≡ x
of_memory phase e x y is counts = by phase (subst (λ (z : PcapEnd). CountsOf phase (err_captured z) x y) (memory_only e is) counts)
  where
    by : (phase : Phase) → CountsOf phase (err_captured capture.Memory) x y → y ≡ x
    by Start counts = counts
    by (Records head offset) counts = counts
    by (PhaseEnded f headed) counts = counts

-- an end is answered
pub packet_faults : (old new : PacketsAt) (before now : Option (List ℕ)) (e : PcapEnd) (x y : ℕ) → ReadsPacket old new before now (Err e) → CountsPacket old.reader.phase (Err e) x y
    → HasFaults (Packets old) (Ended (end_of_capture e)) x y
packet_faults old new before now e x y (inl end) counts = end_faults old new before now e x y end counts
packet_faults old new before now e x y (inr read) counts =
    let still = of_memory old.reader.phase e x y read.0 counts in
    let moved = record_faults old new new before now x y read.1 refl still in
    subst (λ (z : PcapEnd). HasFaults (Packets old) (Ended (end_of_capture z)) x y) (sym (memory_only e read.0)) (faults_memory (Packets old) (Packets new) x y moved)

-- ---- how much is left

same_many : (b c : Bool) (f g : Flow) (rest flows : List Flow) → length rest ≡ length flows → length (if b then f ∷ rest else (if c then g ∷ flows else f ∷ flows)) ≡ length (f ∷ flows)
same_many true c f g rest flows same = omega (arith, same)
same_many false true f g rest flows same = refl
same_many false false f g rest flows same = refl

with_latest : (flows : List Flow) (s : Sighting) → length (join_latest s flows) ≡ length flows
unfolding join_latest
with_latest [] s = refl
with_latest (f ∷ flows) s =
    same_many (is_some (latest_flow (key_of s) flows)) (same_key (flow_key f) (key_of s)) f (joined s f) (join_latest s flows) flows (with_latest flows s)

sighted : (flows : List Flow) (s : Sighting) → length (with_sighting flows s) ≤ length flows + 1
sighted flows s = by (option_map_or (is_over s.time) (latest_flow (key_of s) flows) true)
  where
    by : (b : Bool) → length (if b then flows ++ begun s ∷ [] else join_latest s flows) ≤ length flows + 1
    by true = omega (arith, length-append flows (begun s ∷ []))
    by false = omega (arith, with_latest flows s)

-- a packet begins one flow at most
pub one_flow : (flows : List Flow) (p : Packet) → length (with_packet flows p) ≤ length flows + 1
one_flow flows p = by (sighting_of p)
  where
    by : (o : Option Sighting) → length (option_map_or (with_sighting flows) o flows) ≤ length flows + 1
    by None = omega arith
    by (Some s) = sighted flows s

read_count : (phase : Phase) (old new : Reading) (before now : Option (List ℕ)) (r : Captured) → Follows phase old new before now (Ok r) → new.given ≡ old.given + 1
read_count Start old new before now r follows = follows.count
read_count (Records head offset) old new before now r follows = follows.count
read_count (PhaseEnded e headed) old new before now r follows = let never = follows.0 in cc

pub record_less : (old new next : PacketsAt) (before now : Option (List ℕ)) (row : List Cell) → ReadsRow old new before now row → next.reader ≡ new.reader → next.flows ≡ new.flows
    → length (given_row next.first) ≤ 1 → packets_left next < packets_left old
record_less old new next before now row reads same flows few =
    let r = reads.read in
    let more = one_flow old.flows (packet_of r.captured) in
    let grown : length next.flows ≤ length old.flows + 1 = omega (arith, more, ap length (flows ∙ reads.flows)) in
    let count : next.reader.given ≡ old.reader.given + 1 = ap (λ (x : Reading). x.given) same ∙ read_count old.reader.phase old.reader new.reader before now r.captured r.follows in
    let most : next.reader.given ≤ 4294967295 = omega (arith, ap (λ (x : Reading). x.given) same, r.few) in
    omega (arith, grown, count, most, few)

-- ---- rows

rows_begun : (flows : List Flow) → map (carried flow_heading.fields) (map flow_row flows) ≡ map flow_cells flows
rows_begun [] = refl
rows_begun (f ∷ flows) = ap (λ (rows : List (List Cell)). flow_cells f ∷ rows) (rows_begun flows)

pub flows_begun : (rows : List (List Cell)) (flows : List Flow) (end : Option ImportEnd) → rows ≡ map flow_row flows
    → ◌≡◌ {A = Rowed FlowsAt} (record { at = record { told = false; rows = map (carried flow_heading.fields) rows; end = end }; row = [] }) (record { at = flows_behind flows end; row = [] })
flows_begun rows flows end is = ap at (ap (map (carried flow_heading.fields)) is ∙ rows_begun flows)
  where
    at : List (List Cell) → Rowed FlowsAt
    at rows = record { at = record { told = false; rows = rows; end = end }; row = [] }

abbrev CarriesAt : ℕ → List Cell → Result (List Cell) AllocError → Type 0
CarriesAt place row result = IfOk result (λ new. (fields : List Field) → Some place ≡ protocol_place fields → fits_fields fields row ≡ true → new ≡ carried fields row)

pub line_is : (p : Packet) (row : List Cell) (result : Result (List Cell) AllocError) → row ≡ packet_row p → IsTrue (fits_fields packet_heading.fields row) → CarriesAt 7 row result → IfOk result (λ new. new ≡ packet_cells p)
line_is p row (Ok new) is fits carries = carries packet_heading.fields refl fits ∙ ap (carried packet_heading.fields) is
line_is p row (Err e) is fits carries = tt

pub line_fits : (p : Packet) (row : List Cell) (result : Result (List Cell) AllocError) → row ≡ packet_row p → IsTrue (fits_fields packet_heading.fields row) → CarriesAt 7 row result
    → IfOk result (λ new. fits_fields packet_heading.fields new ≡ true)
line_fits p row (Ok new) is fits carries =
    subst (λ (cells : List Cell). fits_fields packet_heading.fields cells ≡ true) (sym (carries packet_heading.fields refl fits)) (still_fits packet_heading.fields row fits)
line_fits p row (Err e) is fits carries = tt

-- ---- what always holds of a reader of packets

new_by : (headed : Bool) (flows : List Flow) (first_row : Option (List Cell)) → (flows ≡ []) × (first_row ≡ None) → IsNewBy headed flows first_row
new_by true flows first_row none = tt
new_by false flows first_row none = none

abbrev IsSound : Reading → ℕ → List Flow → Option (List Cell) → Type 0
IsSound r added flows first_row = IsWithin r.phase added r.given × IsNewBy (is_headed r.phase) flows first_row

ended_sound : (old new : Reading) (added : ℕ) (flows : List Flow) (first_row : Option (List Cell)) (e : PcapEnd) (headed : Bool) → new.phase ≡ PhaseEnded e headed → IsNewBy headed flows first_row → IsSound new added flows first_row
ended_sound old new added flows first_row e headed is kept =
    (subst (λ (p : Phase). IsWithin p added new.given) (sym is) tt, subst (λ (p : Phase). IsNewBy (is_headed p) flows first_row) (sym is) kept)

-- no record was read
pub end_sound : (old new : Reading) (before now : Option (List ℕ)) (e : PcapEnd) (added : ℕ) (flows : List Flow) (first_row : Option (List Cell)) → Follows old.phase old new before now (Err e)
    → IsSound old added flows first_row → IsSound new added flows first_row
end_sound old new before now e added flows first_row follows sound = by old.phase refl follows
  where
    by : (phase : Phase) → old.phase ≡ phase → Follows phase old new before now (Err e) → IsSound new added flows first_row
    by Start is closes =
        ended_sound old new added flows first_row e (headed_by old.phase (old.held ++ closes.took)) closes.stays
        (new_by (headed_by old.phase (old.held ++ closes.took)) flows first_row (subst (λ (p : Phase). IsNewBy (is_headed p) flows first_row) is sound.1))
    by (Records head offset) is closes =
        ended_sound old new added flows first_row e (headed_by old.phase (old.held ++ closes.took)) closes.stays
        (subst (λ (p : Phase). IsNewBy (headed_by p (old.held ++ closes.took)) flows first_row) (sym is) tt)
    by (PhaseEnded f headed) is follows = subst (λ (r : Reading). IsSound r added flows first_row) (sym follows.1) sound

within_open : (phase : Phase) (added given : ℕ) → is_open phase ≡ true → IsWithin phase added given → added ≤ given
within_open Start added given opens is = is
within_open (Records head offset) added given opens is = is
within_open (PhaseEnded e headed) added given never is = absurd (false_true never)

open_within : (phase : Phase) (added given : ℕ) → added ≤ given → IsWithin phase added given
open_within Start added given is = is
open_within (Records head offset) added given is = is
open_within (PhaseEnded e headed) added given is = tt

headed_after : (phase : Phase) (old new : Reading) (before now : Option (List ℕ)) (r : Captured) → Follows phase old new before now (Ok r) → is_headed new.phase ≡ true
headed_after Start old new before now r follows = follows.headed
headed_after (Records head offset) old new before now r follows = follows.headed
headed_after (PhaseEnded e headed) old new before now r follows = let never = follows.0 in cc

-- a record was read, and this many packets are in the flows now
pub record_sound : (old new : Reading) (before now : Option (List ℕ)) (r : Captured) (added more : ℕ) (flows flows_now : List Flow) (first_row : Option (List Cell)) → Follows old.phase old new before now (Ok r)
    → IsSound old added flows first_row → more ≤ added + 1 → IsSound new more flows_now first_row
record_sound old new before now r added more flows flows_now first_row follows sound few =
    let opens = read_open old.phase old new before now r follows in
    let count = read_count old.phase old new before now r follows in
    let within = within_open old.phase added old.given opens.0 sound.0 in (
      open_within new.phase more new.given (omega (arith, count, within, few)),
      subst (λ (b : Bool). IsNewBy b flows_now first_row) (sym (headed_after old.phase old new before now r follows)) tt,
    )

-- there is room for its packet
pub record_few : (old new : Reading) (before now : Option (List ℕ)) (r : Captured) (added : ℕ) → Follows old.phase old new before now (Ok r) → IsWithin old.phase added old.given → new.given ≤ 4294967295 → added < 2 ^ 32
record_few old new before now r added follows within most =
    let opens = read_open old.phase old new before now r follows in
    omega (arith, within_open old.phase added old.given opens.0 within, read_count old.phase old new before now r follows, most)

abbrev reader_of : Reading → Option (List Cell) → List Flow → List Cell → Rowed PacketsAt
reader_of reader first_row flows row = record { at = record { reader = reader; first = first_row; flows = flows }; row = row }

pub reads_row : (old : Rowed PacketsAt) (reader new : Reading) (first_row : Option (List Cell)) (flows flows_now : List Flow) (row cells : List Cell) (r : Captured) (p : Packet) (before now : Option (List ℕ))
    → reader_of reader first_row flows row ≡ old → Follows reader.phase reader new before now (Ok r) → new.given ≤ 4294967295 → p ≡ packet_of r → cells ≡ packet_cells p → flows_now ≡ with_packet flows p
    → ReadsRow old.at (record { reader = new; first = first_row; flows = flows_now }) before now cells
reads_row old reader new first_row flows flows_now row cells r p before now seen follows few is row_is grown =
    subst (λ (o : Rowed PacketsAt). ReadsRow o.at (record { reader = new; first = first_row; flows = flows_now }) before now cells) seen
    (record {
      read = record { captured = r; follows = follows; few = few };
      row_is = row_is ∙ ap packet_cells is;
      flows = grown ∙ ap (with_packet flows) is;
    })

-- ---- its answers

pub answers_end : (old new : PacketsAt) (before now : Option (List ℕ)) (e : PcapEnd) → is_headed old.reader.phase ≡ false → is_memory e ≡ false → is_headed new.reader.phase ≡ false → ReadsPacket old new before now (Err e)
    → StepsOn (Packets old) (Ended (end_of_capture e)) before now []
answers_end old new before now e never other none reads = begins_nothing old new before now e never none (no_memory old new before now e other reads)

pub answers_heads : StepsGiveFlows → (old new : PacketsAt) (before now : Option (List ℕ)) (e : PcapEnd) (flows : Rowed FlowsAt) (heading : Heading) → is_headed old.reader.phase ≡ false → old.flows ≡ []
    → is_headed new.reader.phase ≡ true → is_memory e ≡ false → ReadsPacket old new before now (Err e) → flows ≡ record { at = flows_behind new.flows (end_of_capture e); row = [] } → heading ≡ packet_heading
    → StepsOn (Packets old) (Flows flows.at) before now (Head heading ∷ [])
answers_heads law old new before now e flows heading never none is other reads made head =
    let end = no_memory old new before now e other reads in
    let empty : flows.at ≡ flows_behind [] (end_of_capture e) = ap (λ (r : Rowed FlowsAt). r.at) made ∙ ap (λ (fs : List Flow). flows_behind fs (end_of_capture e)) (end.flows ∙ none) in
    rw (empty, head) (begins_flows law old new before now e never is end)

pub answers_flows : (old new : PacketsAt) (before now : Option (List ℕ)) (e : PcapEnd) (flows told : Rowed FlowsAt) (heading : Heading) → is_headed old.reader.phase ≡ true → old.first ≡ None → is_memory e ≡ false
    → ReadsPacket old new before now (Err e) → flows ≡ record { at = flows_behind new.flows (end_of_capture e); row = [] }
    → told ≡ record { at = record { told = true; rows = flows.at.rows; end = flows.at.end }; row = flows.row } → heading ≡ flow_heading → StepsOn (Packets old) (Flows told.at) before now (Head heading ∷ [])
answers_flows old new before now e flows told heading is none other reads made same head =
    let end = no_memory old new before now e other reads in
    let here : flows.at ≡ flows_behind old.flows (end_of_capture e) = ap (λ (r : Rowed FlowsAt). r.at) made ∙ ap (λ (fs : List Flow). flows_behind fs (end_of_capture e)) end.flows in
    let there : told.at ≡ record { told = true; rows = map flow_cells old.flows; end = end_of_capture e } =
    ap (λ (r : Rowed FlowsAt). r.at) same ∙ ap (λ (f : FlowsAt). record { told = true; rows = f.rows; end = f.end }) here in
    let f = flows_behind old.flows (end_of_capture e) in
    let t : FlowsAt = record { told = true; rows = map flow_cells old.flows; end = end_of_capture e } in
    rw (there, head) (goes_join (Packets old) (Flows f) (Flows t) (steps_to_come (Packets old)) (steps_to_come (Flows f)) (steps_to_come (Flows t)) (ahead []) (ahead (Head flow_heading ∷ [])) before now now
    (flows_on old new before now e is none end) (flows_told f now refl))

pub flows_left : (old new : PacketsAt) (before now : Option (List ℕ)) (e : PcapEnd) (flows : Rowed FlowsAt) → is_memory e ≡ false → ReadsPacket old new before now (Err e)
    → flows ≡ record { at = flows_behind new.flows (end_of_capture e); row = [] } → rows_left flows.at < packets_left old
flows_left old new before now e flows other reads made =
    let end = no_memory old new before now e other reads in
    let rows : rows_left flows.at ≡ 1 + length old.flows =
    ap (λ (r : Rowed FlowsAt). rows_left r.at) made ∙ ap (λ (fs : List Flow). rows_left (flows_behind fs (end_of_capture e))) end.flows ∙ ap (λ (n : ℕ). 1 + n) (many old.flows) in
    omega (arith, rows)
  where
    many : (flows : List Flow) → length (map flow_cells flows) ≡ length flows
    many [] = refl
    many (f ∷ flows) = let rest = many flows in omega (arith, rest)

pub answers_faults : (old new : PacketsAt) (before now : Option (List ℕ)) (e : PcapEnd) (flows : FlowsAt) (x y : ℕ) → ReadsPacket old new before now (Err e) → CountsPacket old.reader.phase (Err e) x y → flows.end ≡ end_of_capture e
    → HasFaults (Packets old) (Flows flows) x y
answers_faults old new before now e flows x y reads counts same =
    flows_faults (Packets old) flows x y (subst (λ (end : Option ImportEnd). HasFaults (Packets old) (Ended end) x y) (sym same) (packet_faults old new before now e x y reads counts))

pub end_behind : (flows : Rowed FlowsAt) (rows : List Flow) (end : Option ImportEnd) → flows ≡ record { at = flows_behind rows end; row = [] } → flows.at.end ≡ end
end_behind flows rows end is = ap (λ (r : Rowed FlowsAt). r.at.end) is

pub open_lost : (phase : Phase) → is_open phase ≡ true → IsLostPhase phase → ⊥
open_lost Start opens lost = lost
open_lost (Records head offset) opens lost = lost
open_lost (PhaseEnded e headed) never lost = absurd (false_true never)

pub open_after : (old new : PacketsAt) (before now : Option (List ℕ)) (row : List Cell) → ReadsRow old new before now row → is_open new.reader.phase ≡ true
open_after old new before now row reads = (read_open old.reader.phase old.reader new.reader before now reads.read.captured reads.read.follows).1

abbrev IsFit : Reading → List Cell → Type 0
IsFit r row = (fits_fields packet_heading.fields row ≡ true) × (is_open r.phase ≡ true)

-- no row of a first packet is held
pub none_held : (r : Reading) (first_row : Option (List Cell)) → first_row ≡ None → IfSome first_row (IsFit r)
none_held r None is = tt
none_held r (Some row) is = cc

pub some_held : (r : Reading) (first_row : Option (List Cell)) (row : List Cell) → first_row ≡ Some row → IfSome first_row (IsFit r) → is_open r.phase ≡ true
some_held r None row is held = cc
some_held r (Some x) row is held = held.1

-- a row was not held, so its place is as it was
pub nothing_held : (old : Rowed PacketsAt) (reader : Reading) (first_row dest : Option (List Cell)) (flows : List Flow) (row : List Cell) → reader_of reader first_row flows row ≡ old → first_row ≡ None → dest ≡ None
    → record { reader = reader; first = dest; flows = flows } ≡ old.at
nothing_held old reader first_row dest flows row seen none empty =
    ap (λ (o : Option (List Cell)). record { reader = reader; first = o; flows = flows }) (empty ∙ sym none) ∙ ap (λ (r : Rowed PacketsAt). r.at) seen

pub no_row : (first_row : Option (List Cell)) → first_row ≡ None → length (given_row first_row) ≤ 1
no_row None is = omega arith
no_row (Some row) is = cc
