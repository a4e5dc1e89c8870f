-- The steps of a capture: its packets, and behind them the flows that they form.
use Rattle.std.specs.Prelude.{Bool, true, false, if◌then◌else◌, List, [], ◌∷◌, ◌++◌, Option, None, Some, fold, map}
use Rattle.vast_value.specs.declared.cell.Cell.{Cell}
use Rattle.vast_value.specs.Headings.{Heading}
use Rattle.zeek_log.specs.Table.{LogStep, Head, Line}
use Rattle.pcap_packet.specs.Packets.{parts_of}
use Rattle.pcap_flow.specs.declared.flow.Flow.{Flow}
use Rattle.pcap_flow.specs.declared.packet.Packet.{Packet}
use Rattle.pcap_flow.specs.Rows.{flow_heading, flow_row, flow_rows_of, packet_heading, packet_row}
use Rattle.pcap_flow.specs.Steps.{with_packet}
use Rattle.pcap_file.specs.declared.record.Captured.{Captured}
use Rattle.pcap_file.specs.declared.reader.Phase.{Phase}
use Rattle.pcap_file.specs.Reading.{Reading, is_headed}
use Rattle.pcap_file.specs.Records as capture
use Rattle.pcap_file.specs.Records.{records}
use Rattle.importer.specs.declared.ends.ImportEnd.{ImportEnd}
use Rattle.importer.specs.Carrying.{carried}
use Rattle.importer.specs.Ending.{Answers, end_of_capture}

-- the packet of a captured record
abbrev pub packet_of : Captured → Packet
packet_of r = record { time = r.time; captured = r.captured; original = r.original; parts = parts_of r.link r.bytes }

abbrev pub packets_of : capture.Answers → List Packet
packets_of all = map packet_of all.records

-- a head and a row for each packet, and then a head and a row for each flow of all of them, as they are captured
abbrev pub plain_steps : List Packet → List LogStep
plain_steps packets =
    Head packet_heading ∷ (map (λ p. Line (packet_row p)) packets ++ (Head flow_heading ∷ map Line (flow_rows_of packets)))

-- Where a capture is read: each row carried.

abbrev pub packet_cells : Packet → List Cell
packet_cells p = carried packet_heading.fields (packet_row p)

abbrev pub packet_line : Packet → LogStep
packet_line p = Line (packet_cells p)

abbrev pub flow_cells : Flow → List Cell
flow_cells f = carried flow_heading.fields (flow_row f)

abbrev pub flow_steps : List Flow → List LogStep
flow_steps flows = Head flow_heading ∷ map (λ f. Line (flow_cells f)) flows

-- the row of a packet that was read, if there is one, those of the packets still to come, and the flows of all of them,
-- these being the flows of the packets before
abbrev pub given_row : Option (List Cell) → List LogStep
given_row None = []
given_row (Some row) = Line row ∷ []

abbrev pub packet_steps : Option (List Cell) → List Flow → capture.Answers → Answers LogStep
packet_steps row flows all = record {
  given = given_row row ++ (map packet_line (packets_of all) ++ flow_steps (fold with_packet flows (packets_of all)));
  end = end_of_capture all.last;
}

-- a reader of packets: its reader of records, the row of the first packet until it is given, and the flows so far
pub record PacketsAt : Type 0 where
  pub reader : Reading
  pub first : Option (List Cell)
  pub flows : List Flow

-- a reader of flows: whether their head was given, the rows that are still to come, and the end behind them
pub record FlowsAt : Type 0 where
  pub told : Bool
  pub rows : List (List Cell)
  pub end : Option ImportEnd

abbrev pub head_or_none : Bool → List LogStep
head_or_none true = []
head_or_none false = Head flow_heading ∷ []

abbrev pub flows_to_come : FlowsAt → Answers LogStep
flows_to_come f = record { given = head_or_none f.told ++ map Line f.rows; end = f.end }

-- the flows behind packets whose capture ends so
abbrev pub flows_behind : List Flow → Option ImportEnd → FlowsAt
flows_behind flows end = record { told = false; rows = map flow_cells flows; end = end }

-- the heading of the last head
abbrev pub packets_heading : Phase → Option Heading
packets_heading phase = if is_headed phase then Some packet_heading else None

abbrev pub heading_by : Bool → Heading
heading_by told = if told then flow_heading else packet_heading

abbrev pub flows_heading : FlowsAt → Heading
flows_heading f = heading_by f.told

-- a reader, and the cells of the row at which it stands, none where it stands at none
pub record Rowed (A : Type 0) : Type 0 where
  pub at : A
  pub row : List Cell
