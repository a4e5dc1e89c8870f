-- What the definitions give at chosen places. Each is false where its definition is wrong.
use Rattle.std.proofs.Common.{◌≡◌, ℕ, pos, true, false, List, [], ◌∷◌, ◌+◌, None, Some, codes, length, map, refl, sym, subst, arith}
use Rattle.source_block.specs.declared.stop.Stop.TheVariants.{AtEnd, Failed}
use Rattle.vast_value.specs.declared.cell.Cell.{Cell}
use Rattle.vast_value.specs.declared.cell.Cell.TheVariants.{Unset, One, Many}
use Rattle.vast_value.specs.declared.kind.Elem.TheVariants as elem
use Rattle.vast_value.specs.declared.kind.Kind.{Kind}
use Rattle.vast_value.specs.declared.kind.Kind.TheVariants as kind
use Rattle.vast_value.specs.declared.transport.Transport.{Transport}
use Rattle.vast_value.specs.declared.transport.Transport.TheVariants.{Unknown, Tcp, Udp, Icmp}
use Rattle.vast_value.specs.declared.value.Value.TheVariants.{Bool as BoolOf, Count, Name, Port, Text}
use Rattle.vast_value.specs.Headings.{Field, Heading}
use Rattle.event_batch.specs.Contents.{Content}
use Rattle.zeek_log.specs.declared.step.ZeekEnd.TheVariants as log
use Rattle.zeek_log.specs.declared.fault.ZeekFault.TheVariants.{BadCell}
use Rattle.zeek_log.specs.Table.{Head, Line}
use Rattle.pcap_packet.specs.Packets.{parts_of}
use Rattle.pcap_flow.specs.Groups.{groups_after}
use Rattle.pcap_flow.specs.Rows.{flow_heading, flow_rows_of, packet_heading, packet_row}
use Rattle.pcap_file.specs.declared.end.CaptureFault.TheVariants.{ShortHead, ShortRecord}
use Rattle.pcap_file.specs.declared.end.PcapEnd.TheVariants as capture
use Rattle.pcap_file.specs.declared.record.Captured.{Captured}
use Rattle.pcap_file.specs.Records as capture_list
use Rattle.importer.specs.declared.ends.FormFault.TheVariants.{Compressed, Pcapng}
use Rattle.importer.specs.declared.form.Form.TheVariants.{Log, Capture, Refused}
use Rattle.importer.specs.declared.ends.ImportEnd.TheVariants.{Fault, ReadFault, TooLong, Memory}
use Rattle.importer.specs.declared.ends.InputFault.TheVariants as input
use Rattle.importer.specs.declared.ends.How.TheVariants as how
use Rattle.importer.specs.Captures.{packet_of, packets_of, plain_steps}
use Rattle.importer.specs.Forms.{begins_with, form_of, gzip, is_capture, micro_big, micro_little, nano_big, nano_little, pcapng}
use Rattle.importer.specs.Carrying.{carried, carried_cell, carried_cells, cell_transport, is_port_kind, is_protocol_name, is_text_kind, protocol_place, row_transport, transport_named}
use Rattle.importer.specs.Coming.{Anything, Ended, Follow, IsKnownBy, IsLost, IsReadFault, MayFollow, Nothing, StepsOn, fresh, steps_left, steps_to_come}
use Rattle.importer.specs.Cutting.{Bounds, behind, bounds_of, cut_answers, cut_by}
use Rattle.importer.specs.Ending.{end_of_capture, end_of_log, how_ended, only_end}
use Rattle.importer.specs.Laws.{is_read_fault, rows_in}
use Rattle.importer.specs.Steps.{capture_steps, carried_answers, carried_steps, input_steps, steps_as, taken_steps}

-- Ends

ends : map end_of_log (log.Done ∷ log.Fault 3 2 BadCell ∷ log.ReadFault ∷ log.TooLong ∷ log.Memory ∷ []) ≡ (None ∷ Some (Fault (input.Line 3 2 BadCell)) ∷ Some ReadFault ∷ Some TooLong ∷ Some Memory ∷ [])
ends = refl

ways : map how_ended (None ∷ Some (Fault (input.Line 3 2 BadCell)) ∷ Some ReadFault ∷ Some TooLong ∷ Some Memory ∷ []) ≡ (how.Done ∷ how.Fault (input.Line 3 2 BadCell) ∷ how.ReadFault ∷ how.TooLong ∷ how.Memory ∷ [])
ways = refl

ends_of_captures : map end_of_capture (capture.Done ∷ capture.Fault 184 ShortRecord ∷ capture.ReadFault ∷ capture.TooLong ∷ capture.Memory ∷ []) ≡ (None ∷ Some (Fault (input.Place 184 ShortRecord)) ∷ Some ReadFault ∷ Some TooLong ∷ Some Memory ∷ [])
ends_of_captures = refl

-- Forms

first_bytes : (gzip ∷ pcapng ∷ micro_big ∷ micro_little ∷ nano_big ∷ nano_little ∷ [])
    ≡ ((31 ∷ 139 ∷ []) ∷ (10 ∷ 13 ∷ 13 ∷ 10 ∷ []) ∷ (161 ∷ 178 ∷ 195 ∷ 212 ∷ []) ∷ (212 ∷ 195 ∷ 178 ∷ 161 ∷ []) ∷ (161 ∷ 178 ∷ 60 ∷ 77 ∷ []) ∷ (77 ∷ 60 ∷ 178 ∷ 161 ∷ []) ∷ [])
first_bytes = refl

beginnings : map (λ bytes. begins_with bytes (31 ∷ 139 ∷ [])) ((31 ∷ 139 ∷ 8 ∷ []) ∷ (31 ∷ 139 ∷ []) ∷ (31 ∷ []) ∷ (139 ∷ 31 ∷ []) ∷ []) ≡ (true ∷ true ∷ false ∷ false ∷ [])
beginnings = refl

captures : map is_capture ((161 ∷ 178 ∷ 60 ∷ 77 ∷ 0 ∷ []) ∷ (212 ∷ 195 ∷ 178 ∷ 161 ∷ []) ∷ (161 ∷ 178 ∷ 60 ∷ []) ∷ (161 ∷ 178 ∷ 60 ∷ 212 ∷ []) ∷ []) ≡ (true ∷ true ∷ false ∷ false ∷ [])
captures = refl

forms : map form_of ((31 ∷ 139 ∷ 8 ∷ []) ∷ (10 ∷ 13 ∷ 13 ∷ 10 ∷ []) ∷ (77 ∷ 60 ∷ 178 ∷ 161 ∷ 2 ∷ []) ∷ codes "#path" ∷ (10 ∷ 13 ∷ 13 ∷ []) ∷ (31 ∷ []) ∷ [] ∷ [])
    ≡ (Refused Compressed ∷ Refused Pcapng ∷ Capture ∷ Log ∷ Log ∷ Log ∷ Log ∷ [])
forms = refl

an_unread_form_has_no_step : (steps_as (Refused Pcapng) (codes "x") AtEnd ≡ only_end (Some (Fault (input.Form Pcapng)))) × (input_steps (31 ∷ 139 ∷ []) AtEnd ≡ only_end (Some (Fault (input.Form Compressed))))
an_unread_form_has_no_step = (refl, refl)

-- Steps of captures

abbrev record_read : Captured
record_read = record { time = pos 7; captured = 0; original = 60; link = 1; bytes = [] }

abbrev read : capture_list.Answers
read = record { records = record_read ∷ []; last = capture.Done }

a_record_is_a_packet : packet_of record_read ≡ record { time = pos 7; captured = 0; original = 60; parts = parts_of 1 [] }
a_record_is_a_packet = refl

each_record_is_one : packets_of read ≡ packet_of record_read ∷ []
each_record_is_one = refl

flows_stand_behind_packets : plain_steps (packet_of record_read ∷ []) ≡ (Head packet_heading ∷ Line (packet_row (packet_of record_read)) ∷ Head flow_heading ∷ map Line (flow_rows_of (packet_of record_read ∷ [])))
flows_stand_behind_packets = refl

a_capture_without_its_head_has_no_step : capture_steps false (record { records = []; last = capture.Fault 4 ShortHead }) ≡ only_end (Some (Fault (input.Place 4 ShortHead)))
a_capture_without_its_head_has_no_step = refl

a_capture_without_packets_has_two_heads : capture_steps true (record { records = []; last = capture.ReadFault }) ≡ record { given = Head packet_heading ∷ Head flow_heading ∷ []; end = Some ReadFault }
unfolding groups_after
a_capture_without_packets_has_two_heads = refl

-- a failed read leaves the steps of what was taken, and else they are those of all bytes
taken : (taken_steps (codes "ab") (codes "a") true ≡ input_steps (codes "a") Failed) × (taken_steps (codes "ab") (codes "a") false ≡ input_steps (codes "ab") AtEnd)
taken = (refl, refl)

-- Carrying

names : map transport_named (codes "tcp" ∷ codes "udp" ∷ codes "icmp" ∷ codes "TCP" ∷ codes "icmp6" ∷ [] ∷ []) ≡ (Tcp ∷ Udp ∷ Icmp ∷ Unknown ∷ Unknown ∷ Unknown ∷ [])
names = refl

cells : map cell_transport (One (Text (codes "udp")) ∷ One (Name (codes "tcp")) ∷ Unset ∷ One (Count 6) ∷ []) ≡ (Udp ∷ Tcp ∷ Unknown ∷ Unknown ∷ [])
cells = refl

abbrev field : List ℕ → Kind → Field
field name k = record { name = name; kind = k }

abbrev port : ℕ → Transport → Cell
port number over = One (Port number over)

kinds : map is_port_kind (kind.One elem.Port ∷ kind.SetOf elem.Port ∷ kind.One elem.Count ∷ []) ≡ (true ∷ false ∷ false ∷ [])
kinds = refl

text_kinds : map is_text_kind (kind.One elem.Text ∷ kind.One elem.Name ∷ kind.VecOf elem.Text ∷ []) ≡ (true ∷ true ∷ false ∷ [])
text_kinds = refl

protocols : map is_protocol_name (codes "proto" ∷ codes "protocol" ∷ []) ≡ (true ∷ false ∷ [])
protocols = refl

one_cell : map (carried_cell Udp) (port 7 Unknown ∷ port 7 Tcp ∷ One (Count 7) ∷ []) ≡ (port 7 Udp ∷ port 7 Tcp ∷ One (Count 7) ∷ [])
one_cell = refl

port_columns : carried_cells Udp (field (codes "a") (kind.One elem.Count) ∷ field (codes "b") (kind.One elem.Port) ∷ []) (port 7 Unknown ∷ port 8 Unknown ∷ []) ≡ (port 7 Unknown ∷ port 8 Udp ∷ [])
port_columns = refl

-- two ports, one of which has a transport, a set of ports, and the protocol
abbrev conn : Kind → List Field
conn k = field (codes "a") (kind.One elem.Port) ∷ field (codes "b") (kind.One elem.Port) ∷ field (codes "c") (kind.SetOf elem.Port) ∷ field (codes "proto") k ∷ []

abbrev row : Cell → List Cell
row protocol = port 7 Unknown ∷ port 8 Tcp ∷ Many (Some (Port 9 Unknown) ∷ []) ∷ protocol ∷ []

an_enum_names_the_transport : carried (conn (kind.One elem.Name)) (row (One (Name (codes "udp")))) ≡ (port 7 Udp ∷ port 8 Tcp ∷ Many (Some (Port 9 Unknown) ∷ []) ∷ One (Name (codes "udp")) ∷ [])
an_enum_names_the_transport = refl

a_string_names_the_transport : carried (conn (kind.One elem.Text)) (row (One (Text (codes "icmp")))) ≡ (port 7 Icmp ∷ port 8 Tcp ∷ Many (Some (Port 9 Unknown) ∷ []) ∷ One (Text (codes "icmp")) ∷ [])
a_string_names_the_transport = refl

an_unset_protocol_names_none : carried (conn (kind.One elem.Name)) (row Unset) ≡ row Unset
an_unset_protocol_names_none = refl

another_kind_names_none : carried (conn (kind.One elem.Count)) (row (One (Name (codes "udp")))) ≡ row (One (Name (codes "udp")))
another_kind_names_none = refl

abbrev twice : List Field
twice = field (codes "proto") (kind.One elem.Count) ∷ field (codes "p") (kind.One elem.Port) ∷ field (codes "proto") (kind.One elem.Text) ∷ []

-- the first column named `proto` alone
the_first_column_counts : row_transport twice (One (Count 6) ∷ port 7 Unknown ∷ One (Text (codes "tcp")) ∷ []) ≡ Unknown
the_first_column_counts = refl

places : map protocol_place (conn (kind.One elem.Name) ∷ conn (kind.SetOf elem.Text) ∷ twice ∷ (field (codes "proto") (kind.One elem.Text) ∷ []) ∷ []) ≡ (Some 3 ∷ None ∷ None ∷ None ∷ [])
places = refl

-- Steps: each row is carried by the head before it

abbrev with_protocol : Heading
with_protocol = record { path = codes "x"; fields = field (codes "p") (kind.One elem.Port) ∷ field (codes "proto") (kind.One elem.Text) ∷ [] }

abbrev without : Heading
without = record { path = codes "y"; fields = field (codes "p") (kind.One elem.Port) ∷ field (codes "q") (kind.One elem.Text) ∷ [] }

abbrev udp_row : Transport → List Cell
udp_row over = port 7 over ∷ One (Text (codes "udp")) ∷ []

each_by_its_head : carried_steps [] (Head with_protocol ∷ Line (udp_row Unknown) ∷ Head without ∷ Line (udp_row Unknown) ∷ []) ≡ (Head with_protocol ∷ Line (udp_row Udp) ∷ Head without ∷ Line (udp_row Unknown) ∷ [])
each_by_its_head = refl

answers : carried_answers without.fields (record { given = Line (udp_row Unknown) ∷ []; end = log.TooLong }) ≡ record { given = Line (udp_row Unknown) ∷ []; end = Some TooLong }
answers = refl

at_the_start : steps_to_come fresh (codes "") AtEnd ≡ only_end None
at_the_start = refl

lines_at_the_start : steps_left fresh ≡ 68719476738
lines_at_the_start = refl

-- Cutting. A row of one set bool has 2 bytes.

abbrev one : List Cell
one = One (BoolOf true) ∷ []

abbrev two : List Cell
two = One (BoolOf false) ∷ []

abbrev three : List Cell
three = Unset ∷ []

abbrev counts : Heading
counts = record { path = codes "n"; fields = field (codes "n") (kind.One elem.Bool) ∷ [] }

abbrev others : Heading
others = record { path = codes "m"; fields = field (codes "n") (kind.One elem.Bool) ∷ [] }

abbrev batch : Heading → List (List Cell) → Content
batch heading rows = record { source = 5; heading = heading; rows = rows }

abbrev by : ℕ → ℕ → Bounds
by rows bytes = record { rows = rows; bytes = bytes }

a_batch_closes_at_its_rows : cut_by (by 2 100) 5 (Head counts ∷ Line one ∷ Line two ∷ Line three ∷ []) ≡ (batch counts (one ∷ two ∷ []) ∷ batch counts (three ∷ []) ∷ [])
a_batch_closes_at_its_rows = refl

a_batch_closes_when_its_bytes_reach_the_bound : cut_by (by 9 4) 5 (Head counts ∷ Line one ∷ Line two ∷ Line three ∷ []) ≡ (batch counts (one ∷ two ∷ []) ∷ batch counts (three ∷ []) ∷ [])
a_batch_closes_when_its_bytes_reach_the_bound = refl

an_unset_cell_has_one_byte : cut_by (by 9 2) 5 (Head counts ∷ Line (Unset ∷ []) ∷ Line (Unset ∷ []) ∷ Line (Unset ∷ []) ∷ []) ≡ (batch counts ((Unset ∷ []) ∷ (Unset ∷ []) ∷ []) ∷ batch counts ((Unset ∷ []) ∷ []) ∷ [])
an_unset_cell_has_one_byte = refl

a_batch_closes_before_a_head : cut_by (by 9 100) 5 (Head counts ∷ Line one ∷ Head others ∷ Line two ∷ Head others ∷ Line three ∷ []) ≡ (batch counts (one ∷ []) ∷ batch others (two ∷ []) ∷ batch others (three ∷ []) ∷ [])
a_batch_closes_before_a_head = refl

no_batch_is_empty : cut_by (by 1 100) 5 (Head counts ∷ Head others ∷ Line one ∷ Head counts ∷ []) ≡ (batch others (one ∷ []) ∷ [])
no_batch_is_empty = refl

the_end_stays : cut_answers 5 2 (record { given = Head counts ∷ Line one ∷ []; end = Some ReadFault }) ≡ record { given = batch counts (one ∷ []) ∷ []; end = Some ReadFault }
the_end_stays = refl

bounds : bounds_of 3 ≡ by 3 4194304
bounds = refl

what_was_read_stands_first : behind (Some counts) (one ∷ []) (Line two ∷ []) ≡ (Head counts ∷ Line one ∷ Line two ∷ [])
what_was_read_stands_first = refl

all_rows : rows_in (Head counts ∷ Line one ∷ Head others ∷ Line two ∷ []) ≡ (one ∷ two ∷ [])
all_rows = refl

failed_reads : map is_read_fault (None ∷ Some ReadFault ∷ Some TooLong ∷ []) ≡ (false ∷ true ∷ false ∷ [])
failed_reads = refl

-- What is to come

memory_is_lost : IsLost (Ended (Some Memory))
memory_is_lost = tt

an_end_is_not_lost : IsLost (Ended None) → ⊥
an_end_is_not_lost lost = lost

a_failed_read_is_one : IsReadFault (Ended (Some ReadFault))
a_failed_read_is_one = tt

too_long_is_none : IsReadFault (Ended (Some TooLong)) → ⊥
too_long_is_none fault = fault

-- a source without bytes has no steps, and its end is met
an_empty_source_ends : StepsOn fresh (Ended None) (Some []) (Some []) []
an_empty_source_ends may taken is_at = record {
  took = [];
  left = refl;
  follow = Nothing AtEnd;
  at = record { after = refl; known = (refl, omega (arith, is_at.count)); count = tt };
  follows = λ more stop ok. subst (λ (f : Follow). MayFollow f more stop) (sym is_at.after) tt;
  is = λ more stop ok. rw (ok.0, ok.1) refl;
}

-- of a source that tells a byte none of this is so
abbrev one_byte : List ℕ
one_byte = 65 ∷ []

not_empty : one_byte ≡ [] → ⊥
not_empty same = cc

a_byte_is_no_end : StepsOn fresh (Ended None) (Some one_byte) (Some one_byte) [] → ⊥
a_byte_is_no_end goes =
    let leads = goes Anything 0 (record { after = refl; known = tt; count = refl }) in
    let known : IsKnownBy (Nothing AtEnd) (Some one_byte) (0 + length leads.took) = subst (λ (f : Follow). IsKnownBy f (Some one_byte) (0 + length leads.took)) leads.at.after leads.at.known in
    not_empty known.0
