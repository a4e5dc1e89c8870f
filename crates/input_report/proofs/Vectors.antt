-- Values that the definitions have, computed by the prover. Each is false where its definition is wrong.
use Rattle.std.proofs.Common.{◌≡◌, ◌≢◌, ℕ, ◌+◌, true, false, List, [], ◌∷◌, ◌++◌, Option, None, Some, ◌⊎◌, length, codes, map, refl, ap, inl, inr, arith, lit≤}
use Rattle.std.proofs.lemmas.List.{append-nil}
use Rattle.std.specs.Fmt.{digits}
use Rattle.std.specs.Io.KnownBytes.{append_known}
use Rattle.value_text.specs.Writing.{cell_text, value_text}
use Rattle.query_meaning.specs.declared.expr.Expr.{Expr}
use Rattle.query_meaning.specs.Meaning.{holds}
use Rattle.vast_io.specs.Told.{WritesPart}
use Rattle.vast_value.specs.declared.cell.Cell.{Cell}
use Rattle.vast_value.specs.declared.cell.Cell.TheVariants.{Unset, One as OneCell}
use Rattle.vast_value.specs.declared.kind.Elem.TheVariants as elem
use Rattle.vast_value.specs.declared.kind.Kind.TheVariants.{One}
use Rattle.vast_value.specs.declared.value.Value.TheVariants.{Count}
use Rattle.vast_value.specs.Headings.{Heading}
use Rattle.zeek_log.specs.declared.fault.ZeekFault.TheVariants as fault
use Rattle.zeek_log.specs.Reader.{heading_or_none}
use Rattle.zeek_log.specs.Table.{LogStep, Head, Line}
use Rattle.importer.specs.declared.ends.How.TheVariants as how
use Rattle.pcap_file.specs.declared.end.CaptureFault.TheVariants as capture
use Rattle.importer.specs.declared.ends.FormFault.TheVariants.{Compressed, Pcapng}
use Rattle.importer.specs.declared.ends.ImportEnd.{ImportEnd}
use Rattle.importer.specs.declared.ends.ImportEnd.TheVariants.{Fault, ReadFault, TooLong}
use Rattle.importer.specs.declared.ends.InputFault.{InputFault}
use Rattle.importer.specs.declared.ends.InputFault.TheVariants as input
use Rattle.importer.specs.Ending.{Answers}
use Rattle.input_report.specs.declared.status.Status.{Status}
use Rattle.input_report.specs.declared.status.Status.TheVariants as status
use Rattle.input_report.specs.Causes.{GoesBy, GoesWith, IsFault, LeavesNothing, ReadsWell, TellsSome, TellsText, rest_of}
use Rattle.input_report.specs.Numbers.{number_of}
use Rattle.input_report.specs.Texts.{line, capture_fault_name, fault_name, fault_text, form_name, offset_text, end_text, Event, events_behind, events_of, row_text, matches_text, scan_end, scan_text, Part, rows_first, parts_of, part_text, check_end, check_text}

abbrev heading : Heading
heading = record { path = codes "d"; fields = record { name = codes "n"; kind = One elem.Count } ∷ [] }

-- Statuses

numbers : map number_of (status.Done ∷ status.Usage ∷ status.QueryRefused ∷ status.OpenFault ∷ status.WriteFault ∷ status.ReadFault ∷ status.InputFault ∷ status.Full ∷ status.ScriptFault ∷ status.Memory ∷ status.TooLong ∷ []) ≡ (0 ∷ 1 ∷ 2 ∷ 3 ∷ 4 ∷ 5 ∷ 6 ∷ 7 ∷ 8 ∷ 9 ∷ 10 ∷ [])
numbers = refl

-- Names of faults

fault_names : map fault_name (fault.NoHead ∷ fault.BadSeparator ∷ fault.FieldsTypes ∷ fault.TooManyColumns ∷ fault.EmptyName ∷ fault.SameName ∷ fault.UnknownKind ∷ fault.Floating ∷ fault.CellCount ∷ fault.BadCell ∷ fault.LineTooLong ∷ []) ≡ (codes "NoHead" ∷ codes "BadSeparator" ∷ codes "FieldsTypes" ∷ codes "TooManyColumns" ∷ codes "EmptyName" ∷ codes "SameName" ∷ codes "UnknownKind" ∷ codes "Floating" ∷ codes "CellCount" ∷ codes "BadCell" ∷ codes "LineTooLong" ∷ [])
fault_names = refl

capture_fault_names : map capture_fault_name (capture.BadMagic ∷ capture.VersionUnknown ∷ capture.LinkUnknown ∷ capture.RecordTooLong ∷ capture.ShortHead ∷ capture.ShortRecord ∷ []) ≡ (codes "BadMagic" ∷ codes "VersionUnknown" ∷ codes "LinkUnknown" ∷ codes "RecordTooLong" ∷ codes "ShortHead" ∷ codes "ShortRecord" ∷ [])
capture_fault_names = refl

form_names : map form_name (Compressed ∷ Pcapng ∷ []) ≡ (codes "Compressed" ∷ codes "Pcapng" ∷ [])
form_names = refl

-- Lines

no_layout_is_an_end_alone : check_text (record { given = []; end = None }) ≡ line (codes "end done")
no_layout_is_an_end_alone = refl

-- where all went well a scan tells nothing of the end
ends : map end_text (None ∷ Some ReadFault ∷ Some TooLong ∷ []) ≡ (codes "done" ∷ codes "read fault" ∷ codes "too long" ∷ [])
ends = refl

ends_of_scans : (scan_end None ∷ scan_end (Some ReadFault) ∷ scan_end (Some TooLong) ∷ check_end (Some ReadFault) ∷ []) ≡ ([] ∷ line (codes "read fault") ∷ line (codes "too long") ∷ line (codes "end read fault") ∷ [])
ends_of_scans = refl

faults_have_line_and_column : (fault_text (input.Line 12 0 fault.NoHead) ∷ fault_text (input.Line 3 4 fault.BadCell) ∷ []) ≡ (codes "fault line 12 column 0 NoHead" ∷ codes "fault line 3 column 4 BadCell" ∷ [])
unfolding digits
faults_have_line_and_column = refl

faults_of_captures_have_an_offset : (fault_text (input.Place 184 capture.ShortRecord) ∷ fault_text (input.Form Compressed) ∷ offset_text 12 (codes "x") ∷ []) ≡ (codes "fault offset 184 ShortRecord" ∷ codes "fault offset 0 Compressed" ∷ codes "fault offset 12 x" ∷ [])
unfolding digits
faults_of_captures_have_an_offset = refl

-- Steps

abbrev event : Heading → List Cell → Event
event heading cells = record { heading = heading; cells = cells }

abbrev part : Heading → ℕ → Part
part heading rows = record { heading = heading; rows = rows }

-- a layout of two columns under a path with a backslash
abbrev pair : Heading
pair = record { path = codes "a\\b"; fields = record { name = codes "m"; kind = One elem.Count } ∷ (record { name = codes "n"; kind = One elem.Count } ∷ []) }

-- neither has anything else
events_are_headings_and_cells : (e : Event) → e ≡ event e.heading e.cells
events_are_headings_and_cells e = refl

parts_are_headings_and_rows : (p : Part) → p ≡ part p.heading p.rows
parts_are_headings_and_rows p = refl

rows_before_a_head_have_no_path_and_no_columns : ((heading_or_none None).path ≡ []) × ((heading_or_none None).fields ≡ [])
rows_before_a_head_have_no_path_and_no_columns = (refl, refl)

a_head_changes_the_rows_behind_it : events_behind heading (Line (Unset ∷ []) ∷ (Head pair ∷ (Line [] ∷ []))) ≡ event heading (Unset ∷ []) ∷ (event pair [] ∷ [])
a_head_changes_the_rows_behind_it = refl

rows_up_to_the_next_head : map rows_first ([] ∷ (Line [] ∷ Line [] ∷ Head heading ∷ Line [] ∷ []) ∷ (Head heading ∷ Line [] ∷ []) ∷ []) ≡ (0 ∷ 2 ∷ 0 ∷ [])
rows_up_to_the_next_head = refl

parts_tell_columns_and_rows : part_text (part pair 11) ≡ codes "layout a\\\\b columns 2 rows 11"
unfolding digits
parts_tell_columns_and_rows = refl

-- the events that match, in order, and no other
matches_are_told : (first second third : Event) (expr : Expr) → holds first.heading first.cells expr ≡ true → holds second.heading second.cells expr ≡ false → holds third.heading third.cells expr ≡ true
    → matches_text expr (first ∷ (second ∷ (third ∷ []))) ≡ line (row_text first) ++ line (row_text third)
matches_are_told first second third expr one misses other = rw one (rw misses (rw other (ap (λ (rows : List ℕ). line (row_text first) ++ rows) (append-nil (line (row_text third))))))

rows_are_counted_up_to_the_next_head :
    parts_of (Head heading ∷ (Line (Unset ∷ []) ∷ (Line (Unset ∷ []) ∷ (Head heading ∷ []))))
    ≡ part heading 2 ∷ (part heading 0 ∷ [])
rows_are_counted_up_to_the_next_head = refl

-- each row with the last heading before it
events_have_the_last_heading :
    map (λ e. e.heading.path) (events_of (Head heading ∷ Line [] ∷ Head (record { path = codes "e"; fields = [] }) ∷ Line [] ∷ Line [] ∷ [])) ≡ (codes "d" ∷ codes "e" ∷ codes "e" ∷ [])
events_have_the_last_heading = refl

-- a row is its path and each cell behind a tab
rows_are_told : row_text (record { heading = heading; cells = Unset ∷ OneCell (Count 3) ∷ [] }) ≡ codes "d" ++ 9 ∷ 45 ∷ 9 ∷ 51 ∷ []
unfolding cell_text value_text digits
rows_are_told = refl

layouts_are_told : check_text (record { given = Head heading ∷ Line [] ∷ Line [] ∷ []; end = (Some TooLong) }) ≡ line (codes "layout d columns 1 rows 2") ++ line (codes "end too long")
unfolding digits
layouts_are_told = refl

-- a scan tells the rows that match, in order, and no other
scan_of_a_match : (cells : List Cell) (expr : Expr) → holds heading cells expr ≡ true
    → scan_text (record { given = Head heading ∷ Line cells ∷ []; end = (Some ReadFault) }) expr ≡ line (row_text (record { heading = heading; cells = cells })) ++ line (codes "read fault")
scan_of_a_match cells expr h = rw h (ap (λ (rows : List ℕ). rows ++ line (codes "read fault")) (append-nil (line (row_text (record { heading = heading; cells = cells })))))

scan_of_no_match : (cells : List Cell) (expr : Expr) → holds heading cells expr ≡ false → scan_text (record { given = Head heading ∷ Line cells ∷ []; end = None }) expr ≡ []
scan_of_no_match cells expr h = rw h refl

-- the status that an end of a log gives
abbrev status_of_end : Option ImportEnd → Status
status_of_end None = status.Done
status_of_end (Some (Fault what)) = status.InputFault
status_of_end (Some ReadFault) = status.ReadFault
status_of_end (Some TooLong) = status.TooLong
status_of_end _ = status.Memory

-- the whole text with the end that the status tells, or a part of it where a write failed or memory was wanting
whole_texts : (before : Option (List ℕ)) (text : List ℕ) → TellsText status.Done None text before (append_known before text) × TellsText status.ReadFault (Some ReadFault) text before (append_known before text) × TellsText status.InputFault (Some (Fault (input.Line 1 2 fault.BadCell))) text before (append_known before text) × TellsText status.TooLong (Some TooLong) text before (append_known before text)
whole_texts before text = ((refl, refl), (refl, refl), (tt, refl), (refl, refl))

parts_of_texts : TellsText status.WriteFault None (codes "bc") (Some (codes "a")) (Some (codes "ab")) × TellsText status.Memory None (codes "bc") (Some (codes "a")) (Some (codes "ab"))
parts_of_texts = (record { count = 1; within = lit≤ tt; is = refl }, record { count = 1; within = lit≤ tt; is = refl })

no_more_is_told : (end : Option ImportEnd) (text : List ℕ) (before now : Option (List ℕ)) → (TellsText status.WriteFault end text before now → WritesPart before now text) × (TellsText status.Memory end text before now → WritesPart before now text)
no_more_is_told end text before now = ((λ told. told), (λ told. told))

a_status_tells_its_end : (s : Status) (end : Option ImportEnd) (text : List ℕ) (before now : Option (List ℕ)) → TellsText s end text before now → s ≢ status.WriteFault → s ≢ status.Memory
    → (status_of_end end ≡ s) × (now ≡ append_known before text)
a_status_tells_its_end status.Done end text before now told write memory = (ap status_of_end told.0, told.1)
a_status_tells_its_end status.ReadFault end text before now told write memory = (ap status_of_end told.0, told.1)
a_status_tells_its_end status.TooLong end text before now told write memory = (ap status_of_end told.0, told.1)
a_status_tells_its_end status.InputFault (Some (Fault what)) text before now told write memory = (refl, told.1)
a_status_tells_its_end status.InputFault _ text before now told write memory = absurd told.0
a_status_tells_its_end status.WriteFault end text before now told write memory = absurd (write refl)
a_status_tells_its_end status.Memory end text before now told write memory = absurd (memory refl)
a_status_tells_its_end _ end text before now told write memory = absurd told

some_steps_are_told : (text : Answers LogStep → List ℕ) (steps : Answers LogStep) (before : Option (List ℕ)) → steps.end ≡ None → TellsSome status.Done text before (append_known before (text steps))
some_steps_are_told text steps before done = (steps, (done, refl))

what_is_told_is_of_some_steps : (text : Answers LogStep → List ℕ) (before now : Option (List ℕ)) → TellsSome status.Done text before now → (steps : Answers LogStep) × (steps.end ≡ None) × (now ≡ append_known before (text steps))
what_is_told_is_of_some_steps text before now some = (some.0, some.1.0, some.1.1)

-- How the source went

each_end_is_told : (what : InputFault) → GoesBy status.Done how.Done None × GoesBy status.ReadFault how.ReadFault (Some ReadFault) × GoesBy status.InputFault (how.Fault what) (Some (Fault what)) × GoesBy status.TooLong how.TooLong (Some TooLong)
each_end_is_told what = (refl, refl, refl, refl)

other_end : (how.Done ≡ how.Unread) ⊎ (how.Done ≡ how.ReadFault) → ⊥
other_end (inl same) = cc
other_end (inr same) = cc

an_end_may_be_unread_where_the_sink_failed : GoesBy status.WriteFault how.Unread (Some ReadFault) × GoesBy status.WriteFault how.ReadFault (Some ReadFault) × (¬ GoesBy status.WriteFault how.Done (Some ReadFault)) × (¬ GoesBy status.Done how.Unread None)
an_end_may_be_unread_where_the_sink_failed = (inl refl, inr refl, (λ goes. other_end goes), (λ same. cc))

each_status_has_its_end : (what : InputFault) → GoesWith status.Done how.Done × GoesWith status.ReadFault how.ReadFault × GoesWith status.InputFault (how.Fault what) × GoesWith status.TooLong how.TooLong × GoesWith status.WriteFault how.Unread × (¬ GoesWith status.WriteFault how.Memory) × (¬ GoesWith status.InputFault how.Done)
each_status_has_its_end what = (refl, refl, tt, refl, (λ same. cc), (λ goes. goes refl), (λ goes. goes))

-- Which counts stand, and what is left

a_read_may_fail_where_no_end_was_met : ReadsWell status.ReadFault 4 5 × ReadsWell status.WriteFault 4 5 × ReadsWell status.Memory 4 5
a_read_may_fail_where_no_end_was_met = (tt, tt, tt)

no_read_failed_before_an_end : (¬ ReadsWell status.Done 4 5) × (¬ ReadsWell status.InputFault 4 5) × (¬ ReadsWell status.TooLong 4 5)
no_read_failed_before_an_end = ((λ same. omega (arith, same)), (λ same. omega (arith, same)), (λ same. omega (arith, same)))

each_status_may_have_read_well : (s : Status) (count : ℕ) → ReadsWell s count count
each_status_may_have_read_well status.Done count = refl
each_status_may_have_read_well status.InputFault count = refl
each_status_may_have_read_well status.TooLong count = refl
each_status_may_have_read_well _ count = tt

only_a_report_that_is_done_leaves_nothing : LeavesNothing status.Done (Some []) × LeavesNothing status.Done None × LeavesNothing status.InputFault (Some (codes "a")) × LeavesNothing status.ReadFault (Some (codes "a")) × LeavesNothing status.WriteFault (Some (codes "a")) × LeavesNothing status.TooLong (Some (codes "a")) × LeavesNothing status.Memory (Some (codes "a")) × (¬ LeavesNothing status.Done (Some (codes "a")))
only_a_report_that_is_done_leaves_nothing = (refl, tt, tt, tt, tt, tt, tt, (λ none. let n : 1 ≡ 0 = ap (λ (xs : List ℕ). length xs) none in omega (arith, n)))

no_other_fault : IsFault None → ⊥
no_other_fault h = h

what_was_left : rest_of {S = ℕ} (λ n. Some (n ∷ [])) (λ n. n + 1) 4 ≡ record { left = Some (4 ∷ []); faults = 5 }
what_was_left = refl
