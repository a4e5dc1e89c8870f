-- The texts that are written of an input.
use Rattle.std.specs.Prelude.{ℕ, ◌+◌, List, [], ◌∷◌, ◌++◌, Option, None, Some, length, codes}
use Rattle.std.specs.Fmt.{decimal}
use Rattle.std.specs.List.{filter, flat_map}
use Rattle.value_text.specs.Writing.{cell_text, escaped_text}
use Rattle.vast_value.specs.declared.cell.Cell.{Cell}
use Rattle.vast_value.specs.Headings.{Heading}
use Rattle.query_meaning.specs.declared.expr.Expr.{Expr}
use Rattle.query_meaning.specs.Meaning.{holds}
use Rattle.zeek_log.specs.declared.fault.ZeekFault.{ZeekFault}
use Rattle.zeek_log.specs.declared.fault.ZeekFault.TheVariants as fault
use Rattle.zeek_log.specs.Reader.{heading_or_none}
use Rattle.pcap_file.specs.declared.end.CaptureFault.{CaptureFault}
use Rattle.pcap_file.specs.declared.end.CaptureFault.TheVariants as capture
use Rattle.zeek_log.specs.Table.{LogStep, Head, Line}
use Rattle.importer.specs.declared.ends.FormFault.{FormFault}
use Rattle.importer.specs.declared.ends.FormFault.TheVariants.{Compressed, Pcapng}
use Rattle.importer.specs.declared.ends.ImportEnd.{ImportEnd}
use Rattle.importer.specs.declared.ends.ImportEnd.TheVariants.{Fault, ReadFault, TooLong, Memory}
use Rattle.importer.specs.declared.ends.InputFault.{InputFault}
use Rattle.importer.specs.declared.ends.InputFault.TheVariants as input
use Rattle.importer.specs.Ending.{Answers}

abbrev pub line : List ℕ → List ℕ
line text = text ++ 10 ∷ []

-- Ends

abbrev pub fault_name : ZeekFault → List ℕ
fault_name fault.NoHead = codes "NoHead"
fault_name fault.BadSeparator = codes "BadSeparator"
fault_name fault.FieldsTypes = codes "FieldsTypes"
fault_name fault.TooManyColumns = codes "TooManyColumns"
fault_name fault.EmptyName = codes "EmptyName"
fault_name fault.SameName = codes "SameName"
fault_name fault.UnknownKind = codes "UnknownKind"
fault_name fault.Floating = codes "Floating"
fault_name fault.CellCount = codes "CellCount"
fault_name fault.BadCell = codes "BadCell"
fault_name fault.LineTooLong = codes "LineTooLong"

abbrev pub capture_fault_name : CaptureFault → List ℕ
capture_fault_name capture.BadMagic = codes "BadMagic"
capture_fault_name capture.VersionUnknown = codes "VersionUnknown"
capture_fault_name capture.LinkUnknown = codes "LinkUnknown"
capture_fault_name capture.RecordTooLong = codes "RecordTooLong"
capture_fault_name capture.ShortHead = codes "ShortHead"
capture_fault_name capture.ShortRecord = codes "ShortRecord"

abbrev pub form_name : FormFault → List ℕ
form_name Compressed = codes "Compressed"
form_name Pcapng = codes "Pcapng"

abbrev pub offset_text : ℕ → List ℕ → List ℕ
offset_text offset name = codes "fault offset " ++ (decimal offset ++ 32 ∷ name)

-- what is wrong with an input, and where; an unread form is wrong at its first byte
abbrev pub fault_text : InputFault → List ℕ
fault_text (input.Line l c what) = codes "fault line " ++ (decimal l ++ (codes " column " ++ (decimal c ++ 32 ∷ fault_name what)))
fault_text (input.Place offset what) = offset_text offset (capture_fault_name what)
fault_text (input.Form what) = offset_text 0 (form_name what)

-- how an input ended
abbrev pub end_text : Option ImportEnd → List ℕ
end_text None = codes "done"
end_text (Some (Fault what)) = fault_text what
end_text (Some ReadFault) = codes "read fault"
end_text (Some TooLong) = codes "too long"
end_text (Some Memory) = []

-- Rows

-- an event: the heading of its layout and its cells
pub record Event : Type 0 where
  pub heading : Heading
  pub cells : List Cell

-- the events of these steps: each row with the last heading before it
abbrev pub events_behind : Heading → List LogStep → List Event
events_behind heading [] = []
events_behind heading (Head next ∷ steps) = events_behind next steps
events_behind heading (Line cells ∷ steps) = record { heading = heading; cells = cells } ∷ events_behind heading steps

abbrev pub events_of : List LogStep → List Event
events_of steps = events_behind (heading_or_none None) steps

-- the path by the plain escape, and each cell behind a tab
abbrev pub row_text : Event → List ℕ
row_text event = escaped_text event.heading.path ++ flat_map (λ x. 9 ∷ cell_text x) event.cells

-- the line of each event that matches
abbrev pub matches_text : Expr → List Event → List ℕ
matches_text expr events = flat_map (λ e. line (row_text e)) (filter (λ e. holds e.heading e.cells expr) events)

-- the last line of a scan, and nothing where all went well
abbrev pub scan_end : Option ImportEnd → List ℕ
scan_end None = []
scan_end (Some end) = line (end_text (Some end))

-- What a scan writes of an input: the matching rows in order, and then its end.
abbrev pub scan_text : Answers LogStep → Expr → List ℕ
scan_text steps expr = matches_text expr (events_of steps.given) ++ scan_end steps.end

-- Layouts

-- a layout of an input, and how many rows it has
pub record Part : Type 0 where
  pub heading : Heading
  pub rows : ℕ

-- the rows before the next head
abbrev pub rows_first : List LogStep → ℕ
rows_first [] = 0
rows_first (Head next ∷ steps) = 0
rows_first (Line cells ∷ steps) = 1 + rows_first steps

-- these steps cut at their heads: each head with the number of its rows
abbrev pub parts_of : List LogStep → List Part
parts_of [] = []
parts_of (Head heading ∷ steps) = record { heading = heading; rows = rows_first steps } ∷ parts_of steps
parts_of (Line cells ∷ steps) = parts_of steps

abbrev pub part_text : Part → List ℕ
part_text part =
    codes "layout " ++ (escaped_text part.heading.path ++ (codes " columns " ++ (decimal (length part.heading.fields) ++ (codes " rows " ++ decimal part.rows))))

abbrev pub check_end : Option ImportEnd → List ℕ
check_end end = line (codes "end " ++ end_text end)

-- What a check writes of an input: its layouts in order, and then its end.
abbrev pub check_text : Answers LogStep → List ℕ
check_text steps = flat_map (λ part. line (part_text part)) (parts_of steps.given) ++ check_end steps.end
