-- What the definitions give at chosen places. In a text `^` stands for a tab and `$` for a newline.
use Rattle.std.proofs.Common.{◌≡◌, ℕ, ◌==◌, true, false, if◌then◌else◌, List, [], ◌∷◌, Option, None, Some, Ok, Err, map, length, codes, nat_lt, refl, lit≤, ap, arith}
use Rattle.std.specs.Fmt.{digits}
use Rattle.std.proofs.lemmas.Bool.{lt-ltb, le-leb}
use Rattle.source_block.specs.Holding.{most_bytes}
use Rattle.source_block.specs.declared.stop.Stop.TheVariants.{AtEnd, Failed, AtBound}
use Rattle.vast_value.specs.declared.kind.Elem.TheVariants as elem
use Rattle.vast_value.specs.declared.kind.Kind.TheVariants as kind
use Rattle.vast_value.specs.declared.cell.Cell.TheVariants.{One, Many, Unset}
use Rattle.vast_value.specs.declared.transport.Transport.TheVariants.{Tcp}
use Rattle.vast_value.specs.declared.value.Value.TheVariants.{Count, Port, Text}
use Rattle.vast_value.specs.declared.column.Column.{Column}
use Rattle.vast_value.specs.declared.kind.Kind.{Kind}
use Rattle.vast_value.specs.Headings.{Field, Heading}
use Rattle.vast_value.specs.declared.layout.BadLayout.TheVariants as layouts
use Rattle.value_text.specs.declared.Marks.{Marks}
use Rattle.value_text.specs.Reading.{cell_read, value_read}
use Rattle.value_text.specs.Writing.{cell_text, value_text}
use Rattle.zeek_log.specs.declared.fault.At.{At}
use Rattle.zeek_log.specs.declared.fault.ZeekFault.{ZeekFault}
use Rattle.zeek_log.specs.declared.fault.ZeekFault.TheVariants.{NoHead, BadSeparator, FieldsTypes, TooManyColumns, EmptyName, SameName, UnknownKind, Floating, CellCount, BadCell, LineTooLong}
use Rattle.zeek_log.specs.declared.step.ZeekEnd.{ZeekEnd}
use Rattle.zeek_log.specs.declared.step.ZeekEnd.TheVariants.{Done, Fault, ReadFault, TooLong}
use Rattle.zeek_log.specs.Going.{lines_left}
use Rattle.zeek_log.specs.Heads.{Told, opened, opening, single_byte, separator_of, fault_of, name_fault, names_fault, unless_at, names_read, within_brackets, is_floating, kind_read, then_kind, kinds_read}
use Rattle.zeek_log.specs.Laws.{IsWritable, written_log, is_plain, has_data_line}
use Rattle.zeek_log.specs.declared.looked.Form.TheVariants as form
use Rattle.zeek_log.specs.Looks.{form_of, looks_from}
use Rattle.zeek_log.specs.Numbers.{number_in}
use Rattle.zeek_log.specs.Lines.{is_too_long, last_line, lines_of, pieces_of}
use Rattle.zeek_log.specs.Reader.{State, Reads, Last, Ended, Reading, EndsAs, Follows, MayFollow, IsMetAtLast, CountsOf, come_from, heading_told}
use Rattle.zeek_log.specs.Steps.{Steps, ended, first, follow, steps_from, end_of, steps_of, steps_of_source, taken_steps}
use Rattle.zeek_log.specs.Table.{LogStep, Head, Line, Outcome, Goes, Gives, Breaks, breaks_at, separator_told, set_separator_told, names_told, empty_told, unset_told, path_told, field_with, fields_with, head_told, fields_made, fields_read, fields_head, types_told, named_head, head_line, then_cell, cells_read, row_read, row_told, data_told, data_line, line_outcome}

abbrev byte : ℕ → ℕ
byte b = if b == 94 then 9 else (if b == 36 then 10 else b)

abbrev text : List ℕ → List ℕ
text codes = map byte codes

abbrev at : ℕ → ZeekFault → At
at n what = record { column = n; what = what }

-- Lines

-- a newline ends a line, and the last may lack it; where more may be to come, what stands behind the last newline is no line
lines_there : lines_of AtEnd (text (codes "a$$b")) ≡ codes "a" ∷ ([] ∷ (codes "b" ∷ []))
lines_there = refl

lines_cut : lines_of Failed (text (codes "a$b")) ≡ codes "a" ∷ []
lines_cut = refl

lines_bound : lines_of AtBound (text (codes "a$b")) ≡ codes "a" ∷ []
lines_bound = refl

-- 1,048,576 bytes are a line, one more are not
line_of_most : (line : List ℕ) → length line ≡ 1048576 → is_too_long line ≡ false
line_of_most line long = ap (nat_lt 1048576) long

line_too_long : (line : List ℕ) → length line ≡ 1048577 → is_too_long line ≡ true
line_too_long line long = ap (nat_lt 1048576) long

-- what stands behind the last newline is a line, also an empty one, where all bytes are there; else only where it is too long
last_lines : map (λ stop. map (last_line stop) (codes "a" ∷ ([] ∷ []))) (AtEnd ∷ (Failed ∷ (AtBound ∷ []))) ≡ ((codes "a" ∷ []) ∷ (([] ∷ []) ∷ [])) ∷ (([] ∷ ([] ∷ [])) ∷ (([] ∷ ([] ∷ [])) ∷ []))
last_lines = refl

a_last_line_that_is_too_long : (line : List ℕ) → length line ≡ 1048577 → (last_line Failed line ≡ line ∷ []) × (last_line AtBound line ≡ line ∷ [])
a_last_line_that_is_too_long line long = let over : is_too_long line ≡ true = line_too_long line long in rw over (refl, refl)

-- a text of cells, of which the second is empty
cells : pieces_of 9 (text (codes "a^^b")) ≡ codes "a" ∷ ([] ∷ (codes "b" ∷ []))
cells = refl

-- Separators

-- one byte as itself, whichever it is, or as `\\xHH`
single_bytes : map single_byte (codes "," ∷ (codes "\\" ∷ (codes "\\x0a" ∷ (codes "\\xfF" ∷ [])))) ≡ Some 44 ∷ (Some 92 ∷ (Some 10 ∷ (Some 255 ∷ [])))
single_bytes = refl

no_single_bytes : map single_byte ([] ∷ (codes ",," ∷ (codes "\\x9" ∷ (codes "\\x0g" ∷ (codes "\\y09" ∷ (codes "/x09" ∷ (codes "\\x009" ∷ []))))))) ≡ None ∷ (None ∷ (None ∷ (None ∷ (None ∷ (None ∷ (None ∷ []))))))
no_single_bytes = refl

-- one byte, or a backslash, `x` and two digits in either case
separators : map separator_of (codes "\\x09" ∷ (codes "\\x7C" ∷ (codes "\\x7c" ∷ (codes "," ∷ (codes "\\xfF" ∷ []))))) ≡ Some 9 ∷ (Some 124 ∷ (Some 124 ∷ (Some 44 ∷ (Some 255 ∷ []))))
separators = refl

-- not a newline, `#` or a backslash, in either form, nor anything else
no_separators : map separator_of (text (codes "$") ∷ (codes "#" ∷ (codes "\\" ∷ (codes "\\x0a" ∷ (codes "\\x23" ∷ (codes "\\x5C" ∷ [])))))) ≡ None ∷ (None ∷ (None ∷ (None ∷ (None ∷ (None ∷ [])))))
no_separators = refl

no_form : map separator_of ([] ∷ (codes "\\x9" ∷ (codes "\\x0g" ∷ (codes "\\y09" ∷ (codes "/x09" ∷ (codes ",," ∷ [])))))) ≡ None ∷ (None ∷ (None ∷ (None ∷ (None ∷ (None ∷ [])))))
no_form = refl

-- Names and types

names : names_read (codes "a" ∷ (codes "b" ∷ [])) ≡ Ok (codes "a" ∷ (codes "b" ∷ []))
names = refl

name_empty : names_read (codes "a" ∷ ([] ∷ (codes "a" ∷ []))) ≡ Err (at 2 EmptyName)
name_empty = refl

name_again : names_read (codes "a" ∷ (codes "b" ∷ (codes "a" ∷ []))) ≡ Err (at 3 SameName)
name_again = refl

-- the first bad one of the names is told, by its column; those before may stand in front of the list
the_first_bad_name : map (names_fault 3 (codes "a" ∷ (codes "b" ∷ []))) ((codes "c" ∷ (codes "b" ∷ ([] ∷ []))) ∷ ((codes "c" ∷ (codes "c" ∷ [])) ∷ ((codes "c" ∷ (codes "d" ∷ [])) ∷ []))) ≡ Some (at 4 SameName) ∷ (Some (at 4 SameName) ∷ (None ∷ []))
the_first_bad_name = refl

the_257th_name : names_fault 256 [] (codes "a" ∷ (codes "a" ∷ [])) ≡ Some (at 257 TooManyColumns)
the_257th_name = refl

names_unless_one_is_bad : map (λ bad. unless_at bad (codes "a" ∷ [])) (None ∷ (Some (at 2 EmptyName) ∷ [])) ≡ Ok (codes "a" ∷ []) ∷ (Err (at 2 EmptyName) ∷ [])
names_unless_one_is_bad = refl

-- what is wrong with a layout, as a log's fault: without a path or a column there is no head
faults_of_layouts : map fault_of (layouts.TooManyColumns ∷ (layouts.EmptyName 3 ∷ (layouts.SameName 3 ∷ (layouts.EmptyPath ∷ (layouts.NoColumns ∷ []))))) ≡ TooManyColumns ∷ (EmptyName ∷ (SameName ∷ (NoHead ∷ (NoHead ∷ []))))
faults_of_layouts = refl

-- there may be 256 names; that there is one more is told before all else of it
name_256 : name_fault 256 [] (codes "a") ≡ None
name_256 = refl

name_257 : name_fault 257 ([] ∷ []) [] ≡ Some (at 257 TooManyColumns)
name_257 = refl

-- a name without letters is told before that it is there
name_twice_empty : name_fault 2 ([] ∷ []) [] ≡ Some (at 2 EmptyName)
name_twice_empty = refl

-- the name of each type
types : kinds_read 1 (codes "bool" ∷ (codes "count" ∷ (codes "int" ∷ (codes "time" ∷ (codes "interval" ∷ (codes "string" ∷ (codes "enum" ∷ (codes "addr" ∷ (codes "subnet" ∷ (codes "port" ∷ (codes "set[addr]" ∷ (codes "vector[count]" ∷ [])))))))))))) ≡ Ok (kind.One elem.Bool ∷ (kind.One elem.Count ∷ (kind.One elem.Int ∷ (kind.One elem.Time ∷ (kind.One elem.Span ∷ (kind.One elem.Text ∷ (kind.One elem.Name ∷ (kind.One elem.Addr ∷ (kind.One elem.Subnet ∷ (kind.One elem.Port ∷ (kind.SetOf elem.Addr ∷ (kind.VecOf elem.Count ∷ []))))))))))))
types = refl

-- types that are none, and those of floating point numbers
no_types : map (kind_read 3) (codes "float" ∷ (codes "set[set[int]]" ∷ (codes "set[int" ∷ (codes "setint]" ∷ (codes "set[]" ∷ (codes "vector[table[int]]" ∷ [])))))) ≡ Err (at 3 UnknownKind) ∷ (Err (at 3 UnknownKind) ∷ (Err (at 3 UnknownKind) ∷ (Err (at 3 UnknownKind) ∷ (Err (at 3 UnknownKind) ∷ (Err (at 3 UnknownKind) ∷ [])))))
no_types = refl

floating : map (kind_read 3) (codes "double" ∷ (codes "set[double]" ∷ (codes "vector[double]" ∷ []))) ≡ Err (at 3 Floating) ∷ (Err (at 3 Floating) ∷ (Err (at 3 Floating) ∷ []))
floating = refl

floating_alone : map is_floating (codes "double" ∷ (codes "set[double]" ∷ (codes "vector[double]" ∷ (codes "float" ∷ (codes "table[double]" ∷ (codes "set[set[double]]" ∷ (codes "doubles" ∷ []))))))) ≡ true ∷ (true ∷ (true ∷ (false ∷ (false ∷ (false ∷ (false ∷ []))))))
floating_alone = refl

-- between the front and the last bracket
between_brackets : map (within_brackets (codes "set[")) (codes "set[int]" ∷ (codes "set[]" ∷ (codes "set[set[int]]" ∷ (codes "set[int" ∷ (codes "setint]" ∷ (codes "vector[int]" ∷ (codes "a set[int]" ∷ []))))))) ≡ Some (codes "int") ∷ (Some [] ∷ (Some (codes "set[int]") ∷ (None ∷ (None ∷ (None ∷ (None ∷ []))))))
between_brackets = refl

-- a kind is put before the others, and what is wrong with it is told before what is wrong with these
a_kind_before_others : map (then_kind (Ok (kind.One elem.Int))) (Ok (kind.One elem.Bool ∷ []) ∷ (Err (at 2 Floating) ∷ [])) ≡ Ok (kind.One elem.Int ∷ (kind.One elem.Bool ∷ [])) ∷ (Err (at 2 Floating) ∷ [])
a_kind_before_others = refl

a_bad_kind_before_others : map (then_kind (Err (at 1 UnknownKind))) (Ok [] ∷ (Err (at 2 Floating) ∷ [])) ≡ Err (at 1 UnknownKind) ∷ (Err (at 1 UnknownKind) ∷ [])
a_bad_kind_before_others = refl

-- the first bad type is told
type_of_column : kinds_read 1 (codes "count" ∷ (codes "double" ∷ (codes "float" ∷ []))) ≡ Err (at 2 Floating)
type_of_column = refl

-- Lines and what they do, behind a head of the path d with one column n of counts

abbrev marks : ℕ → List ℕ → List ℕ → Marks
marks set_separator empty unset = record { set_separator = set_separator; empty = empty; unset = unset }

abbrev usual : Marks
usual = marks 44 (codes "(empty)") (codes "-")

abbrev heading : List ℕ → Heading
heading path = record { path = path; fields = record { name = codes "n"; kind = kind.One elem.Count } ∷ [] }

abbrev told_with : Marks → List ℕ → List ℕ → Option Heading → Told
told_with marks path name heading = record { separator = 9; marks = marks; path = path; names = name ∷ []; heading = heading }

abbrev told : Told
told = told_with usual (codes "d") (codes "n") (Some (heading (codes "d")))

abbrev two_fields : List Field
two_fields = record { name = codes "n"; kind = kind.One elem.Count } ∷ (record { name = codes "s"; kind = kind.SetOf elem.Int } ∷ [])

abbrev other_marks : Told
other_marks = record { separator = 124; marks = marks 44 (codes "e") (codes "u"); path = codes "d"; names = codes "n" ∷ (codes "s" ∷ []); heading = None }

-- a line by its text
abbrev does : Told → List ℕ → Outcome
does told line = line_outcome told (text line)

before_all : opening ≡ record { separator = 9; marks = usual; path = []; names = []; heading = None }
before_all = refl

empty_line : does told [] ≡ Goes told
empty_line = refl

-- `#separator` with a space puts all back; with a tab, or alone, it is a line that is skipped
separator_line : does told (codes "#separator \\x7c") ≡ Goes (opened 124)
separator_line = refl

separator_bad : does told (codes "#separator \\x9") ≡ Breaks 0 BadSeparator
separator_bad = refl

separator_none : does told (codes "#separator ") ≡ Breaks 0 BadSeparator
separator_none = refl

separator_skipped : map (does told) (codes "#separator" ∷ (codes "#separator^," ∷ (codes "#" ∷ (codes "#open^x" ∷ [])))) ≡ Goes told ∷ (Goes told ∷ (Goes told ∷ (Goes told ∷ [])))
separator_skipped = refl

set_separator_line : does told (codes "#set_separator^;") ≡ Goes (told_with (marks 59 (codes "(empty)") (codes "-")) (codes "d") (codes "n") (Some (heading (codes "d"))))
set_separator_line = refl

set_separator_bad : does told (codes "#set_separator^#") ≡ Breaks 0 BadSeparator
set_separator_bad = refl

empty_field_line : does told (codes "#empty_field^e^f") ≡ Goes (told_with (marks 44 (text (codes "e^f")) (codes "-")) (codes "d") (codes "n") (Some (heading (codes "d"))))
empty_field_line = refl

unset_field_line : does told (codes "#unset_field^u") ≡ Goes (told_with (marks 44 (codes "(empty)") (codes "u")) (codes "d") (codes "n") (Some (heading (codes "d"))))
unset_field_line = refl

-- a new path ends no layout
path_line : does told (codes "#path^e") ≡ Goes (told_with usual (codes "e") (codes "n") (Some (heading (codes "d"))))
path_line = refl

-- new names do
fields_line : does told (codes "#fields^m") ≡ Goes (told_with usual (codes "d") (codes "m") None)
fields_line = refl

fields_bad : does told (codes "#fields^m^m") ≡ Breaks 2 SameName
fields_bad = refl

fields_none : does told (codes "#fields") ≡ Breaks 1 EmptyName
fields_none = refl

types_line : does (told_with usual (codes "e") (codes "n") None) (codes "#types^count") ≡ Gives (told_with usual (codes "e") (codes "n") (Some (heading (codes "e")))) (Head (heading (codes "e")))
types_line = refl

-- without a path there is no head, whatever the types; then their number counts, and then each of them
types_pathless : does (told_with usual [] (codes "n") None) (codes "#types^double^x") ≡ Breaks 0 NoHead
types_pathless = refl

types_number : does told (codes "#types^double^x") ≡ Breaks 0 FieldsTypes
types_number = refl

types_floating : does told (codes "#types^double") ≡ Breaks 1 Floating
types_floating = refl

types_unknown : does told (codes "#types^float") ≡ Breaks 1 UnknownKind
types_unknown = refl

-- a data line needs a path, names and a layout, in this order
data_pathless : does (told_with usual [] (codes "n") (Some (heading (codes "d")))) (codes "7") ≡ Breaks 0 NoHead
data_pathless = refl

data_nameless : does (record { separator = 9; marks = usual; path = codes "d"; names = []; heading = None }) (codes "7") ≡ Breaks 0 NoHead
data_nameless = refl

data_typeless : does (told_with usual (codes "d") (codes "n") None) (codes "7") ≡ Breaks 0 FieldsTypes
data_typeless = refl

data_row : does told (codes "7") ≡ Gives told (Line (One (Count 7) ∷ []))
unfolding cell_read value_read
data_row = refl

data_unset : does told (codes "-") ≡ Gives told (Line (Unset ∷ []))
unfolding cell_read value_read
data_unset = refl

-- the number of cells is told before a bad cell
data_count : does told (codes "x^1") ≡ Breaks 0 CellCount
data_count = refl

data_bad : does told (codes "x") ≡ Breaks 1 BadCell
unfolding cell_read value_read
data_bad = refl

-- of a line that is too long nothing else is told
data_long : (line : List ℕ) → length line ≡ 1048576 → line_outcome opening (35 ∷ line) ≡ Breaks 0 LineTooLong
data_long line long = let over : is_too_long (35 ∷ line) ≡ true = lt-ltb 1048576 (length (35 ∷ line)) (omega (arith, long)) in rw over refl

-- The parts of the table

a_fault_in_its_column : breaks_at (at 3 BadCell) ≡ Breaks 3 BadCell
a_fault_in_its_column = refl

-- a separator puts all back, and a set separator puts itself alone; none is a fault
a_separator_puts_all_back : map separator_told (Some 124 ∷ (None ∷ [])) ≡ Goes (opened 124) ∷ (Breaks 0 BadSeparator ∷ [])
a_separator_puts_all_back = refl

a_set_separator_is_new_alone : map (set_separator_told told) (Some 59 ∷ (None ∷ [])) ≡ Goes (record told { marks = marks 59 (codes "(empty)") (codes "-") }) ∷ (Breaks 0 BadSeparator ∷ [])
a_set_separator_is_new_alone = refl

-- the text that is told is new alone
texts_told : empty_told told (codes "e") ∷ (unset_told told (codes "e") ∷ (path_told told (codes "e") ∷ []))
    ≡ Goes (record told { marks = marks 44 (codes "e") (codes "-") })
    ∷ (Goes (record told { marks = marks 44 (codes "(empty)") (codes "e") })
    ∷ (Goes (record told { path = codes "e" }) ∷ []))
texts_told = refl

-- names end the layout before them
new_names_end_a_layout : map (names_told told) (Ok (codes "m" ∷ []) ∷ (Err (at 2 SameName) ∷ [])) ≡ Goes (told_with usual (codes "d") (codes "m") None) ∷ (Breaks 2 SameName ∷ [])
new_names_end_a_layout = refl

-- a head is told, and holds from there on
a_head_is_told_and_holds : head_told told (heading (codes "e")) ≡ Gives (record told { heading = Some (heading (codes "e")) }) (Head (heading (codes "e")))
a_head_is_told_and_holds = refl

-- a head has the path that is told by then
a_head_of_fields : map (fields_head (told_with usual (codes "e") (codes "n") None)) (Ok (field_with (codes "n") (kind.One elem.Count) ∷ []) ∷ (Err (at 1 Floating) ∷ []))
    ≡ Gives (told_with usual (codes "e") (codes "n") (Some (heading (codes "e")))) (Head (heading (codes "e"))) ∷ (Breaks 1 Floating ∷ [])
a_head_of_fields = refl

-- each name goes with the kind at its place
names_go_with_kinds_in_order : fields_with (codes "n" ∷ (codes "s" ∷ [])) (kind.One elem.Count ∷ (kind.SetOf elem.Int ∷ [])) ≡ two_fields
names_go_with_kinds_in_order = refl

fields_unless_a_kind_is_bad : map (fields_made (codes "n" ∷ (codes "s" ∷ []))) (Ok (kind.One elem.Count ∷ (kind.SetOf elem.Int ∷ [])) ∷ (Err (at 2 Floating) ∷ [])) ≡ Ok two_fields ∷ (Err (at 2 Floating) ∷ [])
fields_unless_a_kind_is_bad = refl

-- the number of types is told before a bad one, both of fewer and of more than names
fields_of_types : map (fields_read (codes "n" ∷ (codes "s" ∷ []))) ((codes "count" ∷ (codes "set[int]" ∷ [])) ∷ ((codes "count" ∷ (codes "float" ∷ [])) ∷ ((codes "float" ∷ []) ∷ ((codes "count" ∷ (codes "float" ∷ (codes "int" ∷ []))) ∷ []))))
    ≡ Ok two_fields ∷ (Err (at 2 UnknownKind) ∷ (Err (at 0 FieldsTypes) ∷ (Err (at 0 FieldsTypes) ∷ [])))
fields_of_types = refl

types_need_a_path : map (λ path. types_told (told_with usual path (codes "n") None) (codes "count" ∷ [])) (codes "e" ∷ ([] ∷ [])) ≡ Gives (told_with usual (codes "e") (codes "n") (Some (heading (codes "e")))) (Head (heading (codes "e"))) ∷ (Breaks 0 NoHead ∷ [])
types_need_a_path = refl

-- the line of each name, and one of no name here, whose value is skipped
head_lines_by_name : map (λ name. named_head told name (codes "e")) (codes "#path" ∷ (codes "#empty_field" ∷ (codes "#unset_field" ∷ (codes "#fields" ∷ (codes "#types" ∷ (codes "#set_separator" ∷ (codes "#separator" ∷ (codes "#Path" ∷ []))))))))
    ≡ Goes (record told { path = codes "e" })
    ∷ (Goes (record told { marks = marks 44 (codes "e") (codes "-") })
    ∷ (Goes (record told { marks = marks 44 (codes "(empty)") (codes "e") })
    ∷ (Goes (told_with usual (codes "d") (codes "e") None)
    ∷ (Breaks 1 UnknownKind
    ∷ (Goes (record told { marks = marks 101 (codes "(empty)") (codes "-") })
    ∷ (Goes told ∷ (Goes told ∷ [])))))))
head_lines_by_name = refl

-- a space behind `#separator`, and the separator that was told behind any other name, without which its value is empty
head_lines_by_their_text : map (head_line other_marks) (codes "#separator ," ∷ (codes "#path|e|f" ∷ (codes "#path e" ∷ (codes "#path" ∷ []))))
    ≡ Goes (opened 44) ∷ (Goes (record other_marks { path = codes "e|f" }) ∷ (Goes other_marks ∷ (Goes (record other_marks { path = [] }) ∷ [])))
head_lines_by_their_text = refl

-- a cell is put before the others, and what is wrong with it is told before what is wrong with these
a_cell_before_others : map (then_cell 2 (Some Unset)) (Ok (Many [] ∷ []) ∷ (Err (at 3 BadCell) ∷ [])) ≡ Ok (Unset ∷ (Many [] ∷ [])) ∷ (Err (at 3 BadCell) ∷ [])
a_cell_before_others = refl

a_bad_cell_before_others : map (then_cell 2 None) (Ok [] ∷ (Err (at 3 BadCell) ∷ [])) ≡ Err (at 2 BadCell) ∷ (Err (at 2 BadCell) ∷ [])
a_bad_cell_before_others = refl

-- each text is read by the kind at its place, and the first bad one is told
cells_of_texts : map (cells_read usual 3 two_fields) ((codes "7" ∷ (codes "-" ∷ [])) ∷ ((codes "7" ∷ (codes "x" ∷ [])) ∷ ((codes "x" ∷ (codes "y" ∷ [])) ∷ []))) ≡ Ok (One (Count 7) ∷ (Unset ∷ [])) ∷ (Err (at 4 BadCell) ∷ (Err (at 3 BadCell) ∷ []))
unfolding cell_read value_read
cells_of_texts = refl

-- the number of cells is told before a bad one, both of fewer and of more than columns
rows_of_texts : map (row_read usual two_fields) ((codes "7" ∷ (codes "-" ∷ [])) ∷ ((codes "7" ∷ (codes "x" ∷ [])) ∷ ((codes "x" ∷ []) ∷ ((codes "7" ∷ (codes "x" ∷ (codes "1" ∷ []))) ∷ [])))) ≡ Ok (One (Count 7) ∷ (Unset ∷ [])) ∷ (Err (at 2 BadCell) ∷ (Err (at 0 CellCount) ∷ (Err (at 0 CellCount) ∷ [])))
unfolding cell_read value_read
rows_of_texts = refl

a_row_leaves_what_was_told : map (row_told told) (Ok (Unset ∷ []) ∷ (Err (at 1 BadCell) ∷ [])) ≡ Gives told (Line (Unset ∷ [])) ∷ (Breaks 1 BadCell ∷ [])
a_row_leaves_what_was_told = refl

-- a row is read by the layout, the separator and the marks that were told
rows_need_names_and_types : data_told other_marks (Some (record { path = codes "d"; fields = two_fields })) (codes "7|u") ∷ (data_told told None (codes "7") ∷ (data_told opening None (codes "7") ∷ []))
    ≡ Gives other_marks (Line (One (Count 7) ∷ (Unset ∷ []))) ∷ (Breaks 0 FieldsTypes ∷ (Breaks 0 NoHead ∷ []))
unfolding cell_read value_read
rows_need_names_and_types = refl

rows_need_a_path : data_line told (codes "7") ∷ (data_line (told_with usual [] (codes "n") (Some (heading (codes "d")))) (codes "7") ∷ []) ≡ Gives told (Line (One (Count 7) ∷ [])) ∷ (Breaks 0 NoHead ∷ [])
unfolding cell_read value_read
rows_need_a_path = refl

-- Whole logs

why_a_log_ends : map end_of (AtEnd ∷ (Failed ∷ (AtBound ∷ []))) ≡ Done ∷ (ReadFault ∷ (TooLong ∷ []))
why_a_log_ends = refl

abbrev steps : List LogStep → ZeekEnd → Steps
steps given end = record { given = given; end = end }

an_end_gives_no_step : ended (Fault 5 2 BadCell) ≡ steps [] (Fault 5 2 BadCell)
an_end_gives_no_step = refl

a_step_before_others : first (Line (Unset ∷ [])) (steps (Line [] ∷ []) ReadFault) ≡ steps (Line (Unset ∷ []) ∷ (Line [] ∷ [])) ReadFault
a_step_before_others = refl

-- other lines follow in the state that is told, and none follows a fault
a_line_and_the_others : map (λ outcome. follow 5 outcome (λ now. steps (Head (heading now.path) ∷ []) Done)) (Goes told ∷ (Gives told (Line []) ∷ (Breaks 2 BadCell ∷ [])))
    ≡ steps (Head (heading (codes "d")) ∷ []) Done ∷ (steps (Line [] ∷ (Head (heading (codes "d")) ∷ [])) Done ∷ (steps [] (Fault 5 2 BadCell) ∷ []))
a_line_and_the_others = refl

-- each line counts, also one that is skipped
steps_of_lines : map (steps_from 4 ReadFault told) ([] ∷ ((codes "7" ∷ ([] ∷ (codes "8" ∷ []))) ∷ ((codes "7" ∷ ([] ∷ (codes "x" ∷ (codes "8" ∷ [])))) ∷ [])))
    ≡ steps [] ReadFault ∷ (steps (Line (One (Count 7) ∷ []) ∷ (Line (One (Count 8) ∷ []) ∷ [])) ReadFault ∷ (steps (Line (One (Count 7) ∷ []) ∷ []) (Fault 6 1 BadCell) ∷ []))
unfolding cell_read value_read
steps_of_lines = refl

abbrev log : List ℕ
log = text (codes "#path^d$#fields^n$#types^count$7$8")

abbrev two_rows : List LogStep
two_rows = Head (heading (codes "d")) ∷ (Line (One (Count 7) ∷ []) ∷ (Line (One (Count 8) ∷ []) ∷ []))

-- the last line needs no newline
whole_log : steps_of log AtEnd ≡ record { given = two_rows; end = Done }
unfolding cell_read value_read
whole_log = refl

-- but where a read failed, or the bound was met, it is no line yet
cut_log : steps_of log Failed ≡ record { given = Head (heading (codes "d")) ∷ (Line (One (Count 7) ∷ []) ∷ []); end = ReadFault }
unfolding cell_read value_read
cut_log = refl

bound_log : steps_of log AtBound ≡ record { given = Head (heading (codes "d")) ∷ (Line (One (Count 7) ∷ []) ∷ []); end = TooLong }
unfolding cell_read value_read
bound_log = refl

-- rows behind a second `#fields` have no types, and the fault is in the fifth line
second_fields : steps_of (text (codes "#path^d$#fields^n$#types^count$#fields^n$7$")) AtEnd ≡ record { given = Head (heading (codes "d")) ∷ []; end = Fault 5 0 FieldsTypes }
unfolding cell_read value_read
second_fields = refl

-- a bad cell of the second column, behind a row
bad_second : (steps_of (text (codes "#path^d$#fields^n^m$#types^count^count$1^2$1^x$")) AtEnd).end ≡ Fault 5 2 BadCell
unfolding cell_read value_read
bad_second = refl

-- of a source the bytes count that were taken, where a read failed, and else all
source_failed : steps_of_source log (text (codes "$8")) true ≡ record { given = Head (heading (codes "d")) ∷ []; end = ReadFault }
unfolding cell_read value_read
source_failed = refl

source_read : steps_of_source log [] false ≡ record { given = two_rows; end = Done }
unfolding cell_read value_read
source_read = refl

-- with 2^36 bytes taken the bound is met
source_bound : (bytes taken : List ℕ) → length taken ≡ most_bytes → taken_steps bytes taken false ≡ steps_of taken AtBound
source_bound bytes taken full = rw (le-leb most_bytes (length taken) (omega (arith, full))) refl

-- what a reader has still to give at first, and at its last line
at_first : (bytes : List ℕ) → come_from (Reads opening 1) bytes AtEnd ≡ steps_of bytes AtEnd
at_first bytes = refl

at_last : come_from (Last told) (codes "7") Failed ≡ record { given = []; end = Done }
at_last = refl

at_end : come_from (Ended TooLong) (codes "7") AtEnd ≡ record { given = []; end = TooLong }
at_end = refl

headings : map heading_told (Reads told 5 ∷ (Last told ∷ (Ended Done ∷ []))) ≡ Some (heading (codes "d")) ∷ (Some (heading (codes "d")) ∷ (None ∷ []))
headings = refl

lines_to_come : lines_left (Reads told 5) ≡ 68719476733
lines_to_come = refl

-- Written logs

abbrev column : List ℕ → Kind → Field
column name kind = record { name = name; kind = kind }

abbrev three_columns : Heading
three_columns = record { path = codes "d"; fields = column (codes "n") (kind.One elem.Count) ∷ (column (codes "s") (kind.SetOf elem.Int) ∷ (column (codes "v") (kind.VecOf elem.Span) ∷ [])) }

log_written : written_log three_columns ((One (Count 7) ∷ (Unset ∷ (Unset ∷ []))) ∷ ((Unset ∷ (Many [] ∷ (Unset ∷ []))) ∷ [])) ≡ text (codes "#separator \\x09$#path^d$#fields^n^s^v$#types^count^set[int]^vector[interval]$7^-^-$-^(empty)^-$")
unfolding cell_text value_text digits
log_written = refl

-- a path may hold a tab
writable : IsWritable (heading (text (codes "d^e"))) ((One (Count 7) ∷ []) ∷ ((Unset ∷ []) ∷ []))
unfolding cell_text value_text digits
writable = record { sound = refl; path = refl; names = refl; fits = refl; are_data = refl; short = refl }

-- an empty text alone has a line, the set of one has none, and a text may begin with `#`
data_lines : map has_data_line ((One (Text []) ∷ []) ∷ ((Many (Some (Text []) ∷ []) ∷ []) ∷ ((One (Text (codes "#")) ∷ []) ∷ ((Unset ∷ (One (Text (codes "#")) ∷ [])) ∷ [])))) ≡ true ∷ (false ∷ (false ∷ (true ∷ [])))
unfolding cell_text value_text
data_lines = refl

plain_names : map is_plain (text (codes "a^") ∷ (text (codes "$a") ∷ (codes "a b" ∷ []))) ≡ false ∷ (false ∷ (true ∷ []))
plain_names = refl

-- What a reader answers

abbrev reading : State → Reading
reading state = record { state = state; held = codes "7"; taken = 5; kept = 65536 }

-- the bound is the end only with 2^36 bytes taken, and all is read only where the source has no byte left
not_too_long : EndsAs (reading (Ended TooLong)) [] None 5 TooLong → ⊥
not_too_long e = let full = e.1 in omega arith

not_done : EndsAs (reading (Ended Done)) [] (Some (7 ∷ [])) 5 Done → ⊥
not_done e = let left = e.1.0 in cc

-- nor is another end than the one to come
not_failed : EndsAs (reading (Ended Done)) [] None 5 ReadFault → ⊥
not_failed e = let other = ap (λ (s : Steps). s.end) e in cc

-- behind a last line without its newline nothing follows, and it is given only at the source's end
nothing_behind : MayFollow (Last told) (7 ∷ []) AtEnd → ⊥
nothing_behind e = let none = e.0 in cc

no_other_reason : MayFollow (Last told) [] Failed → ⊥
no_other_reason e = let all = e.1 in cc

last_at_end : IsMetAtLast (Last told) (Some (7 ∷ [])) 5 → ⊥
last_at_end e = let left = e.0 in cc

-- an end stays, and behind the last line comes `Done`
end_stays : Follows (Ended TooLong) (reading (Ended TooLong)) (reading (Ended TooLong)) None None (Err TooLong)
end_stays = (refl, refl, refl)

no_other_end : Follows (Ended TooLong) (reading (Ended TooLong)) (reading (Ended TooLong)) None None (Err Done) → ⊥
no_other_end e = let same = e.0 in cc

last_is_done : Follows (Last told) (reading (Last told)) (reading (Ended Done)) None None (Err Done)
last_is_done = (refl, refl, refl)

-- a failed read counts a fault, no other answer does, nor an end that is given again
one_more : CountsOf (Reads told 5) (Err ReadFault) 3 4
one_more = lit≤ tt

none_more : CountsOf (Reads told 5) (Err ReadFault) 3 3 → ⊥
none_more e = omega arith

none_at_done : CountsOf (Reads told 5) (Err Done) 3 4 → ⊥
none_at_done e = omega arith

none_again : CountsOf (Ended ReadFault) (Err ReadFault) 3 4 → ⊥
none_again e = omega arith

none_at_last : CountsOf (Last told) (Err ReadFault) 3 4 → ⊥
none_at_last e = omega arith

-- columns of texts want no look, nor do containers of them
abbrev column_of : Kind → Column
column_of k = record { name = codes "c"; kind = k; short = lit≤ tt }

wanted_looks : looks_from 5 (map column_of (kind.One elem.Text ∷ (kind.One elem.Port ∷ (kind.SetOf elem.Name ∷ (kind.VecOf elem.Addr ∷ []))))) ≡ record { column = 6; form = form.Port } ∷ (record { column = 8; form = form.Other } ∷ [])
wanted_looks = refl

forms : map form_of (kind.One elem.Count ∷ (kind.One elem.Int ∷ (kind.One elem.Time ∷ (kind.One elem.Subnet ∷ (kind.SetOf elem.Count ∷ []))))) ≡ form.Number ∷ (form.Number ∷ (form.Seconds ∷ (form.Other ∷ (form.Other ∷ []))))
forms = refl

-- Numbers of cells.
numbers_in_cells : (number_in (Some (One (Count 53))) ∷ number_in (Some (One (Port 80 Tcp))) ∷ number_in (Some (One (Text []))) ∷ number_in (Some Unset) ∷ number_in None ∷ []) ≡ (Some 53 ∷ Some 80 ∷ None ∷ None ∷ None ∷ [])
numbers_in_cells = refl
