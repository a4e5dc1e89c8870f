-- What one line does: the table of head lines, data lines and their faults. The checks of one line come in the order in
-- which they stand here.
use Rattle.std.specs.Prelude.{ℕ, ◌+◌, ◌==◌, if◌then◌else◌, List, [], ◌∷◌, Option, None, Some, Result, Ok, Err, length, drop, codes, nat_eq}
use Rattle.std.specs.List.{before_first, after_first, starts_with}
use Rattle.std.specs.Str.{bytes_eq}
use Rattle.vast_value.specs.declared.cell.Cell.{Cell}
use Rattle.vast_value.specs.declared.kind.Kind.{Kind}
use Rattle.vast_value.specs.Headings.{Field, Heading}
use Rattle.vast_value.specs.Layouts.{is_empty}
use Rattle.value_text.specs.declared.Marks.{Marks}
use Rattle.value_text.specs.Reading.{cell_read}
use Rattle.zeek_log.specs.declared.fault.ZeekFault.{ZeekFault}
use Rattle.zeek_log.specs.declared.fault.ZeekFault.TheVariants.{NoHead, BadSeparator, FieldsTypes, CellCount, BadCell, LineTooLong}
use Rattle.zeek_log.specs.declared.fault.At.{At}
use Rattle.zeek_log.specs.Heads.{Told, opened, separator_of, names_read, kinds_read}
use Rattle.zeek_log.specs.Lines.{is_too_long, pieces_of}

-- what a step says
pub data LogStep : Type 0 where
  Head : Heading → LogStep
  Line : List Cell → LogStep

-- what comes of a line: nothing but what it told, a step, or a fault in a column
pub data Outcome : Type 0 where
  Goes : Told → Outcome
  Gives : Told → LogStep → Outcome
  Breaks : ℕ → ZeekFault → Outcome

abbrev pub breaks_at : At → Outcome
breaks_at at = Breaks at.column at.what

-- all else returns to the opening state, and the separator becomes the byte
abbrev pub separator_told : Option ℕ → Outcome
separator_told None = Breaks 0 BadSeparator
separator_told (Some byte) = Goes (opened byte)

abbrev pub set_separator_told : Told → Option ℕ → Outcome
set_separator_told told None = Breaks 0 BadSeparator
set_separator_told told (Some byte) = Goes (record told { marks = record { set_separator = byte; empty = told.marks.empty; unset = told.marks.unset } })

-- The names; the types are forgotten, and the layout before ends.
abbrev pub names_told : Told → Result (List (List ℕ)) At → Outcome
names_told told (Ok names) = Goes (record { separator = told.separator; marks = told.marks; path = told.path; names = names; heading = None })
names_told told (Err at) = breaks_at at

abbrev pub empty_told : Told → List ℕ → Outcome
empty_told told value =
    Goes (record { separator = told.separator; marks = record { set_separator = told.marks.set_separator; empty = value; unset = told.marks.unset }; path = told.path; names = told.names; heading = told.heading })

abbrev pub unset_told : Told → List ℕ → Outcome
unset_told told value =
    Goes (record { separator = told.separator; marks = record { set_separator = told.marks.set_separator; empty = told.marks.empty; unset = value }; path = told.path; names = told.names; heading = told.heading })

abbrev pub path_told : Told → List ℕ → Outcome
path_told told value = Goes (record { separator = told.separator; marks = told.marks; path = value; names = told.names; heading = told.heading })

abbrev pub field_with : List ℕ → Kind → Field
field_with name kind = record { name = name; kind = kind }

abbrev pub fields_with : List (List ℕ) → List Kind → List Field
fields_with [] kinds = []
fields_with (name ∷ names) [] = []
fields_with (name ∷ names) (kind ∷ kinds) = field_with name kind ∷ fields_with names kinds

abbrev pub head_told : Told → Heading → Outcome
head_told told heading = Gives (record { separator = told.separator; marks = told.marks; path = told.path; names = told.names; heading = Some heading }) (Head heading)

-- the fields of names and kinds
abbrev pub fields_made : List (List ℕ) → Result (List Kind) At → Result (List Field) At
fields_made names (Ok kinds) = Ok (fields_with names kinds)
fields_made names (Err at) = Err at

-- the fields of names and types: a type for each name, or what is wrong
abbrev pub fields_read : List (List ℕ) → List (List ℕ) → Result (List Field) At
fields_read names types =
    if length types == length names then fields_made names (kinds_read 1 types) else Err (record { column = 0; what = FieldsTypes })

abbrev pub fields_head : Told → Result (List Field) At → Outcome
fields_head told (Ok fields) = head_told told (record { path = told.path; fields = fields })
fields_head told (Err at) = breaks_at at

abbrev pub types_told : Told → List (List ℕ) → Outcome
types_told told types = if is_empty told.path then Breaks 0 NoHead else fields_head told (fields_read told.names types)

-- a head line by its name, and the value behind the first separator
abbrev pub named_head : Told → List ℕ → List ℕ → Outcome
named_head told name value =
    if bytes_eq name (codes "#set_separator") then set_separator_told told (separator_of value)
    else (if bytes_eq name (codes "#empty_field") then empty_told told value
    else (if bytes_eq name (codes "#unset_field") then unset_told told value
    else (if bytes_eq name (codes "#path") then path_told told value
    else (if bytes_eq name (codes "#fields") then names_told told (names_read (pieces_of told.separator value))
    else (if bytes_eq name (codes "#types") then types_told told (pieces_of told.separator value)
    else Goes told)))))

-- `#separator`, one space and a value; any other head line by its name. What has no name here is skipped.
abbrev pub head_line : Told → List ℕ → Outcome
head_line told line =
    if starts_with nat_eq line (codes "#separator ") then separator_told (separator_of (drop 11 line))
    else named_head told (before_first (λ b. b == told.separator) line) (after_first (λ b. b == told.separator) line)

abbrev pub then_cell : ℕ → Option Cell → Result (List Cell) At → Result (List Cell) At
then_cell n None rest = Err (record { column = n; what = BadCell })
then_cell n (Some cell) (Err at) = Err at
then_cell n (Some cell) (Ok cells) = Ok (cell ∷ cells)

-- the cells of as many raw texts as fields, the first of which is the n-th, or the first that can't be read
abbrev pub cells_read : Marks → ℕ → List Field → List (List ℕ) → Result (List Cell) At
cells_read marks n [] raws = Ok []
cells_read marks n (field ∷ fields) [] = Ok []
cells_read marks n (field ∷ fields) (raw ∷ raws) =
    then_cell n (cell_read marks field.kind raw) (cells_read marks (n + 1) fields raws)

-- the cells of raw texts: one for each field, or what is wrong
abbrev pub row_read : Marks → List Field → List (List ℕ) → Result (List Cell) At
row_read marks fields raws =
    if length raws == length fields then cells_read marks 1 fields raws else Err (record { column = 0; what = CellCount })

abbrev pub row_told : Told → Result (List Cell) At → Outcome
row_told told (Ok cells) = Gives told (Line cells)
row_told told (Err at) = breaks_at at

-- a data line where a path is set
abbrev pub data_told : Told → Option Heading → List ℕ → Outcome
data_told told None line = Breaks 0 (if is_empty told.names then NoHead else FieldsTypes)
data_told told (Some heading) line = row_told told (row_read told.marks heading.fields (pieces_of told.separator line))

abbrev pub data_line : Told → List ℕ → Outcome
data_line told line = if is_empty told.path then Breaks 0 NoHead else data_told told told.heading line

-- An empty line is skipped. A line that is too long is a fault whatever it holds. A line that begins with `#` is a head
-- line, every other a data line.
abbrev pub line_outcome : Told → List ℕ → Outcome
line_outcome told [] = Goes told
line_outcome told (b ∷ bs) =
    if is_too_long (b ∷ bs) then Breaks 0 LineTooLong
    else (if b == 35 then head_line told (b ∷ bs) else data_line told (b ∷ bs))
