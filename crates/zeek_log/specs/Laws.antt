-- How a log is written, and what can be written so that it is read again.
use Rattle.std.specs.Prelude.{◌≡◌, ℕ, ◌==◌, Bool, true, false, not, ◌&&◌, List, [], ◌∷◌, ◌++◌, None, map, codes}
use Rattle.std.specs.List.{flat_map, join_with_byte, list_all, list_any}
use Rattle.vast_value.specs.declared.cell.Cell.{Cell}
use Rattle.vast_value.specs.declared.kind.Kind.{Kind}
use Rattle.vast_value.specs.declared.kind.Kind.TheVariants as kind
use Rattle.vast_value.specs.Headings.{Field, Heading, heading_fault, fits_fields}
use Rattle.vast_value.specs.Kinds.{elem_name}
use Rattle.value_text.specs.Writing.{cell_text}
use Rattle.zeek_log.specs.Lines.{is_too_long}

-- the name of a kind, as a `#types` line has it
abbrev pub type_text : Kind → List ℕ
type_text (kind.One e) = elem_name e
type_text (kind.SetOf e) = codes "set[" ++ (elem_name e ++ codes "]")
type_text (kind.VecOf e) = codes "vector[" ++ (elem_name e ++ codes "]")

abbrev pub name_of : Field → List ℕ
name_of field = field.name

abbrev pub type_of : Field → List ℕ
type_of field = type_text field.kind

-- texts with a tab between two
abbrev pub tabbed : List (List ℕ) → List ℕ
tabbed texts = join_with_byte 9 texts

-- the separator, the path, and the name and type of each column
abbrev pub head_lines : Heading → List (List ℕ)
head_lines heading =
    codes "#separator \\x09" ∷
    ((codes "#path" ++ 9 ∷ heading.path) ∷
    ((codes "#fields" ++ 9 ∷ tabbed (map name_of heading.fields)) ∷
    ((codes "#types" ++ 9 ∷ tabbed (map type_of heading.fields)) ∷ [])))

abbrev pub row_line : List Cell → List ℕ
row_line row = tabbed (map cell_text row)

abbrev pub log_lines : Heading → List (List Cell) → List (List ℕ)
log_lines heading rows = head_lines heading ++ map row_line rows

-- A newline ends each line.
abbrev pub lines_text : List (List ℕ) → List ℕ
lines_text lines = flat_map (λ line. line ++ 10 ∷ []) lines

-- a log of a heading and rows
abbrev pub written_log : Heading → List (List Cell) → List ℕ
written_log heading rows = lines_text (log_lines heading rows)

-- the byte is not in the text
abbrev pub lacks : ℕ → List ℕ → Bool
lacks byte text = list_all (λ b. not (b == byte)) text

-- neither a tab nor a newline is in the text
abbrev pub is_plain : List ℕ → Bool
is_plain text = lacks 9 text && lacks 10 text

-- a line that is neither empty nor begins with `#`
abbrev pub is_data_line : List ℕ → Bool
is_data_line [] = false
is_data_line (b ∷ bs) = not (b == 35)

abbrev pub has_data_line : List Cell → Bool
has_data_line row = is_data_line (row_line row)

-- A layout's heading and rows that fit it. A path may hold a tab, and no name does. The line of a row may be empty, as
-- that of the set of one empty text is, or begin with `#`, as a text may: neither is read as a row.
pub record IsWritable (heading : Heading) (rows : List (List Cell)) : Type 0 where
  pub sound : heading_fault heading ≡ None
  pub path : lacks 10 heading.path ≡ true
  pub names : list_all is_plain (map name_of heading.fields) ≡ true
  pub fits : list_all (fits_fields heading.fields) rows ≡ true
  pub are_data : list_all has_data_line rows ≡ true
  pub short : list_any is_too_long (log_lines heading rows) ≡ false
