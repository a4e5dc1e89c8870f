-- A log that is written of a heading and rows is read as these.
use Rattle.std.proofs.Common.{◌≡◌, ℕ, ◌+◌, ◌==◌, Bool, ◌&&◌, ◌||◌, true, false, not, if◌then◌else◌, List, [], ◌∷◌, ◌++◌, Option, None, Some, Ok, length, map, codes, refl, ap, sym, ◌∙◌}
use Rattle.std.specs.Cmp.Derive.{both_true}
use Rattle.std.specs.List.{list_all, list_any}
use Rattle.std.specs.Option.{option_or, option_map, ok_or}
use Rattle.std.proofs.lemmas.Bool.{and_parts, eq-eqb}
use Rattle.std.proofs.lemmas.List.{length-map}
use Rattle.std.proofs.lemmas.List.Folds.{list_all-append}
use Rattle.source_block.specs.declared.stop.Stop.TheVariants.{AtEnd}
use Rattle.vast_value.specs.declared.cell.Cell.{Cell}
use Rattle.vast_value.specs.declared.kind.Elem.{Elem}
use Rattle.vast_value.specs.declared.kind.Elem.TheVariants as elem
use Rattle.vast_value.specs.declared.kind.Kind.{Kind}
use Rattle.vast_value.specs.declared.kind.Kind.TheVariants as kind
use Rattle.vast_value.specs.declared.layout.BadLayout.{BadLayout}
use Rattle.vast_value.specs.declared.layout.BadLayout.TheVariants.{EmptyPath, NoColumns}
use Rattle.vast_value.specs.Headings.{Field, Heading, field_fault, fields_fault, heading_fault, fits_fields}
use Rattle.vast_value.specs.Kinds.{elem_name}
use Rattle.vast_value.specs.Layouts.{is_empty, name_fault as bad_name}
use Rattle.value_text.specs.Writing.{AreUsual, cell_text}
use Rattle.zeek_log.specs.declared.fault.At.{At}
use Rattle.zeek_log.specs.declared.fault.ZeekFault.TheVariants.{UnknownKind, Floating}
use Rattle.zeek_log.specs.declared.step.ZeekEnd.{ZeekEnd}
use Rattle.zeek_log.specs.declared.step.ZeekEnd.TheVariants.{Done}
use Rattle.zeek_log.specs.Heads.{Told, opening, fault_of, name_fault, names_fault, names_read, unless_at, kind_named, is_floating, kinds_read, then_kind}
use Rattle.zeek_log.specs.Laws.{type_text, name_of, type_of, tabbed, row_line, log_lines, written_log, lacks, is_plain, is_data_line, has_data_line, IsWritable}
use Rattle.zeek_log.specs.Lines.{is_too_long}
use Rattle.zeek_log.specs.Steps.{first, follow, steps_from, steps_of}
use Rattle.zeek_log.specs.Table.{LogStep, Head, Line, Outcome, Goes, Gives, names_told, fields_with, fields_made, fields_read, fields_head, types_told, head_line, row_told, data_line, line_outcome}
use Rattle.zeek_log.proofs.HeadLemmas.{some_none, both_none, among-map, map_push}
use Rattle.zeek_log.proofs.LawLemmas.{not_false, cut_joined, lines_again}
use Rattle.zeek_log.proofs.RowLawLemmas.{plain_lacks, plain_row, tabless, some_mapped, row_again}

-- Headings of layouts

unless : (b : Bool) (bad : BadLayout) (rest : Option BadLayout) → (if b then Some bad else rest) ≡ None → (b ≡ false) × (rest ≡ None)
unless true bad rest e = absurd (some_none refl e)
unless false bad rest e = (refl, e)

some_path : (heading : Heading) → heading_fault heading ≡ None → is_empty heading.path ≡ false
some_path heading sound =
    (unless (is_empty heading.path) EmptyPath (if is_empty heading.fields then Some NoColumns else fields_fault 1 [] heading.fields) sound).0

some_columns : (heading : Heading) → heading_fault heading ≡ None → (is_empty heading.fields ≡ false) × (fields_fault 1 [] heading.fields ≡ None)
some_columns heading sound =
    unless (is_empty heading.fields) NoColumns (fields_fault 1 [] heading.fields)
    (unless (is_empty heading.path) EmptyPath (if is_empty heading.fields then Some NoColumns else fields_fault 1 [] heading.fields) sound).1

fine_name : (n : ℕ) (before : List Field) (f : Field) → field_fault n before f ≡ None → name_fault n (map name_of before) f.name ≡ None
fine_name n before f fine =
    let at : BadLayout → At = λ bad. record { column = n; what = fault_of bad } in
    ap (λ (o : Option BadLayout). option_map at o) (ap (bad_name n f.name) (sym (among-map f.name before)) ∙ fine)

fine_names : (n : ℕ) (before fs : List Field) → fields_fault n before fs ≡ None → names_fault n (map name_of before) (map name_of fs) ≡ None
fine_names n before [] fine = refl
fine_names n before (f ∷ fs) fine =
    let parts = both_none (field_fault n before f) (fields_fault (n + 1) (before ++ f ∷ []) fs) fine in
    ap (λ (o : Option At). option_or o (names_fault (n + 1) (map name_of before ++ f.name ∷ []) (map name_of fs))) (fine_name n before f parts.0)
    ∙ ap (λ (b : List (List ℕ)). names_fault (n + 1) b (map name_of fs)) (sym (map_push before f))
    ∙ fine_names (n + 1) (before ++ f ∷ []) fs parts.1

-- The names of kinds

named_again : (e : Elem) → (kind_named (type_text (kind.One e)) ≡ Some (kind.One e)) × (kind_named (type_text (kind.SetOf e)) ≡ Some (kind.SetOf e)) × (kind_named (type_text (kind.VecOf e)) ≡ Some (kind.VecOf e))
named_again elem.Bool = (refl, refl, refl)
named_again elem.Count = (refl, refl, refl)
named_again elem.Int = (refl, refl, refl)
named_again elem.Time = (refl, refl, refl)
named_again elem.Span = (refl, refl, refl)
named_again elem.Text = (refl, refl, refl)
named_again elem.Name = (refl, refl, refl)
named_again elem.Addr = (refl, refl, refl)
named_again elem.Subnet = (refl, refl, refl)
named_again elem.Port = (refl, refl, refl)

-- the name of each kind names it
kind_again : (k : Kind) → kind_named (type_text k) ≡ Some k
kind_again (kind.One e) = (named_again e).0
kind_again (kind.SetOf e) = (named_again e).1
kind_again (kind.VecOf e) = (named_again e).2

plain_elem : (e : Elem) → is_plain (elem_name e) ≡ true
plain_elem elem.Bool = refl
plain_elem elem.Count = refl
plain_elem elem.Int = refl
plain_elem elem.Time = refl
plain_elem elem.Span = refl
plain_elem elem.Text = refl
plain_elem elem.Name = refl
plain_elem elem.Addr = refl
plain_elem elem.Subnet = refl
plain_elem elem.Port = refl

-- a byte that is not in a text is not in it with a bracket
bracketed : (byte : ℕ) (name : List ℕ) → lacks byte name ≡ true → lacks byte (codes "]") ≡ true → lacks byte (name ++ codes "]") ≡ true
bracketed byte name p q = list_all-append (λ b. not (b == byte)) name (codes "]") ∙ both_true {s = lacks byte name} {t = lacks byte (codes "]")} p q

plain_bracketed : (e : Elem) → is_plain (elem_name e ++ codes "]") ≡ true
plain_bracketed e =
    let parts = plain_lacks (elem_name e) (plain_elem e) in
    both_true {s = lacks 9 (elem_name e ++ codes "]")} {t = lacks 10 (elem_name e ++ codes "]")} (bracketed 9 (elem_name e) parts.0 refl) (bracketed 10 (elem_name e) parts.1 refl)

plain_type : (k : Kind) → is_plain (type_text k) ≡ true
plain_type (kind.One e) = plain_elem e
plain_type (kind.SetOf e) = plain_bracketed e
plain_type (kind.VecOf e) = plain_bracketed e

plain_types : (fs : List Field) → list_all is_plain (map type_of fs) ≡ true
plain_types [] = refl
plain_types (f ∷ fs) = both_true {s = is_plain (type_of f)} {t = list_all is_plain (map type_of fs)} (plain_type f.kind) (plain_types fs)

abbrev kind_of : Field → Kind
kind_of f = f.kind

kinds_again : (n : ℕ) (fs : List Field) → kinds_read n (map type_of fs) ≡ Ok (map kind_of fs)
kinds_again n [] = refl
kinds_again n (f ∷ fs) =
    let at : At = record { column = n; what = if is_floating (type_of f) then Floating else UnknownKind } in
    ap (λ (o : Option Kind). then_kind (ok_or o at) (kinds_read (n + 1) (map type_of fs))) (kind_again f.kind)
    ∙ ap (then_kind (Ok f.kind)) (kinds_again (n + 1) fs)

fields_again : (fs : List Field) → fields_with (map name_of fs) (map kind_of fs) ≡ fs
fields_again [] = refl
fields_again (f ∷ fs) = ap (λ (gs : List Field). f ∷ gs) (fields_again fs)

types_again : (fs : List Field) → fields_read (map name_of fs) (map type_of fs) ≡ Ok fs
types_again fs =
    let many : (length (map type_of fs) == length (map name_of fs)) ≡ true = eq-eqb (length (map type_of fs)) (length (map name_of fs)) (length-map fs type_of ∙ sym (length-map fs name_of)) in
    rw many (ap (fields_made (map name_of fs)) (kinds_again 1 fs) ∙ ap Ok (fields_again fs))

-- Steps

goes_on : (n : ℕ) (end : ZeekEnd) (told next : Told) (line : List ℕ) (lines : List (List ℕ)) → line_outcome told line ≡ Goes next
    → steps_from n end told (line ∷ lines) ≡ steps_from (n + 1) end next lines
goes_on n end told next line lines is = ap (λ (o : Outcome). follow n o (λ t. steps_from (n + 1) end t lines)) is

gives : (n : ℕ) (end : ZeekEnd) (told next : Told) (step : LogStep) (line : List ℕ) (lines : List (List ℕ)) → line_outcome told line ≡ Gives next step
    → steps_from n end told (line ∷ lines) ≡ first step (steps_from (n + 1) end next lines)
gives n end told next step line lines is = ap (λ (o : Outcome). follow n o (λ t. steps_from (n + 1) end t lines)) is

is_head : (told : Told) (bs : List ℕ) → is_too_long (35 ∷ bs) ≡ false → line_outcome told (35 ∷ bs) ≡ head_line told (35 ∷ bs)
is_head told bs short = rw short refl

is_data : (told : Told) (line : List ℕ) → is_data_line line ≡ true → is_too_long line ≡ false → line_outcome told line ≡ data_line told line
is_data told [] seen short = cc
is_data told (b ∷ bs) seen short = let no : (b == 35) ≡ false = not_false (b == 35) seen in rw (short, no) refl

-- what is known where a tab parts cells
abbrev known : List ℕ → List (List ℕ) → Option Heading → Told
known path names heading = record { separator = 9; marks = opening.marks; path = path; names = names; heading = heading }

path_again : (path : List ℕ) → is_too_long (codes "#path" ++ 9 ∷ path) ≡ false → line_outcome opening (codes "#path" ++ 9 ∷ path) ≡ Goes (known path [] None)
path_again path short = is_head opening (codes "path" ++ 9 ∷ path) short

names_again : (path : List ℕ) (names : List (List ℕ)) → is_too_long (codes "#fields" ++ 9 ∷ tabbed names) ≡ false → is_empty names ≡ false → list_all (lacks 9) names ≡ true → names_fault 1 [] names ≡ None
    → line_outcome (known path [] None) (codes "#fields" ++ 9 ∷ tabbed names) ≡ Goes (known path names None)
names_again path names short some plain fine =
    is_head (known path [] None) (codes "fields" ++ 9 ∷ tabbed names) short
    ∙ ap (λ (ns : List (List ℕ)). names_told (known path [] None) (names_read ns)) (cut_joined 9 names some plain)
    ∙ ap (λ (o : Option At). names_told (known path [] None) (unless_at o names)) fine

head_again : (path : List ℕ) (fs : List Field) → is_too_long (codes "#types" ++ 9 ∷ tabbed (map type_of fs)) ≡ false → is_empty path ≡ false → is_empty (map type_of fs) ≡ false
    → line_outcome (known path (map name_of fs) None) (codes "#types" ++ 9 ∷ tabbed (map type_of fs)) ≡ Gives (known path (map name_of fs) (Some (record { path = path; fields = fs }))) (Head (record { path = path; fields = fs }))
head_again path fs short full some =
    is_head (known path (map name_of fs) None) (codes "types" ++ 9 ∷ tabbed (map type_of fs)) short
    ∙ ap (types_told (known path (map name_of fs) None)) (cut_joined 9 (map type_of fs) some (tabless (map type_of fs) (plain_types fs)))
    ∙ rw full (ap (fields_head (known path (map name_of fs) None)) (types_again fs))

row_outcome : (path : List ℕ) (names : List (List ℕ)) (fs : List Field) (row : List Cell) → is_empty path ≡ false → fits_fields fs row ≡ true → has_data_line row ≡ true → is_too_long (row_line row) ≡ false
    → line_outcome (known path names (Some (record { path = path; fields = fs }))) (row_line row) ≡ Gives (known path names (Some (record { path = path; fields = fs }))) (Line row)
row_outcome path names fs [] full fits seen short = cc
row_outcome path names fs (x ∷ row) full fits seen short =
    let usual : AreUsual opening.marks = record { separator = refl; empty = refl; unset = refl } in
    is_data (known path names (Some (record { path = path; fields = fs }))) (row_line (x ∷ row)) seen short
    ∙ rw full (ap (row_told (known path names (Some (record { path = path; fields = fs })))) (row_again opening.marks fs (x ∷ row) usual fits refl))

neither : (a b : Bool) → (a || b) ≡ false → (a ≡ false) × (b ≡ false)
neither true b e = cc
neither false b e = (refl, e)

rows_again : (n : ℕ) (path : List ℕ) (names : List (List ℕ)) (fs : List Field) (rows : List (List Cell)) → is_empty path ≡ false → list_all (fits_fields fs) rows ≡ true → list_all has_data_line rows ≡ true → list_any is_too_long (map row_line rows) ≡ false
    → steps_from n Done (known path names (Some (record { path = path; fields = fs }))) (map row_line rows ++ ([] ∷ [])) ≡ record { given = map Line rows; end = Done }
rows_again n path names fs [] full fits seen short = refl
rows_again n path names fs (row ∷ rows) full fits seen short =
    let fit = and_parts (fits_fields fs row) (list_all (fits_fields fs) rows) fits in
    let here = and_parts (has_data_line row) (list_all has_data_line rows) seen in
    let few = neither (is_too_long (row_line row)) (list_any is_too_long (map row_line rows)) short in
    let told : Told = known path names (Some (record { path = path; fields = fs })) in
    gives n Done told told (Line row) (row_line row) (map row_line rows ++ ([] ∷ [])) (row_outcome path names fs row full fit.0 here.0 few.0)
    ∙ ap (first (Line row)) (rows_again (n + 1) path names fs rows full fit.1 here.1 few.1)

-- No line holds a newline

tabbed_lacks : (xs : List (List ℕ)) → list_all is_plain xs ≡ true → lacks 10 (tabbed xs) ≡ true
tabbed_lacks [] e = refl
tabbed_lacks (x ∷ []) e = (plain_lacks x (and_parts (is_plain x) true e).0).1
tabbed_lacks (x ∷ (y ∷ xs)) e =
    let parts = and_parts (is_plain x) (list_all is_plain (y ∷ xs)) e in
    list_all-append (λ b. not (b == 10)) x (9 ∷ tabbed (y ∷ xs))
    ∙ both_true {s = lacks 10 x} {t = lacks 10 (tabbed (y ∷ xs))} (plain_lacks x parts.0).1 (tabbed_lacks (y ∷ xs) parts.1)

rows_lack : (fs : List Field) (rows : List (List Cell)) → list_all (fits_fields fs) rows ≡ true → list_all (lacks 10) (map row_line rows) ≡ true
rows_lack fs [] fits = refl
rows_lack fs (row ∷ rows) fits =
    let parts = and_parts (fits_fields fs row) (list_all (fits_fields fs) rows) fits in
    both_true {s = lacks 10 (row_line row)} {t = list_all (lacks 10) (map row_line rows)} (tabbed_lacks (map cell_text row) (plain_row fs row parts.0)) (rows_lack fs rows parts.1)

lines_lack : (heading : Heading) (rows : List (List Cell)) → IsWritable heading rows → list_all (lacks 10) (log_lines heading rows) ≡ true
lines_lack heading rows can =
    let fs : List Field = heading.fields in
    let names : lacks 10 (tabbed (map name_of fs)) ≡ true = tabbed_lacks (map name_of fs) can.names in
    let types : lacks 10 (tabbed (map type_of fs)) ≡ true = tabbed_lacks (map type_of fs) (plain_types fs) in
    let below : list_all (lacks 10) (map row_line rows) ≡ true = rows_lack fs rows can.fits in
    let behind : (lacks 10 (tabbed (map type_of fs)) && list_all (lacks 10) (map row_line rows)) ≡ true = both_true types below in
    both_true {s = lacks 10 heading.path} can.path (both_true {s = lacks 10 (tabbed (map name_of fs))} names behind)

pub log_again : (heading : Heading) (rows : List (List Cell)) → IsWritable heading rows
    → steps_of (written_log heading rows) AtEnd ≡ record { given = Head heading ∷ map Line rows; end = Done }
log_again heading rows can =
    let path : List ℕ = heading.path in
    let fs : List Field = heading.fields in
    let names : List (List ℕ) = map name_of fs in
    let more : List (List ℕ) = map row_line rows ++ ([] ∷ []) in
    let full : is_empty path ≡ false = some_path heading can.sound in
    let columns = some_columns heading can.sound in
    let separator = neither (is_too_long (codes "#separator \\x09")) _ can.short in
    let few_path = neither (is_too_long (codes "#path" ++ 9 ∷ path)) _ separator.1 in
    let few_names = neither (is_too_long (codes "#fields" ++ 9 ∷ tabbed names)) _ few_path.1 in
    let few_types = neither (is_too_long (codes "#types" ++ 9 ∷ tabbed (map type_of fs))) _ few_names.1 in
    ap (steps_from 1 Done opening) (lines_again (log_lines heading rows) (lines_lack heading rows can))
    ∙ goes_on 2 Done opening (known path [] None) (codes "#path" ++ 9 ∷ path) ((codes "#fields" ++ 9 ∷ tabbed names) ∷ ((codes "#types" ++ 9 ∷ tabbed (map type_of fs)) ∷ more)) (path_again path few_path.0)
    ∙ goes_on 3 Done (known path [] None) (known path names None) (codes "#fields" ++ 9 ∷ tabbed names) ((codes "#types" ++ 9 ∷ tabbed (map type_of fs)) ∷ more)
    (names_again path names few_names.0 (some_mapped name_of fs columns.0) (tabless names can.names) (fine_names 1 [] fs columns.1))
    ∙ gives 4 Done (known path names None) (known path names (Some heading)) (Head heading) (codes "#types" ++ 9 ∷ tabbed (map type_of fs)) more (head_again path fs few_types.0 full (some_mapped type_of fs columns.0))
    ∙ ap (first (Head heading)) (rows_again 5 path names fs rows full can.fits can.are_data few_types.1)
