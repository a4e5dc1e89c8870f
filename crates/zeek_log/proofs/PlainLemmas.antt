-- A line whose cells are seen to be well spelled is a row.
use Rattle.std.proofs.Common.{◌≡◌, ◌≢◌, ℕ, zero, suc, ◌+◌, ◌-◌, ◌<◌, ◌≤◌, Bool, true, false, List, [], ◌∷◌, ◌++◌, Option, None, Some, Result, Ok, Err, length, take, drop, get_or, map, refl, ap, sym, ◌∙◌, subst, arith, length-append, add-one}
use Rattle.std.specs.Prelude.{IsSome, IsSomeAnd, ◌==◌, codes, slice_get}
use Rattle.std.specs.List.{flat_map, join_with_byte, position_or_len}
use Rattle.std.specs.Option.{option_map}
use Rattle.std.proofs.lemmas.Bool.{eq-eqb, le-ltb, ne_eqb}
use Rattle.std.proofs.lemmas.List.{append-nil, drop-take, get_or-take, length-drop, length-take-le, map_more, take-take, take_all, take_more}
use Rattle.std.proofs.Math.Seq.{drop-cons, get_or-append_seam}
use Rattle.std.proofs.lemmas.Option.{slice_get-get_or, slice_get-map}
use Rattle.std.proofs.lemmas.List.Sums.{fails_before_first, passes_at_first}
use Rattle.memchr.specs.Find.{IsFirstByte, is_byte}
use Rattle.vast_value.specs.declared.kind.Elem.{Elem}
use Rattle.vast_value.specs.declared.kind.Elem.TheVariants as elem
use Rattle.vast_value.specs.declared.column.Column.{Column}
use Rattle.vast_value.specs.declared.kind.Kind.{Kind}
use Rattle.vast_value.specs.declared.kind.Kind.TheVariants as kind
use Rattle.vast_value.specs.declared.cell.Cell.{Cell}
use Rattle.vast_value.specs.declared.cell.Cell.TheVariants as cell
use Rattle.vast_value.specs.Headings.{Field, Heading, field_of}
use Rattle.vast_value.specs.Layouts.{is_empty}
use Rattle.value_reading.specs.declared.marks.Marks.{Marks}
use Rattle.value_reading.specs.Reading.{cell_read}
use Rattle.plain_cells.specs.Places.{CutsLine, cut_at, places_of}
use Rattle.plain_cells.specs.Readable.{IsReadable}
use Rattle.plain_cells.specs.Own.{IsOwnText}
use Rattle.plain_cells.proofs.OwnTextLemmas.{dash_own, empty_set_own, empty_list_own}
use Rattle.plain_cells.proofs.PlaceLemmas.{pieces_stand_between}
use Rattle.std.specs.Str.{bytes_eq}
use Rattle.plain_cells.proofs.ReadableLemmas.{unset_read, text_readable, name_readable, text_set_readable, name_set_readable, text_list_readable, name_list_readable}
use Rattle.value_text.specs.Writing.{AreUsual, cell_text}
use Rattle.zeek_log.specs.declared.fault.At.{At}
use Rattle.zeek_log.specs.Heads.{Told}
use Rattle.zeek_log.specs.Lines.{is_newline, is_too_long, pieces_of}
use Rattle.zeek_log.specs.Looks.{is_of_texts}
use Rattle.zeek_log.specs.Plain.{AreInOrder, AreRead, IsOwnPiece, IsPlain, IsWrittenAs, cells_or_none, cut_before, line_end, row_in, row_under, start_of}
use Rattle.zeek_log.proofs.LawLemmas.{pieces_joined}
use Rattle.zeek_log.specs.Table.{Gives, Line, cells_read, data_line, data_told, line_outcome, row_read, row_told, then_cell}

-- ---- cells that need no look at their bytes

pub texts_readable : (k : Kind) (raw : List ℕ) → is_of_texts k ≡ true → IsReadable k raw
texts_readable (kind.One elem.Text) raw text = text_readable raw
texts_readable (kind.One elem.Name) raw text = name_readable raw
texts_readable (kind.SetOf elem.Text) raw text = text_set_readable raw
texts_readable (kind.SetOf elem.Name) raw text = name_set_readable raw
texts_readable (kind.VecOf elem.Text) raw text = text_list_readable raw
texts_readable (kind.VecOf elem.Name) raw text = name_list_readable raw
texts_readable _ raw text = cc

-- a dash alone
pub dash_cell : (text : List ℕ) (count : ℕ) → count ≡ 1 → 1 ≤ length text → get_or text 0 0 ≡ 45 → take count text ≡ 45 ∷ []
dash_cell [] count one some is = absurd (omega arith)
dash_cell (b ∷ bs) count one some is = ap (λ (n : ℕ). take n (b ∷ bs)) one ∙ ap (λ (x : ℕ). x ∷ []) is

pub dash_read : (marks : Marks) (k : Kind) (raw : List ℕ) → marks.unset ≡ 45 ∷ [] → raw ≡ 45 ∷ [] → IsSome (cell_read marks k raw)
dash_read marks k raw unset is =
    unset_read marks k raw (ap (λ (r : List ℕ). bytes_eq r marks.unset) is ∙ ap (λ (u : List ℕ). bytes_eq (45 ∷ []) u) unset)

pub own_dash : (k : Kind) (raw : List ℕ) → raw ≡ codes "-" → IsOwnText k raw
own_dash k raw is = subst (λ (r : List ℕ). IsOwnText k r) (sym is) (dash_own k)

pub own_empty_set : (e : Elem) (raw : List ℕ) → raw ≡ codes "(empty)" → IsOwnText (kind.SetOf e) raw
own_empty_set e raw is = subst (λ (r : List ℕ). IsOwnText (kind.SetOf e) r) (sym is) (empty_set_own e)

pub own_empty_list : (e : Elem) (raw : List ℕ) → raw ≡ codes "(empty)" → IsOwnText (kind.VecOf e) raw
own_empty_list e raw is = subst (λ (r : List ℕ). IsOwnText (kind.VecOf e) r) (sym is) (empty_list_own e)

pub written_as : (o : Option Cell) (marks : Marks) (k : Kind) (raw : List ℕ) → AreUsual marks → IsOwnText k raw → cell_read marks k raw ≡ o → IsWrittenAs o raw
written_as None marks k raw usual own is = tt
written_as (Some x) marks k raw usual own is = own marks usual x is

-- ---- raw texts that read make a row

some_is : {X : Type 0} (o : Option X) → IsSome o → (x : X) × (o ≡ Some x)
some_is None some = cc
some_is (Some x) some = (x, refl)

all_read : (marks : Marks) (n : ℕ) (fields : List Field) (raws : List (List ℕ)) → length raws ≡ length fields → AreRead marks fields raws
    → (cells : List Cell) × (cells_read marks n fields raws ≡ Ok cells)
all_read marks n [] raws same are = ([], refl)
all_read marks n (f ∷ fs) [] same are = absurd (omega arith)
all_read marks n (f ∷ fs) (r ∷ rs) same are =
    let x = some_is (cell_read marks f.kind r) are.0 in
    let xs = all_read marks (n + 1) fs rs (omega arith) are.1 in
    (x.0 ∷ xs.0, ap (λ (o : Option Cell). then_cell n o (cells_read marks (n + 1) fs rs)) x.1 ∙ ap (then_cell n (Some x.0)) xs.1)

-- ---- a data line

data_outcome : (told : Told) (line : List ℕ) → 0 < length line → length line ≤ 1048576 → get_or line 0 0 ≢ 35 → line_outcome told line ≡ data_line told line
data_outcome told [] some few other = absurd (omega arith)
data_outcome told (b ∷ bs) some few other =
    let short : is_too_long (b ∷ bs) ≡ false = le-ltb 1048576 (length (b ∷ bs)) few in
    let no_head : (b == 35) ≡ false = ne_eqb b 35 other in
    rw (short, no_head)

path_told : (told : Told) (b : Bool) (line : List ℕ) → is_empty told.path ≡ b → b ≡ false → data_line told line ≡ data_told told told.heading line
path_told told b line is some = rw (is ∙ some) refl

row_outcome : (told : Told) (heading : Heading) (line : List ℕ) (cells : List Cell) → told.heading ≡ Some heading → is_empty told.path ≡ false
    → row_read told.marks heading.fields (pieces_of told.separator line) ≡ Ok cells → data_line told line ≡ Gives told (Line cells)
row_outcome told heading line cells stands path read =
    path_told told (is_empty told.path) line refl path
    ∙ ap (λ (h : Option Heading). data_told told h line) stands ∙ ap (row_told told) read

pub path_some : (xs : List ℕ) (b : Bool) → b ≡ (length xs == 0) → b ≡ false → is_empty xs ≡ false
path_some [] b is none = cc
path_some (x ∷ xs) b is none = refl

same_count : (marks : Marks) (fields : List Field) (raws : List (List ℕ)) → length raws ≡ length fields → row_read marks fields raws ≡ cells_read marks 1 fields raws
same_count marks fields raws same =
    let is : (length raws == length fields) ≡ true = eq-eqb (length raws) (length fields) same in
    rw is

cut_all : (places : List ℕ) (from : ℕ) (text : List ℕ) → cut_at places from text ≡ cut_before (places ++ length text ∷ []) from text
cut_all [] from text = ap (λ (r : List ℕ). r ∷ []) (sym (take_all (length text - from) (drop from text) (omega (arith, length-drop from text))))
cut_all (to ∷ more) from text = ap (λ (rs : List (List ℕ)). take (to - from) (drop from text) ∷ rs) (cut_all more (to + 1) text)

pub length-cut_before : (places : List ℕ) (from : ℕ) (text : List ℕ) → length (cut_before places from text) ≡ length places
length-cut_before [] from text = refl
length-cut_before (to ∷ more) from text = ap suc (length-cut_before more (to + 1) text)

-- ---- the places of a line

module _ (separator : ℕ) (text places : List ℕ) (count : ℕ) (cuts : CutsLine separator text places count) where
  abbrev newline_at : ℕ
  newline_at = position_or_len is_newline text

  abbrev marks_before : List ℕ
  marks_before = places_of (λ b. b == separator) 0 (take newline_at text)

  count_is : count ≡ length marks_before + 1
  count_is = omega (arith, ap length cuts.are, length-take-le count places cuts.within, length-append marks_before (newline_at ∷ []))

  pub some_places : 0 < count
  some_places = omega (arith, count_is)

  pub end_is : line_end places count ≡ newline_at
  end_is =
      sym (get_or-take count places (count - 1) 0 (omega (arith, count_is))) ∙ ap (λ (ps : List ℕ). get_or ps (count - 1) 0) cuts.are
      ∙ ap (λ (k : ℕ). get_or (marks_before ++ newline_at ∷ []) k 0) (omega (arith, count_is)) ∙ get_or-append_seam marks_before newline_at [] 0

  pub end_found : IsFirstByte (is_byte 10) text (Some newline_at)
  end_found = (
    record { low = omega arith; high = cuts.newline; before = λ k low below passes. let no = sym passes ∙ fails_before_first (is_byte 10) text k 0 below in cc },
    passes_at_first (is_byte 10) text 0 cuts.newline,
  )

  line_length : length (take newline_at text) ≡ newline_at
  line_length = length-take-le newline_at text (omega (arith, cuts.newline))

  pub pieces_are : pieces_of separator (take newline_at text) ≡ cut_before (take count places) 0 (take newline_at text)
  pieces_are =
      sym (pieces_stand_between (λ b. b == separator) (take newline_at text)) ∙ cut_all marks_before 0 (take newline_at text)
      ∙ ap (λ (n : ℕ). cut_before (marks_before ++ n ∷ []) 0 (take newline_at text)) line_length
      ∙ ap (λ (ps : List ℕ). cut_before ps 0 (take newline_at text)) (sym cuts.are)

  pub pieces_count : length (pieces_of separator (take newline_at text)) ≡ count
  pieces_count = ap length pieces_are ∙ length-cut_before (take count places) 0 (take newline_at text) ∙ length-take-le count places cuts.within

  pub front_stays : 0 < newline_at → get_or (take newline_at text) 0 0 ≡ get_or text 0 0
  front_stays some = get_or-take newline_at text 0 0 some

-- what is found of a line makes it plain
module _ (told : Told) (heading : Heading) (text places : List ℕ) (count : ℕ) (cuts : CutsLine told.separator text places count)
    (stands : told.heading ≡ Some heading) (path : is_empty told.path ≡ false) (same : count ≡ length heading.fields) where
  plain_at : (e : ℕ) → e ≡ position_or_len is_newline text → (0 < e) × (e ≤ 1048576) × (e + 64 ≤ length text) × (get_or text 0 0 ≢ 35)
      → AreRead told.marks heading.fields (cut_before (take count places) 0 (take e text))
      → (cells : List Cell) × (row_in told (take e text) ≡ Ok cells) × (line_outcome told (take e text) ≡ Gives told (Line cells))
  plain_at e is row are =
      let line = take e text in
      let long : length line ≡ e = length-take-le e text (omega (arith, row.2)) in
      let pieces : pieces_of told.separator line ≡ cut_before (take count places) 0 line =
      subst (λ (k : ℕ). pieces_of told.separator (take k text) ≡ cut_before (take count places) 0 (take k text)) (sym is) (pieces_are told.separator text places count cuts) in
      let many : length (pieces_of told.separator line) ≡ length heading.fields =
      subst (λ (k : ℕ). length (pieces_of told.separator (take k text)) ≡ count) (sym is) (pieces_count told.separator text places count cuts) ∙ same in
      let all = all_read told.marks 1 heading.fields (pieces_of told.separator line) many
      (subst (λ (rs : List (List ℕ)). AreRead told.marks heading.fields rs) (sym pieces) are) in
      let read : row_read told.marks heading.fields (pieces_of told.separator line) ≡ Ok all.0 =
      same_count told.marks heading.fields (pieces_of told.separator line) many ∙ all.1 in
      let front : get_or line 0 0 ≢ 35 = subst (λ (b : ℕ). b ≢ 35) (sym (get_or-take e text 0 0 row.0)) row.3 in (
        all.0,
        ap (λ (h : Option Heading). row_under told h line) stands ∙ read,
        data_outcome told line (omega (arith, long, row.0)) (omega (arith, long, row.1)) front ∙ row_outcome told heading line all.0 stands path read,
      )

  pub plain_is : (0 < line_end places count) × (line_end places count ≤ 1048576) × (line_end places count + 64 ≤ length text) × (get_or text 0 0 ≢ 35)
      → AreRead told.marks heading.fields (cut_before (take count places) 0 (take (line_end places count) text))
      → AreInOrder 0 (line_end places count) (take count places) → IsPlain told text places count
  plain_is row are order =
      let is = end_is told.separator text places count cuts in
      let line = take (line_end places count) text in
      let at = plain_at (line_end places count) is row are in
      let cells : at.0 ≡ cells_or_none (row_in told line) = ap cells_or_none (sym at.1) in
      record {
        found = subst (λ (k : ℕ). IsFirstByte (is_byte 10) text (Some k)) (sym is) (end_found told.separator text places count cuts);
        pieces = subst (λ (k : ℕ). pieces_of told.separator (take k text) ≡ cut_before (take count places) 0 (take k text)) (sym is) (pieces_are told.separator text places count cuts);
        row = at.1 ∙ ap Ok cells;
        order = order;
        some = some_places told.separator text places count cuts;
        few = cuts.within;
        columns = subst (λ (h : Option Heading). IsSomeAnd h (λ x. length x.fields ≡ count)) (sym stands) (sym same);
        gives = at.2 ∙ ap (λ (xs : List Cell). Gives told (Line xs)) cells;
      }

-- ---- cell by cell

pub place_at : (places : List ℕ) (n at to : ℕ) → at < n → n ≤ length places → to ≡ get_or places at 0 → drop at (take n places) ≡ to ∷ drop (at + 1) (take n places)
place_at places n at to below few is =
    drop-cons (take n places) at 0 (omega (arith, length-take-le n places few)) ∙ ap (λ (x : ℕ). x ∷ drop (suc at) (take n places)) (get_or-take n places at 0 below ∙ sym is)
    ∙ ap (λ (k : ℕ). to ∷ drop k (take n places)) (sym (add-one at))

pub in_order : (columns : List Column) (places : List ℕ) (at from to count : ℕ) → at < length columns → length columns ≤ length places
    → to ≡ get_or places at 0 → from ≤ to → to ≤ count → AreInOrder (to + 1) count (drop (at + 1) (take (length columns) places))
    → AreInOrder from count (drop at (take (length columns) places))
in_order columns places at from to count below few is low high rest =
    subst (λ (ps : List ℕ). AreInOrder from count ps) (sym (place_at places (length columns) at to below few is)) (low, high, rest)

-- what stands between two places of a line, taken of the text that the line begins
pub within_line : (text : List ℕ) (from to count : ℕ) → from ≤ to → to ≤ count → take (to - from) (drop from (take count text)) ≡ take (to - from) (drop from text)
within_line text from to count low high =
    ap (λ (k : ℕ). take (to - from) (drop from (take k text))) (omega (arith, low, high)) ∙ ap (take (to - from)) (drop-take from (count - from) text)
    ∙ take-take (to - from) (count - from) (drop from text) (omega (arith, low, high))

-- one more cell reads
pub read_on : (marks : Marks) (columns : List Column) (column : Column) (places text : List ℕ) (at from to count : ℕ)
    → at < length columns → length columns ≤ length places → drop at columns ≡ column ∷ drop (at + 1) columns
    → to ≡ get_or places at 0 → from ≤ to → to ≤ count → IsSome (cell_read marks column.kind (take (to - from) (drop from text)))
    → AreRead marks (map field_of (drop (at + 1) columns)) (cut_before (drop (at + 1) (take (length columns) places)) (to + 1) (take count text))
    → AreRead marks (map field_of (drop at columns)) (cut_before (drop at (take (length columns) places)) from (take count text))
read_on marks columns column places text at from to count below few cut is low high reads rest =
    let n = length columns in
    let first = place_at places n at to below few is in
    let piece = within_line text from to count low high in
    subst (λ (cs : List Column). AreRead marks (map field_of cs) (cut_before (drop at (take n places)) from (take count text))) (sym cut)
    (subst (λ (ps : List ℕ). AreRead marks (map field_of (column ∷ drop (at + 1) columns)) (cut_before ps from (take count text))) (sym first)
    (subst (λ (r : List ℕ). IsSome (cell_read marks column.kind r)) (sym piece) reads, rest))

-- ---- one cell

-- where the cell of a column begins, the first of them beginning so far in
abbrev pub first_or : ℕ → List ℕ → ℕ → ℕ
first_or from places zero = from
first_or from places (suc column) = get_or places column 0 + 1

pub order_at : (places : List ℕ) (from count column : ℕ) → AreInOrder from count places → column < length places
    → (first_or from places column ≤ get_or places column 0) × (get_or places column 0 ≤ count)
order_at [] from count column order below = absurd (omega arith)
order_at (to ∷ more) from count zero order below = (order.0, order.1)
order_at (to ∷ more) from count (suc zero) order below = order_at more (to + 1) count zero order.2 (omega arith)
order_at (to ∷ more) from count (suc (suc column)) order below = order_at more (to + 1) count (suc column) order.2 (omega arith)

pub piece_at : (places : List ℕ) (from : ℕ) (text : List ℕ) (column : ℕ) → column < length places
    → slice_get (cut_before places from text) column ≡ Some (take (get_or places column 0 - first_or from places column) (drop (first_or from places column) text))
piece_at [] from text column below = absurd (omega arith)
piece_at (to ∷ more) from text zero below = refl
piece_at (to ∷ more) from text (suc zero) below = piece_at more (to + 1) text zero (omega arith)
piece_at (to ∷ more) from text (suc (suc column)) below = piece_at more (to + 1) text (suc column) (omega arith)

pub first_is : (places : List ℕ) (column : ℕ) → first_or 0 places column ≡ start_of places column
first_is places zero = refl
first_is places (suc column) = refl

record Then (first : Option Cell) (rest : Result (List Cell) At) (cells : List Cell) : Type 0 where
  first_cell : Cell
  more : List Cell
  is : first ≡ Some first_cell
  are : rest ≡ Ok more
  both : cells ≡ first_cell ∷ more

then_parts : (n : ℕ) (first : Option Cell) (rest : Result (List Cell) At) (cells : List Cell) → then_cell n first rest ≡ Ok cells → Then first rest cells
then_parts n None rest cells read = cc
then_parts n (Some x) (Err at) cells read = cc
then_parts n (Some x) (Ok xs) cells read = record { first_cell = x; more = xs; is = refl; are = refl; both = cc }

-- the cell of a column is what its raw text reads as
pub cell_is : (marks : Marks) (n : ℕ) (fields : List Field) (raws : List (List ℕ)) (cells : List Cell) (column : ℕ) (field : Field) (raw : List ℕ)
    → cells_read marks n fields raws ≡ Ok cells → slice_get fields column ≡ Some field → slice_get raws column ≡ Some raw
    → cell_read marks field.kind raw ≡ slice_get cells column
cell_is marks n [] raws cells column field raw read at_field at_raw = cc
cell_is marks n (f ∷ fs) [] cells column field raw read at_field at_raw = cc
cell_is marks n (f ∷ fs) (r ∷ rs) cells zero field raw read at_field at_raw =
    let parts = then_parts n (cell_read marks f.kind r) (cells_read marks (n + 1) fs rs) cells read in
    let same_field : f ≡ field = cc in
    let same_raw : r ≡ raw = cc in
    ap (λ (x : Field). cell_read marks x.kind raw) (sym same_field) ∙ ap (cell_read marks f.kind) (sym same_raw) ∙ parts.is ∙ ap (λ (xs : List Cell). slice_get xs 0) (sym parts.both)
cell_is marks n (f ∷ fs) (r ∷ rs) cells (suc column) field raw read at_field at_raw =
    let parts = then_parts n (cell_read marks f.kind r) (cells_read marks (n + 1) fs rs) cells read in
    cell_is marks (n + 1) fs rs parts.more column field raw parts.are at_field at_raw ∙ ap (λ (xs : List Cell). slice_get xs (suc column)) (sym parts.both)

length-cells : (marks : Marks) (n : ℕ) (fields : List Field) (raws : List (List ℕ)) (cells : List Cell) → length raws ≡ length fields
    → cells_read marks n fields raws ≡ Ok cells → length cells ≡ length fields
length-cells marks n [] raws cells same read = let none : cells ≡ [] = cc in ap length none
length-cells marks n (f ∷ fs) [] cells same read = absurd (omega arith)
length-cells marks n (f ∷ fs) (r ∷ rs) cells same read =
    let parts = then_parts n (cell_read marks f.kind r) (cells_read marks (n + 1) fs rs) cells read in
    ap length parts.both ∙ ap suc (length-cells marks (n + 1) fs rs parts.more (omega arith) parts.are)

pub field_at : (columns seen : List Column) (column : ℕ) (d : Column) → seen ≡ columns → column < length columns
    → slice_get (map field_of columns) column ≡ Some (field_of (get_or seen column d))
field_at columns seen column d same below =
    slice_get-map field_of columns column ∙ ap (option_map field_of) (slice_get-get_or columns column d below)
    ∙ ap (λ (cs : List Column). Some (field_of (get_or cs column d))) (sym same)

pub start_kept : (places : List ℕ) (count column : ℕ) → column < count → first_or 0 (take count places) column ≡ start_of places column
start_kept places count zero below = refl
start_kept places count (suc k) below = ap (λ (x : ℕ). x + 1) (get_or-take count places k 0 (omega arith))

module _ (told : Told) (heading : Heading) (text places : List ℕ) (count column : ℕ) (stands : told.heading ≡ Some heading) (plain : IsPlain told text places count)
    (below : column < count) where
  abbrev cell_end : ℕ
  cell_end = get_or places column 0

  abbrev cell_start : ℕ
  cell_start = start_of places column

  bounds : (cell_start ≤ cell_end) × (cell_end ≤ line_end places count)
  bounds =
      let order = order_at (take count places) 0 (line_end places count) column plain.order (omega (arith, length-take-le count places plain.few)) in
      let last = get_or-take count places column 0 below in
      let start = start_kept places count column below in
      (omega (arith, order.0, last, start), omega (arith, order.1, last))

  pub cell_low : cell_start ≤ cell_end
  cell_low = bounds.0

  pub cell_high : cell_end ≤ length text
  cell_high = omega (arith, bounds.1, plain.found.0.high)

  pub has_place : column < length places
  has_place = omega (arith, plain.few)

  columns_are : length heading.fields ≡ count
  columns_are = subst (λ (h : Option Heading). IsSomeAnd h (λ x. length x.fields ≡ count)) stands plain.columns

  pub has_column : column < length heading.fields
  has_column = omega (arith, columns_are)

  abbrev line : List ℕ
  line = take (line_end places count) text

  abbrev pieces : List (List ℕ)
  pieces = pieces_of told.separator line

  pub piece : slice_get pieces column ≡ Some (take (cell_end - cell_start) (drop cell_start text))
  piece =
      ap (λ (ps : List (List ℕ)). slice_get ps column) plain.pieces
      ∙ piece_at (take count places) 0 line column (omega (arith, length-take-le count places plain.few))
      ∙ ap (λ (k : ℕ). Some (take (k - first_or 0 (take count places) column) (drop (first_or 0 (take count places) column) line))) (get_or-take count places column 0 below)
      ∙ ap (λ (k : ℕ). Some (take (cell_end - k) (drop k line))) (start_kept places count column below)
      ∙ ap Some (within_line text cell_start cell_end (line_end places count) bounds.0 bounds.1)

  many : length pieces ≡ length heading.fields
  many =
      ap length plain.pieces ∙ length-cut_before (take count places) 0 line ∙ length-take-le count places plain.few ∙ sym columns_are

  cells : cells_read told.marks 1 heading.fields pieces ≡ Ok (cells_or_none (row_in told line))
  cells = sym (same_count told.marks heading.fields pieces many) ∙ ap (λ (h : Option Heading). row_under told h line) (sym stands) ∙ plain.row

  pub cell_count : length (cells_or_none (row_in told line)) ≡ count
  cell_count = length-cells told.marks 1 heading.fields pieces (cells_or_none (row_in told line)) many cells ∙ columns_are

  pub cell_there : slice_get (cells_or_none (row_in told line)) column ≡ None → ⊥
  cell_there none =
      let found = slice_get-get_or (cells_or_none (row_in told line)) column cell.Unset (omega (arith, cell_count)) in
      let no = sym none ∙ found in cc

  pub cell_reads : (field : Field) → slice_get heading.fields column ≡ Some field
      → cell_read told.marks field.kind (take (cell_end - cell_start) (drop cell_start text)) ≡ slice_get (cells_or_none (row_in told line)) column
  cell_reads field is =
      cell_is told.marks 1 heading.fields pieces (cells_or_none (row_in told line)) column field (take (cell_end - cell_start) (drop cell_start text)) cells is piece

-- a plain line has a piece for each place
pub plain_pieces : (told : Told) (text places : List ℕ) (count : ℕ) → IsPlain told text places count → length (pieces_of told.separator (take (line_end places count) text)) ≡ count
plain_pieces told text places count plain =
    ap length plain.pieces ∙ length-cut_before (take count places) 0 (take (line_end places count) text) ∙ length-take-le count places plain.few

-- ---- a line that is its cells' texts

-- what is how the cell is written is its piece
pub own_piece : (o : Option Cell) (p : Option (List ℕ)) (marks : Marks) (k : Kind) (raw : List ℕ) → AreUsual marks → IsOwnText k raw → cell_read marks k raw ≡ o
    → p ≡ Some raw → IsOwnPiece o p
own_piece o p marks k raw usual own reads is = λ x at. is ∙ ap Some (sym (own marks usual x (reads ∙ at)))

-- each piece behind a tab
tabbed_more : (x : Cell) (row : List Cell) → flat_map (λ y. 9 ∷ cell_text y) (x ∷ row) ≡ 9 ∷ join_with_byte 9 (map cell_text (x ∷ row))
tabbed_more x [] = ap (λ (t : List ℕ). 9 ∷ t) (append-nil (cell_text x))
tabbed_more x (y ∷ row) = ap (λ (t : List ℕ). 9 ∷ (cell_text x ++ t)) (tabbed_more y row)

pub tabbed_row : (row : List Cell) → 0 < length row → flat_map (λ y. 9 ∷ cell_text y) row ≡ 9 ∷ join_with_byte 9 (map cell_text row)
tabbed_row [] some = absurd (omega arith)
tabbed_row (x ∷ row) some = tabbed_more x row
