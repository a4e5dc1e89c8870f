-- The row at which a reader stands, carried.
use Rattle.std.proofs.Common.{◌≡◌, ℕ, zero, suc, ◌+◌, ◌≤◌, ◌<◌, Bool, true, false, if◌then◌else◌, List, [], ◌∷◌, ◌++◌, Option, None, Some, length, take, drop, get_or, refl, ap, sym, ◌∙◌, arith, append_assoc, length-append}
use Rattle.std.specs.Prelude.{slice_get}
use Rattle.std.specs.List.{between, flat_map}
use Rattle.std.specs.Option.{option_map}
use Rattle.std.proofs.lemmas.List.{append-nil, length-take-le, take_all, take_more}
use Rattle.std.proofs.lemmas.List.Concat.{flat_map-append}
use Rattle.std.proofs.lemmas.List.Edits.{between_more, between_none, length-between, split_between}
use Rattle.std.proofs.lemmas.Option.{slice_get-get_or}
use Rattle.std.proofs.Math.Seq.{take-append_seam}
use Rattle.std.specs.Fmt.{decimal}
use Rattle.value_text.specs.Writing.{cell_text, value_text}
use Rattle.value_writing.specs.Writing.{transport_mark}
use Rattle.vast_value.specs.declared.cell.Cell.{Cell}
use Rattle.vast_value.specs.declared.cell.Cell.TheVariants as cell
use Rattle.vast_value.specs.declared.transport.Transport.{Transport}
use Rattle.vast_value.specs.declared.transport.Transport.TheVariants.{Unknown}
use Rattle.vast_value.specs.declared.value.Value.TheVariants as value
use Rattle.vast_value.specs.declared.view.PlainNumber.{PlainNumber}
use Rattle.vast_value.specs.declared.view.PlainNumber.TheVariants as plain
use Rattle.vast_value.specs.Views.{number_cell}
use Rattle.vast_value.specs.Headings.{Field, Heading}
use Rattle.zeek_log.specs.Reader as reader
use Rattle.zeek_log.specs.Reader.{heading_told}
use Rattle.importer.specs.Carrying.{carried, carried_at, carried_cell, carried_cells, is_port_at, is_port_kind, row_transport, transport_at}
use Rattle.importer.specs.Coming.{fields_told}
use Rattle.importer.specs.Logs.{CarriesBy, carried_point}
use Rattle.importer.proofs.CarryLemmas.{carried_place, cell_unknown}

pub carried_by : (told : Option Heading) (place : Option ℕ) (row : List Cell) → CarriesBy told place
    → carried (fields_told told) row ≡ carried_cells (transport_at place row) (fields_told told) row
carried_by None place row by = refl
carried_by (Some h) place row by = carried_place place h.fields row by

either_same : (b : Bool) (x : Cell) → (if b then carried_cell Unknown x else x) ≡ x
either_same true x = cell_unknown x
either_same false x = refl

pub carried_unknown : (fields : List Field) (row : List Cell) → carried_cells Unknown fields row ≡ row
carried_unknown [] row = refl
carried_unknown (f ∷ fs) [] = refl
carried_unknown (f ∷ fs) (x ∷ xs) = rw (either_same (is_port_kind f.kind) x, carried_unknown fs xs) refl

pub carried_none : (fields : List Field) → carried fields [] ≡ []
carried_none [] = refl
carried_none (f ∷ fs) = refl

pub carried_count : (over : Transport) (fields : List Field) (row : List Cell) → length (carried_cells over fields row) ≡ length row
carried_count over [] row = refl
carried_count over (f ∷ fs) [] = refl
carried_count over (f ∷ fs) (x ∷ xs) = ap suc (carried_count over fs xs)

same_map : (o : Option Cell) → o ≡ option_map (λ x. x) o
same_map None = refl
same_map (Some x) = refl

-- a cell of a carried row
pub carried_get : (over : Transport) (fields : List Field) (row : List Cell) (n : ℕ)
    → slice_get (carried_cells over fields row) n ≡ option_map (carried_at over fields n) (slice_get row n)
carried_get over [] row n = same_map (slice_get row n)
carried_get over (f ∷ fs) [] n = refl
carried_get over (f ∷ fs) (x ∷ xs) zero = refl
carried_get over (f ∷ fs) (x ∷ xs) (suc n) = carried_get over fs xs n

map_other : (b : Bool) (over : Transport) (o : Option Cell) → b ≡ false → option_map (λ x. if b then carried_cell over x else x) o ≡ o
map_other b over None is = refl
map_other b over (Some x) is = rw is refl

map_port : (b : Bool) (over : Transport) (o : Option Cell) → b ≡ true → option_map (λ x. if b then carried_cell over x else x) o ≡ option_map (carried_cell over) o
map_port b over None is = refl
map_port b over (Some x) is = rw is refl

pub other_get : (over : Transport) (fields : List Field) (row : List Cell) (n : ℕ) → is_port_at fields n ≡ false → slice_get (carried_cells over fields row) n ≡ slice_get row n
other_get over fields row n other = carried_get over fields row n ∙ map_other (is_port_at fields n) over (slice_get row n) other

pub port_get : (over : Transport) (fields : List Field) (row : List Cell) (n : ℕ) → is_port_at fields n ≡ true
    → slice_get (carried_cells over fields row) n ≡ option_map (carried_cell over) (slice_get row n)
port_get over fields row n port = carried_get over fields row n ∙ map_port (is_port_at fields n) over (slice_get row n) port

pub port_seen : (over : Transport) (fields : List Field) (row : List Cell) (n number : ℕ) → is_port_at fields n ≡ true → slice_get row n ≡ Some (cell.One (value.Port number Unknown))
    → Some (cell.One (value.Port number over)) ≡ slice_get (carried_cells over fields row) n
port_seen over fields row n number port at = sym (port_get over fields row n port ∙ ap (option_map (carried_cell over)) at)

pub port_cell : (over : Transport) (fields : List Field) (row : List Cell) (n : ℕ) (x y : Cell) → is_port_at fields n ≡ true → Some x ≡ slice_get row n → y ≡ carried_cell over x
    → Some y ≡ slice_get (carried_cells over fields row) n
port_cell over fields row n x y port at is = ap Some is ∙ ap (option_map (carried_cell over)) at ∙ sym (port_get over fields row n port)

pub port_past : (over : Transport) (fields : List Field) (row : List Cell) (n : ℕ) → is_port_at fields n ≡ true → None ≡ slice_get row n → None ≡ slice_get (carried_cells over fields row) n
port_past over fields row n port past = ap (option_map (carried_cell over)) past ∙ sym (port_get over fields row n port)

count_kept : (b : Bool) (over : Transport) (n : ℕ) → (if b then carried_cell over (cell.One (value.Count n)) else cell.One (value.Count n)) ≡ cell.One (value.Count n)
count_kept true over n = refl
count_kept false over n = refl

pub count_seen : (over : Transport) (fields : List Field) (row : List Cell) (n number : ℕ) → slice_get row n ≡ Some (cell.One (value.Count number))
    → slice_get (carried_cells over fields row) n ≡ Some (cell.One (value.Count number))
count_seen over fields row n number at =
    carried_get over fields row n ∙ ap (option_map (carried_at over fields n)) at ∙ ap Some (count_kept (is_port_at fields n) over number)

-- where no transport is named, a row is carried as it is
pub row_still : (old i : reader.Standing) (place : Option ℕ) (over : Transport) → carried_point i ≡ old → CarriesBy (heading_told i.at.state) place → over ≡ transport_at place i.row → over ≡ Unknown
    → i.row ≡ old.row
row_still old i place over seen by names is =
    let fields = fields_told (heading_told i.at.state) in
    sym (carried_unknown fields i.row) ∙ ap (λ (t : Transport). carried_cells t fields i.row) (sym is ∙ names)
    ∙ sym (carried_by (heading_told i.at.state) place i.row by) ∙ ap (λ (s : reader.Standing). s.row) seen

pub row_plain : (old i : reader.Standing) (place : Option ℕ) → carried_point i ≡ old → CarriesBy (heading_told i.at.state) place → place ≡ None → i.row ≡ old.row
row_plain old i place seen by none = row_still old i place (transport_at place i.row) seen by refl (ap (λ (p : Option ℕ). transport_at p i.row) none)

pub count_at : (old i : reader.Standing) (column n : ℕ) (number : PlainNumber) → carried_point i ≡ old → number ≡ plain.Count n → slice_get i.row column ≡ Some (number_cell number)
    → slice_get old.row column ≡ Some (number_cell number)
count_at old i column n number seen is at =
    let fields = fields_told (heading_told i.at.state) in
    ap (λ (s : reader.Standing). slice_get s.row column) (sym seen)
    ∙ count_seen (row_transport fields i.row) fields i.row column n (at ∙ ap (λ (x : PlainNumber). Some (number_cell x)) is)
    ∙ ap (λ (x : PlainNumber). Some (number_cell x)) (sym is)

pub point_none : (r : reader.Standing) → r.row ≡ [] → (carried_point r).row ≡ []
point_none r none = ap (carried (fields_told (heading_told r.at.state))) none ∙ carried_none (fields_told (heading_told r.at.state))

-- ---- written behind tabs

abbrev tabbed : List Cell → List ℕ
tabbed cells = flat_map (λ x. 9 ∷ cell_text x) cells

-- up to a column that isn't one of ports, the cells from another on are as they were
pub same_more : (over : Transport) (fields : List Field) (row : List Cell) (from column : ℕ) → from ≤ column → column < length row → is_port_at fields column ≡ false
    → between from column row ≡ between from column (carried_cells over fields row)
    → between from (column + 1) row ≡ between from (column + 1) (carried_cells over fields row)
same_more over fields row from column order below other so_far =
    let new = carried_cells over fields row in
    let count = carried_count over fields row in
    let x = get_or row column cell.Unset in
    let y = get_or new column cell.Unset in
    let is : Some y ≡ Some x = sym (slice_get-get_or new column cell.Unset (omega (arith, count))) ∙ other_get over fields row column other ∙ slice_get-get_or row column cell.Unset below in
    let same : x ≡ y = cc in
    between_more row from column cell.Unset order below ∙ ap (λ (xs : List Cell). xs ++ x ∷ []) so_far ∙ ap (λ (z : Cell). between from column new ++ z ∷ []) same
    ∙ sym (between_more new from column cell.Unset order (omega (arith, count)))

-- the first cells, and those behind them
pub front_more : (row : List Cell) (from to : ℕ) → from ≤ to → to ≤ length row → take from row ++ between from to row ≡ take to row
front_more row from to low high =
    let front = take from row ++ between from to row in
    let count : to ≡ length front = omega (arith, length-append (take from row) (between from to row), length-take-le from row (omega arith), length-between row from to high) in
    sym (ap (take to) (split_between row from to low ∙ sym (append_assoc (take from row) (between from to row) (drop to row)))
    ∙ ap (λ (n : ℕ). take n (front ++ drop to row)) count ∙ take-append_seam front (drop to row))

-- the cells so far were written, and those up to the end of them are as they were
pub end_written : (over : Transport) (fields : List Field) (row : List Cell) (before out : List ℕ) (from count : ℕ) → from ≤ count → count ≡ length row
    → out ≡ before ++ tabbed (take from (carried_cells over fields row)) → between from count row ≡ between from count (carried_cells over fields row)
    → out ++ tabbed (between from count row) ≡ before ++ tabbed (carried_cells over fields row)
end_written over fields row before out from count low all written same =
    let new = carried_cells over fields row in
    let long = carried_count over fields row in
    ap (λ (t : List ℕ). t ++ tabbed (between from count row)) written ∙ append_assoc before (tabbed (take from new)) (tabbed (between from count row))
    ∙ ap (λ (xs : List Cell). before ++ (tabbed (take from new) ++ tabbed xs)) same
    ∙ ap (λ (t : List ℕ). before ++ t) (sym (flat_map-append (λ x. 9 ∷ cell_text x) (take from new) (between from count new)))
    ∙ ap (λ (xs : List Cell). before ++ tabbed xs) (front_more new from count low (omega (arith, all, long)) ∙ take_all count new (omega (arith, all, long)))

-- the cells up to a port were written, and it
pub port_written : (over : Transport) (fields : List Field) (row : List Cell) (before out now : List ℕ) (from column : ℕ) → from ≤ column → column < length row
    → is_port_at fields column ≡ true
    → out ≡ before ++ tabbed (take from (carried_cells over fields row)) → between from column row ≡ between from column (carried_cells over fields row)
    → ((x : Cell) → slice_get row column ≡ Some x → now ≡ (out ++ tabbed (between from column row)) ++ 9 ∷ cell_text (carried_cell over x))
    → now ≡ before ++ tabbed (take (column + 1) (carried_cells over fields row))
port_written over fields row before out now from column low below port written same more =
    let new = carried_cells over fields row in
    let long = carried_count over fields row in
    let x = get_or row column cell.Unset in
    let y = get_or new column cell.Unset in
    let there = slice_get-get_or row column cell.Unset below in
    let is : Some y ≡ Some (carried_cell over x) =
    sym (slice_get-get_or new column cell.Unset (omega (arith, long))) ∙ port_get over fields row column port ∙ ap (option_map (carried_cell over)) there in
    let carries : y ≡ carried_cell over x = cc in
    more x there
    ∙ ap (λ (t : List ℕ). (t ++ tabbed (between from column row)) ++ 9 ∷ cell_text (carried_cell over x)) written
    ∙ ap (λ (xs : List Cell). ((before ++ tabbed (take from new)) ++ tabbed xs) ++ 9 ∷ cell_text (carried_cell over x)) same
    ∙ ap (λ (t : List ℕ). t ++ 9 ∷ cell_text (carried_cell over x)) (append_assoc before (tabbed (take from new)) (tabbed (between from column new)))
    ∙ ap (λ (t : List ℕ). (before ++ t) ++ 9 ∷ cell_text (carried_cell over x)) (sym (flat_map-append (λ z. 9 ∷ cell_text z) (take from new) (between from column new)))
    ∙ ap (λ (xs : List Cell). (before ++ tabbed xs) ++ 9 ∷ cell_text (carried_cell over x)) (front_more new from column low (omega (arith, long)))
    ∙ ap (λ (z : Cell). (before ++ tabbed (take column new)) ++ 9 ∷ cell_text z) (sym carries)
    ∙ append_assoc before (tabbed (take column new)) (9 ∷ cell_text y)
    ∙ ap (λ (t : List ℕ). before ++ (tabbed (take column new) ++ t)) (sym (append-nil (9 ∷ cell_text y)))
    ∙ ap (λ (t : List ℕ). before ++ t) (sym (flat_map-append (λ z. 9 ∷ cell_text z) (take column new) (y ∷ [])))
    ∙ ap (λ (xs : List Cell). before ++ tabbed xs) (sym (take_more new column cell.Unset (omega (arith, long))))

-- one column on, behind a port
pub turn_port : (over : Transport) (fields : List Field) (row : List Cell) (before out mid now : List ℕ) (from column from_now : ℕ) → from_now ≡ column + 1 → now ≡ mid → from ≤ column → column < length row
    → is_port_at fields column ≡ true
    → out ≡ before ++ tabbed (take from (carried_cells over fields row)) → between from column row ≡ between from column (carried_cells over fields row)
    → ((x : Cell) → slice_get row column ≡ Some x → mid ≡ (out ++ tabbed (between from column row)) ++ 9 ∷ cell_text (carried_cell over x))
    → (from_now ≤ column + 1) × (now ≡ before ++ tabbed (take from_now (carried_cells over fields row))) × (between from_now (column + 1) row ≡ between from_now (column + 1) (carried_cells over fields row))
turn_port over fields row before out mid now from column from_now on is low below port written same more = (
  omega (arith, on),
  is ∙ port_written over fields row before out mid from column low below port written same more
      ∙ ap (λ (n : ℕ). before ++ tabbed (take n (carried_cells over fields row))) (sym on),
  ap (λ (n : ℕ). between n (column + 1) row) on ∙ between_none row (column + 1) ∙ sym (between_none (carried_cells over fields row) (column + 1))
      ∙ ap (λ (n : ℕ). between n (column + 1) (carried_cells over fields row)) (sym on),
)

-- one column on, where it isn't one of ports
pub turn_other : (over : Transport) (fields : List Field) (row : List Cell) (before out now : List ℕ) (from column from_now : ℕ) → from_now ≡ from → now ≡ out → from ≤ column → column < length row
    → is_port_at fields column ≡ false
    → out ≡ before ++ tabbed (take from (carried_cells over fields row)) → between from column row ≡ between from column (carried_cells over fields row)
    → (from_now ≤ column + 1) × (now ≡ before ++ tabbed (take from_now (carried_cells over fields row))) × (between from_now (column + 1) row ≡ between from_now (column + 1) (carried_cells over fields row))
turn_other over fields row before out now from column from_now on is low below other written same = (
  omega (arith, on, low),
  is ∙ written ∙ ap (λ (n : ℕ). before ++ tabbed (take n (carried_cells over fields row))) (sym on),
  ap (λ (n : ℕ). between n (column + 1) row) on ∙ same_more over fields row from column low below other same
      ∙ ap (λ (n : ℕ). between n (column + 1) (carried_cells over fields row)) (sym on),
)

port_mark : (number : ℕ) (over : Transport) → cell_text (cell.One (value.Port number Unknown)) ++ transport_mark over ≡ cell_text (cell.One (value.Port number over))
unfolding cell_text value_text
port_mark number over = ap (λ (t : List ℕ). t ++ transport_mark over) (append-nil (decimal number))

-- the number of a port and the mark of its transport are how it is written
pub marked : (over : Transport) (row : List Cell) (before out now : List ℕ) (from column number : ℕ) → from ≤ column → column < length row
    → slice_get row column ≡ Some (cell.One (value.Port number Unknown)) → out ≡ before ++ tabbed (between from (column + 1) row) → now ≡ out ++ transport_mark over
    → (x : Cell) → slice_get row column ≡ Some x → now ≡ (before ++ tabbed (between from column row)) ++ 9 ∷ cell_text (carried_cell over x)
marked over row before out now from column number low below port written more x at =
    let d = get_or row column cell.Unset in
    let here : Some d ≡ Some (cell.One (value.Port number Unknown)) = sym (slice_get-get_or row column cell.Unset below) ∙ port in
    let same : Some (cell.One (value.Port number Unknown)) ≡ Some x = sym port ∙ at in
    let is : d ≡ cell.One (value.Port number Unknown) = cc in
    let x_is : cell.One (value.Port number Unknown) ≡ x = cc in
    more ∙ ap (λ (t : List ℕ). t ++ transport_mark over) written
    ∙ ap (λ (xs : List Cell). (before ++ tabbed xs) ++ transport_mark over) (between_more row from column cell.Unset low below)
    ∙ ap (λ (t : List ℕ). (before ++ t) ++ transport_mark over) (flat_map-append (λ z. 9 ∷ cell_text z) (between from column row) (d ∷ []))
    ∙ ap (λ (t : List ℕ). (before ++ (tabbed (between from column row) ++ t)) ++ transport_mark over) (append-nil (9 ∷ cell_text d))
    ∙ ap (λ (t : List ℕ). t ++ transport_mark over) (sym (append_assoc before (tabbed (between from column row)) (9 ∷ cell_text d)))
    ∙ append_assoc (before ++ tabbed (between from column row)) (9 ∷ cell_text d) (transport_mark over)
    ∙ ap (λ (z : Cell). (before ++ tabbed (between from column row)) ++ 9 ∷ (cell_text z ++ transport_mark over)) is
    ∙ ap (λ (t : List ℕ). (before ++ tabbed (between from column row)) ++ 9 ∷ t) (port_mark number over)
    ∙ ap (λ (z : Cell). (before ++ tabbed (between from column row)) ++ 9 ∷ cell_text (carried_cell over z)) x_is
