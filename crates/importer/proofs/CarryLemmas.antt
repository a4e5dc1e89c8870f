-- How rows are carried.
use Rattle.std.proofs.Common.{◌≡◌, ℕ, ◌+◌, ◌≤◌, Bool, true, false, ◌&&◌, ◌||◌, if◌then◌else◌, List, [], ◌∷◌, ◌++◌, Option, None, Some, length, map, refl, ap, sym, ◌∙◌, subst, arith, append_assoc, length-append}
use Rattle.std.specs.List.{list_any, slice_get}
use Rattle.std.proofs.lemmas.Option.{slice_get_past}
use Rattle.vast_value.specs.declared.cell.Cell.{Cell}
use Rattle.vast_value.specs.declared.column.Column.{Column}
use Rattle.vast_value.specs.declared.cell.Cell.TheVariants.{Unset, One, Many}
use Rattle.vast_value.specs.declared.kind.Elem.TheVariants as elem
use Rattle.vast_value.specs.declared.kind.Kind.{Kind}
use Rattle.vast_value.specs.declared.kind.Kind.TheVariants as kind
use Rattle.vast_value.specs.declared.transport.Transport.{Transport}
use Rattle.vast_value.specs.declared.transport.Transport.TheVariants.{Unknown, Tcp, Udp, Icmp}
use Rattle.vast_value.specs.declared.value.Value.TheVariants as value
use Rattle.vast_value.specs.Fit.{is_small}
use Rattle.vast_value.specs.Headings.{Field, field_of, fits_field, fits_fields}
use Rattle.vast_value.specs.Kinds.{has_kind}
use Rattle.importer.specs.Carrying.{carried, carried_cell, carried_cells, cell_transport, row_transport, protocol_from, protocol_place, has_ports, is_port_kind, is_protocol_name, is_text_kind, transport_at}

-- ---- one cell

same_cell_fits : (over : Transport) (f : Field) (x : Cell) → fits_field f (carried_cell over x) ≡ fits_field f x
same_cell_fits over f Unset = refl
same_cell_fits over f (Many items) = refl
same_cell_fits over f (One (value.Bool b)) = refl
same_cell_fits over f (One (value.Count n)) = refl
same_cell_fits over f (One (value.Int n)) = refl
same_cell_fits over f (One (value.Time n)) = refl
same_cell_fits over f (One (value.Span n)) = refl
same_cell_fits over f (One (value.Text t)) = refl
same_cell_fits over f (One (value.Name t)) = refl
same_cell_fits over f (One (value.Addr a)) = refl
same_cell_fits over f (One (value.Subnet n)) = refl
same_cell_fits over f (One (value.Port p Unknown)) = refl
same_cell_fits over f (One (value.Port p Tcp)) = refl
same_cell_fits over f (One (value.Port p Udp)) = refl
same_cell_fits over f (One (value.Port p Icmp)) = refl

same_cell_names : (over : Transport) (x : Cell) → cell_transport (carried_cell over x) ≡ cell_transport x
same_cell_names over Unset = refl
same_cell_names over (Many items) = refl
same_cell_names over (One (value.Bool b)) = refl
same_cell_names over (One (value.Count n)) = refl
same_cell_names over (One (value.Int n)) = refl
same_cell_names over (One (value.Time n)) = refl
same_cell_names over (One (value.Span n)) = refl
same_cell_names over (One (value.Text t)) = refl
same_cell_names over (One (value.Name t)) = refl
same_cell_names over (One (value.Addr a)) = refl
same_cell_names over (One (value.Subnet n)) = refl
same_cell_names over (One (value.Port p Unknown)) = refl
same_cell_names over (One (value.Port p Tcp)) = refl
same_cell_names over (One (value.Port p Udp)) = refl
same_cell_names over (One (value.Port p Icmp)) = refl

port_twice : (over : Transport) (p : ℕ) → carried_cell over (One (value.Port p over)) ≡ One (value.Port p over)
port_twice Unknown p = refl
port_twice Tcp p = refl
port_twice Udp p = refl
port_twice Icmp p = refl

cell_twice : (over : Transport) (x : Cell) → carried_cell over (carried_cell over x) ≡ carried_cell over x
cell_twice over Unset = refl
cell_twice over (Many items) = refl
cell_twice over (One (value.Bool b)) = refl
cell_twice over (One (value.Count n)) = refl
cell_twice over (One (value.Int n)) = refl
cell_twice over (One (value.Time n)) = refl
cell_twice over (One (value.Span n)) = refl
cell_twice over (One (value.Text t)) = refl
cell_twice over (One (value.Name t)) = refl
cell_twice over (One (value.Addr a)) = refl
cell_twice over (One (value.Subnet n)) = refl
cell_twice over (One (value.Port p Unknown)) = port_twice over p
cell_twice over (One (value.Port p Tcp)) = refl
cell_twice over (One (value.Port p Udp)) = refl
cell_twice over (One (value.Port p Icmp)) = refl

pub cell_unknown : (x : Cell) → carried_cell Unknown x ≡ x
cell_unknown Unset = refl
cell_unknown (Many items) = refl
cell_unknown (One (value.Bool b)) = refl
cell_unknown (One (value.Count n)) = refl
cell_unknown (One (value.Int n)) = refl
cell_unknown (One (value.Time n)) = refl
cell_unknown (One (value.Span n)) = refl
cell_unknown (One (value.Text t)) = refl
cell_unknown (One (value.Name t)) = refl
cell_unknown (One (value.Addr a)) = refl
cell_unknown (One (value.Subnet n)) = refl
cell_unknown (One (value.Port p Unknown)) = refl
cell_unknown (One (value.Port p Tcp)) = refl
cell_unknown (One (value.Port p Udp)) = refl
cell_unknown (One (value.Port p Icmp)) = refl

-- a port stands in port columns alone
port_kind : (k : Kind) (p : ℕ) (t : Transport) → has_kind (One (value.Port p t)) k ≡ true → is_port_kind k ≡ true
port_kind (kind.One elem.Port) p t has = refl
port_kind (kind.One elem.Bool) p t has = cc
port_kind (kind.One elem.Count) p t has = cc
port_kind (kind.One elem.Int) p t has = cc
port_kind (kind.One elem.Time) p t has = cc
port_kind (kind.One elem.Span) p t has = cc
port_kind (kind.One elem.Text) p t has = cc
port_kind (kind.One elem.Name) p t has = cc
port_kind (kind.One elem.Addr) p t has = cc
port_kind (kind.One elem.Subnet) p t has = cc
port_kind (kind.SetOf e) p t has = cc
port_kind (kind.VecOf e) p t has = cc

abbrev in_column : Transport → Bool → Cell → Cell
in_column over port x = if port then carried_cell over x else x

either_way : (b : Bool) (x y : Cell) → x ≡ y → (if b then x else y) ≡ x
either_way true x y same = refl
either_way false x y same = sym same

where_true : (b : Bool) (x y : Cell) → b ≡ true → (if b then x else y) ≡ x
where_true b x y is = rw is refl

column_carries : (over : Transport) (k : Kind) (x : Cell) → has_kind x k ≡ true → in_column over (is_port_kind k) x ≡ carried_cell over x
column_carries over k Unset has = either_way (is_port_kind k) _ _ refl
column_carries over k (Many items) has = either_way (is_port_kind k) _ _ refl
column_carries over k (One (value.Bool b)) has = either_way (is_port_kind k) _ _ refl
column_carries over k (One (value.Count n)) has = either_way (is_port_kind k) _ _ refl
column_carries over k (One (value.Int n)) has = either_way (is_port_kind k) _ _ refl
column_carries over k (One (value.Time n)) has = either_way (is_port_kind k) _ _ refl
column_carries over k (One (value.Span n)) has = either_way (is_port_kind k) _ _ refl
column_carries over k (One (value.Text t)) has = either_way (is_port_kind k) _ _ refl
column_carries over k (One (value.Name t)) has = either_way (is_port_kind k) _ _ refl
column_carries over k (One (value.Addr a)) has = either_way (is_port_kind k) _ _ refl
column_carries over k (One (value.Subnet n)) has = either_way (is_port_kind k) _ _ refl
column_carries over k (One (value.Port p t)) has = where_true (is_port_kind k) _ _ (port_kind k p t has)

column_fits : (over : Transport) (f : Field) (x : Cell) (b : Bool) → fits_field f (in_column over b x) ≡ fits_field f x
column_fits over f x true = same_cell_fits over f x
column_fits over f x false = refl

column_names : (over : Transport) (x : Cell) (b : Bool) → cell_transport (in_column over b x) ≡ cell_transport x
column_names over x true = same_cell_names over x
column_names over x false = refl

column_twice : (over : Transport) (x : Cell) (b : Bool) → in_column over b (in_column over b x) ≡ in_column over b x
column_twice over x true = cell_twice over x
column_twice over x false = refl

column_other : (over : Transport) (x : Cell) (b : Bool) → b ≡ false → in_column over b x ≡ x
column_other over x b is = rw is refl

-- ---- rows

cells_fit : (over : Transport) (fields : List Field) (row : List Cell) → fits_fields fields (carried_cells over fields row) ≡ fits_fields fields row
cells_fit over [] [] = refl
cells_fit over [] (x ∷ xs) = refl
cells_fit over (f ∷ fs) [] = refl
cells_fit over (f ∷ fs) (x ∷ xs) = rw (column_fits over f x (is_port_kind f.kind), cells_fit over fs xs) refl

pub still_fits : (fields : List Field) (row : List Cell) → fits_fields fields row ≡ true → fits_fields fields (carried fields row) ≡ true
still_fits fields row fits = cells_fit (row_transport fields row) fields row ∙ fits

row_names : (over : Transport) (fields : List Field) (row : List Cell) → row_transport fields (carried_cells over fields row) ≡ row_transport fields row
row_names over [] [] = refl
row_names over [] (x ∷ xs) = refl
row_names over (f ∷ fs) [] = refl
row_names over (f ∷ fs) (x ∷ xs) = rw (column_names over x (is_port_kind f.kind), row_names over fs xs) refl

cells_twice : (over : Transport) (fields : List Field) (row : List Cell) → carried_cells over fields (carried_cells over fields row) ≡ carried_cells over fields row
cells_twice over [] row = refl
cells_twice over (f ∷ fs) [] = refl
cells_twice over (f ∷ fs) (x ∷ xs) = rw (column_twice over x (is_port_kind f.kind), cells_twice over fs xs) refl

pub carried_twice : (fields : List Field) (row : List Cell) → carried fields (carried fields row) ≡ carried fields row
carried_twice fields row =
    ap (λ (t : Transport). carried_cells t fields (carried fields row)) (row_names (row_transport fields row) fields row)
    ∙ cells_twice (row_transport fields row) fields row

none_either : {a b : Bool} → a || b ≡ false → (a ≡ false) × (b ≡ false)
none_either {a = true} {b = b} h = cc
none_either {a = false} {b = b} h = (refl, h)

both_hold : (a b : Bool) → a && b ≡ true → (a ≡ true) × (b ≡ true)
both_hold true b h = (refl, h)
both_hold false b h = cc

without_ports : (over : Transport) (fields : List Field) (row : List Cell) → has_ports fields ≡ false → carried_cells over fields row ≡ row
without_ports over [] row none = refl
without_ports over (f ∷ fs) [] none = refl
without_ports over (f ∷ fs) (x ∷ xs) none =
    let parts = none_either {a = is_port_kind f.kind} {b = has_ports fs} none in
    rw (column_other over x (is_port_kind f.kind) parts.0, without_ports over fs xs parts.1) refl

cells_unknown : (row : List Cell) → map (carried_cell Unknown) row ≡ row
cells_unknown [] = refl
cells_unknown (x ∷ xs) = rw (cell_unknown x, cells_unknown xs) refl

cells_carried : (over : Transport) (fields : List Field) (row : List Cell) → fits_fields fields row ≡ true → map (carried_cell over) row ≡ carried_cells over fields row
cells_carried over [] [] fits = refl
cells_carried over [] (x ∷ xs) fits = cc
cells_carried over (f ∷ fs) [] fits = cc
cells_carried over (f ∷ fs) (x ∷ xs) fits =
    let parts = both_hold (fits_field f x) (fits_fields fs xs) fits in
    let has = both_hold (has_kind x f.kind) (is_small x) parts.0 in
    rw (column_carries over f.kind x has.0, cells_carried over fs xs parts.1) refl

-- ---- the place of the protocol

get_behind : (before : List Cell) (x : Cell) (xs : List Cell) → slice_get (before ++ x ∷ xs) (length before) ≡ Some x
get_behind [] x xs = refl
get_behind (y ∷ ys) x xs = get_behind ys x xs

by_place : (named text : Bool) (at : ℕ) (before : List Cell) (x : Cell) (xs : List Cell) (other : Option ℕ) (rest : Transport) → length before ≡ at → transport_at other (before ++ x ∷ xs) ≡ rest
    → transport_at (if named then (if text then Some at else None) else other) (before ++ x ∷ xs) ≡ (if named then (if text then cell_transport x else Unknown) else rest)
by_place true true at before x xs other rest count same = subst (λ (n : ℕ). transport_at (Some n) (before ++ x ∷ xs) ≡ cell_transport x) count (rw (get_behind before x xs) refl)
by_place true false at before x xs other rest count same = refl
by_place false text at before x xs other rest count same = same

by_past : (named text : Bool) (at : ℕ) (row : List Cell) (other : Option ℕ) → length row ≤ at → transport_at other row ≡ Unknown
    → transport_at (if named then (if text then Some at else None) else other) row ≡ Unknown
by_past true true at row other past rest = rw (slice_get_past row at past) refl
by_past true false at row other past rest = refl
by_past false text at row other past rest = rest

-- a row has no cell so far on
past_row : (at : ℕ) (fields : List Field) (row : List Cell) → length row ≤ at → transport_at (protocol_from at fields) row ≡ Unknown
past_row at [] row past = refl
past_row at (f ∷ fs) row past =
    by_past (is_protocol_name f.name) (is_text_kind f.kind) at row (protocol_from (at + 1) fs) past (past_row (at + 1) fs row (omega arith))

place_from : (at : ℕ) (before : List Cell) (fields : List Field) (row : List Cell) → length before ≡ at
    → transport_at (protocol_from at fields) (before ++ row) ≡ row_transport fields row
place_from at before [] row count = refl
place_from at before (f ∷ fs) [] count = past_row at (f ∷ fs) (before ++ []) (omega (arith, length-append before []))
place_from at before (f ∷ fs) (x ∷ xs) count =
    let longer : length (before ++ x ∷ []) ≡ at + 1 = omega (arith, count, length-append before (x ∷ [])) in
    let rest = place_from (at + 1) (before ++ x ∷ []) fs xs longer in
    by_place (is_protocol_name f.name) (is_text_kind f.kind) at before x xs (protocol_from (at + 1) fs) (row_transport fs xs) count
    (ap (λ (cells : List Cell). transport_at (protocol_from (at + 1) fs) cells) (sym (append_assoc before (x ∷ []) xs)) ∙ rest)

carry_by : (ports : Bool) (fields : List Field) (row : List Cell) → has_ports fields ≡ ports → fits_fields fields row ≡ true
    → map (carried_cell (transport_at (if ports then protocol_from 0 fields else None) row)) row ≡ carried fields row
carry_by true fields row is fits =
    ap (λ (t : Transport). map (carried_cell t) row) (place_from 0 [] fields row refl)
    ∙ cells_carried (row_transport fields row) fields row fits
carry_by false fields row is fits = cells_unknown row ∙ sym (without_ports (row_transport fields row) fields row is)

-- whatever the row is
place_by : (ports : Bool) (fields : List Field) (row : List Cell) → has_ports fields ≡ ports
    → carried fields row ≡ carried_cells (transport_at (if ports then protocol_from 0 fields else None) row) fields row
place_by true fields row is = ap (λ (t : Transport). carried_cells t fields row) (sym (place_from 0 [] fields row refl))
place_by false fields row is = without_ports (row_transport fields row) fields row is ∙ sym (without_ports Unknown fields row is)

pub carried_place : (place : Option ℕ) (fields : List Field) (row : List Cell) → place ≡ protocol_place fields
    → carried fields row ≡ carried_cells (transport_at place row) fields row
carried_place place fields row is =
    place_by (has_ports fields) fields row refl ∙ ap (λ (p : Option ℕ). carried_cells (transport_at p row) fields row) (sym is)

pub carry_is : (place : Option ℕ) (fields : List Field) (row : List Cell) → place ≡ protocol_place fields → fits_fields fields row ≡ true
    → map (carried_cell (transport_at place row)) row ≡ carried fields row
carry_is place fields row is fits =
    ap (λ (p : Option ℕ). map (carried_cell (transport_at p row)) row) is ∙ carry_by (has_ports fields) fields row refl fits

pub carry_none : (place : Option ℕ) (fields : List Field) (row : List Cell) → transport_at place row ≡ Unknown → place ≡ protocol_place fields → fits_fields fields row ≡ true
    → row ≡ carried fields row
carry_none place fields row none is fits =
    sym (cells_unknown row) ∙ ap (λ (t : Transport). map (carried_cell t) row) (sym none) ∙ carry_is place fields row is fits

pub ports_of_columns : (columns : List Column) → has_ports (map field_of columns) ≡ list_any (λ column. is_port_kind column.kind) columns
ports_of_columns [] = refl
ports_of_columns (c ∷ cs) = ap (λ (b : Bool). is_port_kind c.kind || b) (ports_of_columns cs)
