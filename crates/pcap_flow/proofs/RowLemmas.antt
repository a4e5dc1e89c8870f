-- The rows of packets and flows fit their layouts.
use Rattle.std.proofs.Common.{◌≡◌, ℕ, pos, ◌+◌, ◌-◌, ◌/◌, ◌%◌, ◌==◌, Bool, true, false, ◌&&◌, List, [], ◌∷◌, map, Option, None, Some, length, nat_lt, nat_le, cond, codes, refl, subst, sym, arith}
use Rattle.std.specs.List.{list_all}
use Rattle.std.specs.Cmp.Lexicographic.{pointwise}
use Rattle.vast_value.specs.declared.kind.Elem.TheVariants as elem
use Rattle.vast_value.specs.declared.value.Value.TheVariants as value
use Rattle.vast_value.specs.declared.cell.Cell.{Cell}
use Rattle.vast_value.specs.declared.cell.Cell.TheVariants.{Unset, One, Many}
use Rattle.vast_value.specs.Fit.{is_ranged_cell, is_sized, is_small, most_parts}
use Rattle.vast_value.specs.Headings.{Field, fits_field, fits_fields}
use Rattle.vast_value.specs.Kinds.{has_kind}
use Rattle.pcap_flow.specs.Rows.{field, packet_heading, flow_heading, packet_row, flow_row, address_cell, port_cell, protocol_cell, protocol_name, digits}
use Rattle.pcap_flow.specs.declared.packet.Packet.{Packet}
use Rattle.pcap_flow.specs.declared.flow.Flow.{Flow}

-- a single cell that is not too long
abbrev is_sized_cell : Cell → Bool
is_sized_cell Unset = true
is_sized_cell (One v) = is_sized v
is_sized_cell (Many items) = false

-- the cell fits the field, if its numbers are in range
abbrev suits : Field → Cell → Bool
suits f x = has_kind x f.kind && is_sized_cell x

both : (a b : Bool) → (a && b) ≡ true → (a ≡ true) × (b ≡ true)
both true true h = (refl, refl)
both true false h = absurd cc
both false b h = absurd cc

joined : (a b : Bool) → a ≡ true → b ≡ true → (a && b) ≡ true
joined true true h k = refl
joined true false h k = absurd cc
joined false b h k = absurd cc

small_by : (x : Cell) → is_sized_cell x ≡ true → is_ranged_cell x ≡ true → is_small x ≡ true
small_by Unset sized ranged = refl
small_by (One v) sized ranged = joined (is_sized v) (is_ranged_cell (One v)) sized ranged
small_by (Many items) sized ranged = absurd cc

fits_by : (f : Field) (x : Cell) → suits f x ≡ true → is_ranged_cell x ≡ true → fits_field f x ≡ true
fits_by f x suit ranged =
    let parts = both (has_kind x f.kind) (is_sized_cell x) suit in
    joined (has_kind x f.kind) (is_small x) parts.0 (small_by x parts.1 ranged)

fit_all : (fs : List Field) (xs : List Cell) → pointwise suits fs xs ≡ true → list_all is_ranged_cell xs ≡ true → fits_fields fs xs ≡ true
fit_all [] [] suit ranged = refl
fit_all [] (x ∷ xs) suit ranged = absurd cc
fit_all (f ∷ fs) [] suit ranged = absurd cc
fit_all (f ∷ fs) (x ∷ xs) suit ranged =
    let s = both (suits f x) (pointwise suits fs xs) suit in
    let r = both (is_ranged_cell x) (list_all is_ranged_cell xs) ranged in
    joined (fits_field f x) (fits_fields fs xs) (fits_by f x s.0 r.0) (fit_all fs xs s.1 r.1)

address_suits : (name : List ℕ) (o : Option ℕ) → suits (field name elem.Addr) (address_cell o) ≡ true
address_suits name None = refl
address_suits name (Some a) = refl

port_suits : (name : List ℕ) (o : Option ℕ) → suits (field name elem.Port) (port_cell o) ≡ true
port_suits name None = refl
port_suits name (Some p) = refl

abbrev is_fine : List ℕ → Bool
is_fine t = nat_le (length t) most_parts

either : (b : Bool) (x y : List ℕ) → is_fine x ≡ true → is_fine y ≡ true → is_fine (cond b x y) ≡ true
either true x y h k = h
either false x y h k = k

digits_fine : (n : ℕ) → is_fine (digits n) ≡ true
digits_fine n =
    either (nat_lt n 10) ((48 + n) ∷ []) (cond (nat_lt n 100) ((48 + n / 10) ∷ (48 + n % 10) ∷ []) ((48 + n / 100) ∷ (48 + n / 10 % 10) ∷ (48 + n % 10) ∷ [])) refl
    (either (nat_lt n 100) ((48 + n / 10) ∷ (48 + n % 10) ∷ []) ((48 + n / 100) ∷ (48 + n / 10 % 10) ∷ (48 + n % 10) ∷ []) refl refl)

name_fine : (n : ℕ) → is_fine (protocol_name n) ≡ true
name_fine n =
    either (n == 6) (codes "tcp") (cond (n == 17) (codes "udp") (cond (n == 1) (codes "icmp") (cond (n == 58) (codes "icmp6") (digits n)))) refl
    (either (n == 17) (codes "udp") (cond (n == 1) (codes "icmp") (cond (n == 58) (codes "icmp6") (digits n))) refl
    (either (n == 1) (codes "icmp") (cond (n == 58) (codes "icmp6") (digits n)) refl
    (either (n == 58) (codes "icmp6") (digits n) refl (digits_fine n))))

protocol_suits : (name : List ℕ) (o : Option ℕ) → suits (field name elem.Name) (protocol_cell o) ≡ true
protocol_suits name None = refl
protocol_suits name (Some n) = name_fine n

packet_suits : (p : Packet) → pointwise suits packet_heading.fields (packet_row p) ≡ true
packet_suits p =
    rw (
      address_suits (codes "src") p.parts.source,
      port_suits (codes "sport") p.parts.source_port,
      address_suits (codes "dst") p.parts.target,
      port_suits (codes "dport") p.parts.target_port,
      protocol_suits (codes "proto") p.parts.protocol,
    ) refl

flow_suits : (f : Flow) → pointwise suits flow_heading.fields (flow_row f) ≡ true
flow_suits f = rw (name_fine f.protocol) refl

pub packet_fits : (p : Packet) (row : List Cell) → row ≡ packet_row p → list_all is_ranged_cell row ≡ true → fits_fields packet_heading.fields row ≡ true
packet_fits p row is ranged =
    fit_all packet_heading.fields row (subst (λ (r : List Cell). pointwise suits packet_heading.fields r ≡ true) (sym is) (packet_suits p)) ranged

all_fit : (fs : List Flow) → list_all (list_all is_ranged_cell) (map flow_row fs) ≡ true → list_all (fits_fields flow_heading.fields) (map flow_row fs) ≡ true
all_fit [] ranged = refl
all_fit (f ∷ fs) ranged =
    let r = both (list_all is_ranged_cell (flow_row f)) (list_all (list_all is_ranged_cell) (map flow_row fs)) ranged in
    joined (fits_fields flow_heading.fields (flow_row f)) (list_all (fits_fields flow_heading.fields) (map flow_row fs))
    (fit_all flow_heading.fields (flow_row f) (flow_suits f) r.0) (all_fit fs r.1)

pub flows_fit : (fs : List Flow) (rows : List (List Cell)) → rows ≡ map flow_row fs → list_all (list_all is_ranged_cell) rows ≡ true → list_all (fits_fields flow_heading.fields) rows ≡ true
flows_fit fs rows is ranged =
    subst (λ (r : List (List Cell)). list_all (fits_fields flow_heading.fields) r ≡ true) (sym is)
    (all_fit fs (subst (λ (r : List (List Cell)). list_all (list_all is_ranged_cell) r ≡ true) is ranged))
