-- What the index of a column stands for.
use Rattle.std.specs.Prelude.{ℕ, max, Bool, true, false, List, Option, length}
use Rattle.vast_value.specs.declared.cell.Cell.{Cell}
use Rattle.vast_value.specs.declared.kind.Elem.{Elem}
use Rattle.vast_value.specs.declared.kind.Elem.TheVariants as elem
use Rattle.vast_value.specs.declared.kind.Kind.{Kind}
use Rattle.vast_value.specs.declared.kind.Kind.TheVariants as kind
use Rattle.vast_value.specs.declared.cell.Cell.TheVariants as cell
use Rattle.vast_value.specs.declared.value.Value.{Value}
use Rattle.vast_value.specs.Kinds.{elem_eq}
use Rattle.slice_index.specs.Slices as slices
use Rattle.digit_index.specs.Digits as digits
use Rattle.address_index.specs.Addresses as addresses
use Rattle.address_index.specs.Subnets.{HoldsNets}
use Rattle.string_index.specs.Texts as texts
use Rattle.set_index.specs.Buckets as sets
use Rattle.column_index.specs.declared.kept.Flags.{Flags}
use Rattle.column_index.specs.declared.kept.Numbers.{Numbers}
use Rattle.column_index.specs.declared.kept.Ports.{Ports}
use Rattle.column_index.specs.declared.kept.Addresses.{Addresses}
use Rattle.column_index.specs.declared.kept.Subnets.{Subnets}
use Rattle.column_index.specs.declared.kept.Texts.{Texts}
use Rattle.column_index.specs.declared.kept.Buckets.{Buckets}
use Rattle.column_index.specs.declared.kept.Keys.{Keys}
use Rattle.column_index.specs.declared.kept.Keys.TheVariants as keys
use Rattle.column_index.specs.declared.kept.Pair.{Pair}
use Rattle.column_index.specs.Columns.{Answers, Covers, keys_of, number_key, flag_key, port_key, transport_key, address_key, subnet_key, text_key, bucket_key}
use Rattle.query_meaning.specs.declared.expr.Rel.{Rel}
use Rattle.query_meaning.specs.declared.expr.Literal.TheVariants.{Of}
use Rattle.query_meaning.specs.SureCells.{sure_cell, maybe_cell}

abbrev pub is_number : Elem → Bool
is_number elem.Count = true
is_number elem.Int = true
is_number elem.Span = true
is_number elem.Time = true
is_number _ = false

abbrev pub is_text : Elem → Bool
is_text elem.Text = true
is_text elem.Name = true
is_text _ = false

abbrev pub NumbersStand : Numbers → List (Option Cell) → Type 0
NumbersStand n cells = Covers (slices.Holds n.index.width n.index.table) (keys_of number_key cells)

abbrev pub FlagsStand : Flags → List (Option Cell) → Type 0
FlagsStand f cells = Covers (digits.Holds f.index.coding f.index.bases f.index.table) (keys_of flag_key cells)

pub record PortsStand (p : Ports) (cells : List (Option Cell)) : Type 0 where
  pub numbers : Covers (digits.Holds p.numbers.coding p.numbers.bases p.numbers.table) (keys_of port_key cells)
  pub transports : Covers (digits.Holds p.transports.coding p.transports.bases p.transports.table) (keys_of transport_key cells)

abbrev pub AddressesStand : Addresses → List (Option Cell) → Type 0
AddressesStand a cells = Covers (addresses.Holds a.index.table) (keys_of address_key cells)

abbrev pub SubnetsStand : Subnets → List (Option Cell) → Type 0
SubnetsStand n cells = Covers (HoldsNets n.index.table) (keys_of subnet_key cells)

abbrev pub TextsStand : Texts → List (Option Cell) → Type 0
TextsStand t cells = Covers (texts.Holds t.index.table) (keys_of text_key cells)

abbrev pub BucketsStand : Buckets → List (Option Cell) → Type 0
BucketsStand b cells = Covers (sets.Holds b.index.table) (keys_of bucket_key cells)

-- the two bitmaps are those of a relation to a literal
pub record AreAnswers (pair : Pair) (rel : Rel) (literal : Value) (cells : List (Option Cell)) : Type 0 where
  pub sure : Answers pair.sure (sure_cell rel (Of literal)) cells
  pub maybe : Answers pair.maybe (maybe_cell rel (Of literal)) cells

-- what is kept is that of a column of this kind
abbrev pub is_made : Kind → Keys → Bool
is_made (kind.One e) (keys.Flags f) = elem_eq e elem.Bool
is_made (kind.One e) (keys.Numbers n) = is_number e
is_made (kind.One e) (keys.Ports p) = elem_eq e elem.Port
is_made (kind.One e) (keys.Addresses a) = elem_eq e elem.Addr
is_made (kind.One e) (keys.Subnets n) = elem_eq e elem.Subnet
is_made (kind.One e) (keys.Texts t) = is_text e
is_made (kind.SetOf e) (keys.Buckets b) = true
is_made (kind.VecOf e) (keys.Buckets b) = true
is_made _ _ = false

abbrev pub KeysStand : Keys → List (Option Cell) → Type 0
KeysStand (keys.Flags f) cells = FlagsStand f cells
KeysStand (keys.Numbers n) cells = NumbersStand n cells
KeysStand (keys.Ports p) cells = PortsStand p cells
KeysStand (keys.Addresses a) cells = AddressesStand a cells
KeysStand (keys.Subnets n) cells = SubnetsStand n cells
KeysStand (keys.Texts t) cells = TextsStand t cells
KeysStand (keys.Buckets b) cells = BucketsStand b cells

-- how many rows the indexes have at most
abbrev pub keys_rows : Keys → ℕ
keys_rows (keys.Flags f) = length f.index.table.present
keys_rows (keys.Numbers n) = length n.index.table.present
keys_rows (keys.Ports p) = max (length p.numbers.table.present) (length p.transports.table.present)
keys_rows (keys.Addresses a) = length a.index.table.present
keys_rows (keys.Subnets n) = length n.index.table.present
keys_rows (keys.Texts t) = length t.index.table.present
keys_rows (keys.Buckets b) = length b.index.table.present

-- whether what is kept has a key of the cell
abbrev pub is_kept : Keys → Cell → Bool
is_kept (keys.Buckets b) (cell.Many items) = true
is_kept (keys.Buckets b) _ = false
is_kept _ (cell.One v) = true
is_kept _ _ = false

abbrev pub kind_elem : Kind → Elem
kind_elem (kind.One e) = e
kind_elem (kind.SetOf e) = e
kind_elem (kind.VecOf e) = e
