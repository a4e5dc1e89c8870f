-- A column as a list of cells: `None` at rows without the column, and an unset cell where it is there and has no value.
use Rattle.std.specs.Prelude.{◌≡◌, ℕ, ℤ, pos, negsuc, ◌+◌, ◌-◌, ◌^◌, Bool, true, false, ◌&&◌, List, [], length, map, fold, Option, None, Some, bit_or}
use Rattle.vast_value.specs.declared.cell.Cell.{Cell}
use Rattle.vast_value.specs.declared.cell.Cell.TheVariants as cell
use Rattle.vast_value.specs.declared.kind.Kind.{Kind}
use Rattle.vast_value.specs.declared.value.Value.{Value}
use Rattle.vast_value.specs.declared.value.Value.TheVariants as value
use Rattle.vast_value.specs.Fit.{is_i64, is_ranged_cell}
use Rattle.vast_value.specs.Kinds.{has_kind}
use Rattle.vast_value.specs.Ports.{transport_code}
use Rattle.address_index.specs.Subnets.{Subnet, subnet}
use Rattle.bits_law.specs.Keys.{padded, answers, with_gap, EachKey}
use Rattle.query_meaning.specs.SureCells.{bucket, seconds}

-- The cell may stand in a column of this kind. Its numbers are in range, as all that a program keeps.
abbrev pub fits_kind : Kind → Cell → Bool
fits_kind kind x = has_kind x kind && is_ranged_cell x

-- each cell may stand in a column of this kind
abbrev pub AreOf : Kind → List (Option Cell) → Type 0
AreOf kind cells = EachKey (λ x. fits_kind kind x ≡ true) cells

-- the bits are those of a test of the cells, false at rows without the column and past the last bit
abbrev pub Answers : List Bool → (Cell → Bool) → List (Option Cell) → Type 0
Answers bits test cells = padded false bits (length cells) ≡ answers test cells

-- what an index keeps of a row
abbrev pub key_in : {K : Type 0} → (Cell → Option K) → Option Cell → Option K
key_in key None = None
key_in key (Some x) = key x

abbrev pub keys_of : {K : Type 0} → (Cell → Option K) → List (Option Cell) → List (Option K)
keys_of key cells = map (key_in key) cells

-- an index stands for the first of these keys, and there are none behind
pub record Covers {K : Type 0} (Holds : List (Option K) → Type 0) (keys : List (Option K)) : Type 0 where
  pub held : List (Option K)
  pub holds : Holds held
  pub rest : with_gap held (length keys) ≡ keys

-- an integer as a number of the same order
abbrev pub biased : ℤ → ℕ
biased (pos n) = n + 2 ^ 63
biased (negsuc n) = 2 ^ 63 - 1 - n

-- a signed number of 64 bits, if the value is one of these
abbrev pub has_i64 : Value → Bool
has_i64 (value.Int z) = is_i64 z
has_i64 (value.Time z) = is_i64 z
has_i64 (value.Span z) = is_i64 z
has_i64 _ = true

-- the number that stands for a value
abbrev pub number_of : Value → ℕ
number_of (value.Count n) = n
number_of (value.Int z) = biased z
number_of (value.Span z) = biased z
number_of (value.Time t) = biased (seconds t)
number_of _ = 0

abbrev pub number_key : Cell → Option ℕ
number_key (cell.One v) = Some (number_of v)
number_key _ = None

abbrev pub flag_of : Value → ℕ
flag_of (value.Bool true) = 1
flag_of _ = 0

abbrev pub flag_key : Cell → Option ℕ
flag_key (cell.One v) = Some (flag_of v)
flag_key _ = None

abbrev pub port_of : Value → ℕ
port_of (value.Port p over) = p
port_of _ = 0

abbrev pub port_key : Cell → Option ℕ
port_key (cell.One v) = Some (port_of v)
port_key _ = None

abbrev pub transport_of : Value → ℕ
transport_of (value.Port p over) = transport_code over
transport_of _ = 0

abbrev pub transport_key : Cell → Option ℕ
transport_key (cell.One v) = Some (transport_of v)
transport_key _ = None

abbrev pub address_of : Value → ℕ
address_of (value.Addr a) = a
address_of _ = 0

abbrev pub address_key : Cell → Option ℕ
address_key (cell.One v) = Some (address_of v)
address_key _ = None

abbrev pub subnet_of : Value → Subnet
subnet_of (value.Subnet n) = subnet n.base n.bits
subnet_of _ = subnet 0 0

abbrev pub subnet_key : Cell → Option Subnet
subnet_key (cell.One v) = Some (subnet_of v)
subnet_key _ = None

abbrev pub text_of : Value → List ℕ
text_of (value.Text t) = t
text_of (value.Name t) = t
text_of _ = []

abbrev pub text_key : Cell → Option (List ℕ)
text_key (cell.One v) = Some (text_of v)
text_key _ = None

-- the buckets that a container's elements take, one bit for each
abbrev pub with_bucket : ℕ → Option Value → ℕ
with_bucket buckets None = buckets
with_bucket buckets (Some v) = bit_or buckets (2 ^ bucket v)

abbrev pub buckets_of : List (Option Value) → ℕ
buckets_of items = fold with_bucket 0 items

abbrev pub bucket_key : Cell → Option ℕ
bucket_key (cell.Many items) = Some (buckets_of items)
bucket_key _ = None
