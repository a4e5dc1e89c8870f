-- Reading a spelling from left to right: a value and the bytes behind it, or nothing. That what is read is what was
-- spelled is proved of these words; no clause of a public call names one.
use Rattle.std.specs.Prelude.{ℕ, ℤ, zero, suc, ◌-◌, ◌^◌, Bool, true, false, ◌==◌, ◌||◌, if◌then◌else◌, List, [], ◌∷◌, length, take, drop, Option, None, Some, is_some, nat_lt, slice_get, option_map}
use Rattle.std.specs.Int.{w64, cast_signed}
use Rattle.byteorder.specs.Endian.{little_number}
use Rattle.vast_value.specs.declared.kind.Elem.{Elem}
use Rattle.vast_value.specs.declared.kind.Elem.TheVariants as elem
use Rattle.vast_value.specs.declared.kind.Kind.{Kind}
use Rattle.vast_value.specs.declared.kind.Kind.TheVariants as kind
use Rattle.vast_value.specs.declared.net.Net.{Net}
use Rattle.vast_value.specs.declared.value.Value.{Value}
use Rattle.vast_value.specs.declared.value.Value.TheVariants as value
use Rattle.vast_value.specs.declared.cell.Cell.{Cell}
use Rattle.vast_value.specs.declared.cell.Cell.TheVariants as cell
use Rattle.vast_value.specs.Headings.{Field, Heading, heading_fault}
use Rattle.vast_value.specs.Kinds.{is_lone_unset}
use Rattle.vast_value.specs.declared.transport.Transport.TheVariants.{Unknown}
use Rattle.vast_value.specs.Ports.{transport_coded}
use Rattle.event_batch.specs.declared.format.Format.{Format}
use Rattle.event_batch.specs.declared.format.Format.TheVariants.{First, Second}
use Rattle.event_batch.specs.Contents.{Spelled}
use Rattle.event_batch.specs.Sizes.{is_batch_size}
use Rattle.vast_value.specs.Nets.{net_of}

infixl 10 ◌>>=◌
abbrev pub ◌>>=◌ : {A B : Type 0} → Option A → (A → Option B) → Option B
(Some x) >>= f = f x
None >>= f = None

unfoldable pub byte_at : List ℕ → Option (ℕ × List ℕ)
byte_at [] = None
byte_at (b ∷ rest) = Some (b, rest)

-- the number in the first n bytes, the lowest first
unfoldable pub number_at : ℕ → List ℕ → Option (ℕ × List ℕ)
number_at n bytes = if nat_lt (length bytes) n then None else Some (little_number n bytes, drop n bytes)

unfoldable pub signed_at : List ℕ → Option (ℤ × List ℕ)
signed_at bytes = do
  n ← number_at 8 bytes
  Some (cast_signed w64 n.0, n.1)

unfoldable pub text_at : List ℕ → Option (List ℕ × List ℕ)
text_at bytes = do
  n ← number_at 4 bytes
  if nat_lt (2 ^ 24) n.0 || nat_lt (length n.1) n.0 then None else Some (take n.0 n.1, drop n.0 n.1)

unfoldable pub bool_at : List ℕ → Option (Bool × List ℕ)
bool_at [] = None
bool_at (zero ∷ rest) = Some (false, rest)
bool_at (suc zero ∷ rest) = Some (true, rest)
bool_at (suc (suc b) ∷ rest) = None

unfoldable pub net_at : List ℕ → Option (Net × List ℕ)
net_at bytes = do
  base ← number_at 16 bytes
  bits ← byte_at base.1
  net ← net_of base.0 bits.0
  Some (net, bits.1)

-- what was read, as another value
abbrev pub reads_as : {A B : Type 0} → (A → B) → Option (A × List ℕ) → Option (B × List ℕ)
reads_as f read = read >>= λ x. Some (f x.0, x.1)

-- in the first format a port is its number alone, and has no transport
unfoldable pub port_at : Format → List ℕ → Option (Value × List ℕ)
port_at First bytes = reads_as (λ p. value.Port p Unknown) (number_at 2 bytes)
port_at Second bytes = do
  n ← number_at 2 bytes
  code ← byte_at n.1
  over ← transport_coded code.0
  Some (value.Port n.0 over, code.1)

unfoldable pub value_at : Format → Elem → List ℕ → Option (Value × List ℕ)
value_at f elem.Bool bytes = reads_as value.Bool (bool_at bytes)
value_at f elem.Count bytes = reads_as value.Count (number_at 8 bytes)
value_at f elem.Int bytes = reads_as value.Int (signed_at bytes)
value_at f elem.Time bytes = reads_as value.Time (signed_at bytes)
value_at f elem.Span bytes = reads_as value.Span (signed_at bytes)
value_at f elem.Text bytes = reads_as value.Text (text_at bytes)
value_at f elem.Name bytes = reads_as value.Name (text_at bytes)
value_at f elem.Addr bytes = reads_as value.Addr (number_at 16 bytes)
value_at f elem.Subnet bytes = reads_as value.Subnet (net_at bytes)
value_at f elem.Port bytes = port_at f bytes

unfoldable pub element_at : Format → Elem → List ℕ → Option (Option Value × List ℕ)
element_at f e [] = None
element_at f e (zero ∷ rest) = Some (None, rest)
element_at f e (suc zero ∷ rest) = do
  v ← value_at f e rest
  Some (Some v.0, v.1)
element_at f e (suc (suc b) ∷ rest) = None

-- so many in a row
unfoldable pub many_at : {A : Type 0} → (List ℕ → Option (A × List ℕ)) → ℕ → List ℕ → Option (List A × List ℕ)
many_at one zero bytes = Some ([], bytes)
many_at one (suc n) bytes = do
  first ← one bytes
  others ← many_at one n first.1
  Some (first.0 ∷ others.0, others.1)

unfoldable pub container_at : Format → Elem → List ℕ → Option (Cell × List ℕ)
container_at f e bytes = do
  n ← number_at 4 bytes
  items ← if nat_lt (2 ^ 24) n.0 then None else many_at (element_at f e) n.0 n.1
  if is_lone_unset items.0 then None else Some (cell.Many items.0, items.1)

unfoldable pub set_cell_at : Format → Kind → List ℕ → Option (Cell × List ℕ)
set_cell_at f (kind.One e) bytes = reads_as cell.One (value_at f e bytes)
set_cell_at f (kind.SetOf e) bytes = container_at f e bytes
set_cell_at f (kind.VecOf e) bytes = container_at f e bytes

unfoldable pub cell_at : Format → Kind → List ℕ → Option (Cell × List ℕ)
cell_at f k [] = None
cell_at f k (zero ∷ rest) = Some (cell.Unset, rest)
cell_at f k (suc zero ∷ rest) = set_cell_at f k rest
cell_at f k (suc (suc b) ∷ rest) = None

-- a cell for each field
unfoldable pub row_at : Format → List Field → List ℕ → Option (List Cell × List ℕ)
row_at f [] bytes = Some ([], bytes)
row_at f (field ∷ fields) bytes = do
  first ← cell_at f field.kind bytes
  others ← row_at f fields first.1
  Some (first.0 ∷ others.0, others.1)

abbrev pub every_elem : List Elem
every_elem = elem.Bool ∷ elem.Count ∷ elem.Int ∷ elem.Time ∷ elem.Span ∷ elem.Text ∷ elem.Name ∷ elem.Addr ∷ elem.Subnet ∷ elem.Port ∷ []

unfoldable pub elem_of_code : ℕ → Option Elem
elem_of_code n = slice_get every_elem n

unfoldable pub kind_of_code : ℕ → Option Kind
kind_of_code n =
    if nat_lt n 16 then option_map kind.One (elem_of_code n)
    else (if nat_lt n 32 then option_map kind.SetOf (elem_of_code (n - 16)) else option_map kind.VecOf (elem_of_code (n - 32)))

unfoldable pub field_at : List ℕ → Option (Field × List ℕ)
field_at bytes = do
  code ← byte_at bytes
  k ← kind_of_code code.0
  name ← text_at code.1
  Some (record { name = name.0; kind = k }, name.1)

-- a heading that a layout has, and nothing for another
abbrev pub checked : Heading × List ℕ → Option (Heading × List ℕ)
checked x = if is_some (heading_fault x.0) then None else Some x

unfoldable pub heading_at : List ℕ → Option (Heading × List ℕ)
heading_at bytes = do
  path ← text_at bytes
  n ← number_at 2 path.1
  fields ← many_at field_at n.0 n.1
  checked (record { path = path.0; fields = fields.0 }, fields.1)

-- the rows of a batch, behind the heading
unfoldable pub rows_at : Format → List Field → List ℕ → Option (List (List Cell))
rows_at f fields bytes = do
  n ← number_at 4 bytes
  rows ← if is_batch_size n.0 then many_at (row_at f fields) n.0 n.1 else None
  if length rows.1 == 0 then Some rows.0 else None

unfoldable pub format_coded : ℕ → Option Format
format_coded b = if b == 1 then Some First else (if b == 2 then Some Second else None)

-- all of the bytes
unfoldable pub content_at : List ℕ → Option Spelled
content_at bytes = do
  code ← byte_at bytes
  f ← format_coded code.0
  source ← number_at 4 code.1
  heading ← heading_at source.1
  rows ← rows_at f heading.0.fields heading.1
  Some (record { format = f; content = record { source = source.0; heading = heading.0; rows = rows } })
