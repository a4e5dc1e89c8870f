-- Bytes of batches, computed by the prover. Each fact is false where its definition is wrong.
use Rattle.std.proofs.Common.{◌≡◌, ℕ, pos, Bool, true, false, List, [], ◌∷◌, ◌++◌, None, Some, is_some, codes, map, refl}
use Rattle.vast_value.specs.declared.kind.Elem.TheVariants as elem
use Rattle.vast_value.specs.declared.kind.Kind.{Kind}
use Rattle.vast_value.specs.declared.kind.Kind.TheVariants as kind
use Rattle.vast_value.specs.declared.value.Value.TheVariants as value
use Rattle.vast_value.specs.declared.cell.Cell.{Cell}
use Rattle.vast_value.specs.declared.cell.Cell.TheVariants as cell
use Rattle.vast_value.specs.declared.transport.Transport.TheVariants.{Unknown, Tcp, Udp}
use Rattle.vast_value.specs.Nets.{net_of}
use Rattle.vast_value.specs.ValueBytes.{number}
use Rattle.event_batch.specs.declared.format.Format.TheVariants.{First, Second}
use Rattle.event_batch.specs.Contents.{Content, is_content, is_spellable}
use Rattle.event_batch.specs.Sizes.{is_batch_size}
use Rattle.event_batch.specs.Spelling.{kind_code, cell_bytes, spelling}
use Rattle.event_batch.specs.Reading.{byte_at, number_at, signed_at, text_at, bool_at, net_at, port_at, value_at, element_at, many_at, container_at, set_cell_at, cell_at, row_at, elem_of_code, kind_of_code, field_at, heading_at, rows_at, format_coded, content_at}

-- a batch of source 1 and path d with one row of one column
abbrev content : List ℕ → Kind → Cell → Content
content name k x = record { source = 1; heading = record { path = codes "d"; fields = record { name = name; kind = k } ∷ [] }; rows = (x ∷ []) ∷ [] }

abbrev counts : Content
counts = content (codes "n") (kind.One elem.Count) (cell.One (value.Count 7))

abbrev ports : Content
ports = content (codes "p") (kind.One elem.Port) (cell.One (value.Port 53 Unknown))

-- the count 7 in column n
count_batch : spelling (record { format = Second; content = counts }) ≡ (2 ∷ 1 ∷ 0 ∷ 0 ∷ 0 ∷ 1 ∷ 0 ∷ 0 ∷ 0 ∷ 100 ∷ 1 ∷ 0 ∷ 1 ∷ 1 ∷ 0 ∷ 0 ∷ 0 ∷ 110 ∷ 1 ∷ 0 ∷ 0 ∷ 0 ∷ 1 ∷ 7 ∷ 0 ∷ 0 ∷ 0 ∷ 0 ∷ 0 ∷ 0 ∷ 0 ∷ [])
unfolding number
count_batch = refl

abbrev first_bytes : List ℕ
first_bytes = (1 ∷ 1 ∷ 0 ∷ 0 ∷ 0 ∷ 1 ∷ 0 ∷ 0 ∷ 0 ∷ 100 ∷ 1 ∷ 0 ∷ 9 ∷ 1 ∷ 0 ∷ 0 ∷ 0 ∷ 112 ∷ 1 ∷ 0 ∷ 0 ∷ 0 ∷ 1 ∷ 53 ∷ 0 ∷ [])

-- a port of format 1 has no transport
first_format : content_at first_bytes ≡ Some (record { format = First; content = ports })
unfolding byte_at number_at signed_at text_at bool_at net_at port_at value_at element_at many_at container_at set_cell_at cell_at row_at elem_of_code kind_of_code field_at heading_at rows_at format_coded content_at net_of
first_format = refl

first_spelling : spelling (record { format = First; content = ports }) ≡ first_bytes
unfolding number
first_spelling = refl

-- and its transport is written as unknown in format 2
second_format : spelling (record { format = Second; content = ports }) ≡ (2 ∷ 1 ∷ 0 ∷ 0 ∷ 0 ∷ 1 ∷ 0 ∷ 0 ∷ 0 ∷ 100 ∷ 1 ∷ 0 ∷ 9 ∷ 1 ∷ 0 ∷ 0 ∷ 0 ∷ 112 ∷ 1 ∷ 0 ∷ 0 ∷ 0 ∷ 1 ∷ 53 ∷ 0 ∷ 0 ∷ [])
unfolding number
second_format = refl

-- a port of a known transport has no place in format 1
places : (is_spellable (record { format = First; content = ports }) ∷ is_spellable (record { format = First; content = content (codes "p") (kind.One elem.Port) (cell.One (value.Port 53 Tcp)) }) ∷ is_spellable (record { format = Second; content = content (codes "p") (kind.One elem.Port) (cell.One (value.Port 53 Tcp)) }) ∷ is_spellable (record { format = First; content = content (codes "p") (kind.SetOf elem.Port) (cell.Many (None ∷ Some (value.Port 53 Udp) ∷ [])) }) ∷ []) ≡ (true ∷ false ∷ true ∷ false ∷ [])
places = refl

-- a source is below 2^32, a batch has 1 to 4,096 rows, and a cell has its column's kind
contents : (is_content counts ∷ is_content (record counts { source = 4294967295 }) ∷ is_content (record counts { source = 4294967296 }) ∷ is_content (record counts { rows = [] }) ∷ is_batch_size 4096 ∷ is_batch_size 4097 ∷ is_content (content (codes "n") (kind.One elem.Count) (cell.One (value.Int (pos 7)))) ∷ is_content (content [] (kind.One elem.Count) cell.Unset) ∷ []) ≡ (true ∷ true ∷ false ∷ false ∷ true ∷ false ∷ false ∷ false ∷ [])
contents = refl

-- cells behind a byte that says whether they are set
cells : (cell_bytes Second cell.Unset ∷ cell_bytes Second (cell.One (value.Text [])) ∷ cell_bytes Second (cell.Many []) ∷ cell_bytes Second (cell.Many (None ∷ Some (value.Bool true) ∷ [])) ∷ cell_bytes Second (cell.One (value.Port 443 Tcp)) ∷ cell_bytes First (cell.Many (Some (value.Port 443 Unknown) ∷ [])) ∷ []) ≡ ((0 ∷ []) ∷ (1 ∷ 0 ∷ 0 ∷ 0 ∷ 0 ∷ []) ∷ (1 ∷ 0 ∷ 0 ∷ 0 ∷ 0 ∷ []) ∷ (1 ∷ 2 ∷ 0 ∷ 0 ∷ 0 ∷ 0 ∷ 1 ∷ 1 ∷ []) ∷ (1 ∷ 187 ∷ 1 ∷ 1 ∷ []) ∷ (1 ∷ 1 ∷ 0 ∷ 0 ∷ 0 ∷ 1 ∷ 187 ∷ 1 ∷ []) ∷ [])
unfolding number
cells = refl

-- the codes of kinds: 16 more for a set and 32 more for a vector
kind_codes : map kind_code ((kind.One elem.Bool ∷ kind.One elem.Count ∷ kind.One elem.Int ∷ kind.One elem.Time ∷ kind.One elem.Span ∷ kind.One elem.Text ∷ kind.One elem.Name ∷ kind.One elem.Addr ∷ kind.One elem.Subnet ∷ kind.One elem.Port ∷ []) ++ ((kind.SetOf elem.Bool ∷ kind.SetOf elem.Count ∷ kind.SetOf elem.Int ∷ kind.SetOf elem.Time ∷ kind.SetOf elem.Span ∷ kind.SetOf elem.Text ∷ kind.SetOf elem.Name ∷ kind.SetOf elem.Addr ∷ kind.SetOf elem.Subnet ∷ kind.SetOf elem.Port ∷ []) ++ (kind.VecOf elem.Bool ∷ kind.VecOf elem.Count ∷ kind.VecOf elem.Int ∷ kind.VecOf elem.Time ∷ kind.VecOf elem.Span ∷ kind.VecOf elem.Text ∷ kind.VecOf elem.Name ∷ kind.VecOf elem.Addr ∷ kind.VecOf elem.Subnet ∷ kind.VecOf elem.Port ∷ []))) ≡ (0 ∷ 1 ∷ 2 ∷ 3 ∷ 4 ∷ 5 ∷ 6 ∷ 7 ∷ 8 ∷ 9 ∷ 16 ∷ 17 ∷ 18 ∷ 19 ∷ 20 ∷ 21 ∷ 22 ∷ 23 ∷ 24 ∷ 25 ∷ 32 ∷ 33 ∷ 34 ∷ 35 ∷ 36 ∷ 37 ∷ 38 ∷ 39 ∷ 40 ∷ 41 ∷ [])
kind_codes = refl

-- a batch of one row and one column p of the kind with this code
abbrev bytes_of : ℕ → List ℕ → List ℕ
bytes_of code row = 2 ∷ 1 ∷ 0 ∷ 0 ∷ 0 ∷ 1 ∷ 0 ∷ 0 ∷ 0 ∷ 100 ∷ 1 ∷ 0 ∷ code ∷ 1 ∷ 0 ∷ 0 ∷ 0 ∷ 112 ∷ 1 ∷ 0 ∷ 0 ∷ 0 ∷ row

abbrev is_read : List ℕ → Bool
is_read bytes = is_some (content_at bytes)

-- values: a bool of 0 or 1, a transport up to 3, no bit of a subnet past its length, no unset element alone, and no bytes behind
values_read : (is_read (bytes_of 0 (1 ∷ 1 ∷ [])) ∷ is_read (bytes_of 0 (1 ∷ 2 ∷ [])) ∷ is_read (bytes_of 9 (1 ∷ 53 ∷ 0 ∷ 3 ∷ [])) ∷ is_read (bytes_of 9 (1 ∷ 53 ∷ 0 ∷ 4 ∷ [])) ∷ is_read (bytes_of 8 (1 ∷ 1 ∷ 0 ∷ 0 ∷ 0 ∷ 0 ∷ 0 ∷ 0 ∷ 0 ∷ 0 ∷ 0 ∷ 0 ∷ 0 ∷ 0 ∷ 0 ∷ 0 ∷ 0 ∷ 128 ∷ [])) ∷ is_read (bytes_of 8 (1 ∷ 1 ∷ 0 ∷ 0 ∷ 0 ∷ 0 ∷ 0 ∷ 0 ∷ 0 ∷ 0 ∷ 0 ∷ 0 ∷ 0 ∷ 0 ∷ 0 ∷ 0 ∷ 0 ∷ 127 ∷ [])) ∷ is_read (bytes_of 8 (1 ∷ 0 ∷ 0 ∷ 0 ∷ 0 ∷ 0 ∷ 0 ∷ 0 ∷ 0 ∷ 0 ∷ 0 ∷ 0 ∷ 0 ∷ 0 ∷ 0 ∷ 0 ∷ 0 ∷ 129 ∷ [])) ∷ is_read (bytes_of 17 (1 ∷ 1 ∷ 0 ∷ 0 ∷ 0 ∷ 0 ∷ [])) ∷ is_read (bytes_of 17 (1 ∷ 2 ∷ 0 ∷ 0 ∷ 0 ∷ 0 ∷ 0 ∷ [])) ∷ is_read (bytes_of 0 (0 ∷ [])) ∷ is_read (bytes_of 0 (2 ∷ [])) ∷ is_read (bytes_of 0 (0 ∷ 0 ∷ [])) ∷ is_read (bytes_of 0 []) ∷ is_read (bytes_of 5 (1 ∷ 1 ∷ 0 ∷ 0 ∷ 0 ∷ [])) ∷ []) ≡ (true ∷ false ∷ true ∷ false ∷ true ∷ false ∷ false ∷ false ∷ true ∷ true ∷ false ∷ false ∷ false ∷ false ∷ [])
unfolding byte_at number_at signed_at text_at bool_at net_at port_at value_at element_at many_at container_at set_cell_at cell_at row_at elem_of_code kind_of_code field_at heading_at rows_at format_coded content_at net_of
values_read = refl

-- batches: formats 1 and 2, a row, names that differ, kinds that there are, and all of the bytes
batches_read : (is_read first_bytes ∷ is_read (3 ∷ 1 ∷ 0 ∷ 0 ∷ 0 ∷ 1 ∷ 0 ∷ 0 ∷ 0 ∷ 100 ∷ 1 ∷ 0 ∷ 9 ∷ 1 ∷ 0 ∷ 0 ∷ 0 ∷ 112 ∷ 1 ∷ 0 ∷ 0 ∷ 0 ∷ 1 ∷ 53 ∷ 0 ∷ []) ∷ is_read (1 ∷ 1 ∷ 0 ∷ 0 ∷ 0 ∷ 1 ∷ 0 ∷ 0 ∷ 0 ∷ 100 ∷ 1 ∷ 0 ∷ 9 ∷ 1 ∷ 0 ∷ 0 ∷ 0 ∷ 112 ∷ 0 ∷ 0 ∷ 0 ∷ 0 ∷ []) ∷ is_read (2 ∷ 1 ∷ 0 ∷ 0 ∷ 0 ∷ 1 ∷ 0 ∷ 0 ∷ 0 ∷ 100 ∷ 2 ∷ 0 ∷ 0 ∷ 1 ∷ 0 ∷ 0 ∷ 0 ∷ 97 ∷ 0 ∷ 1 ∷ 0 ∷ 0 ∷ 0 ∷ 98 ∷ 1 ∷ 0 ∷ 0 ∷ 0 ∷ 0 ∷ 0 ∷ []) ∷ is_read (2 ∷ 1 ∷ 0 ∷ 0 ∷ 0 ∷ 1 ∷ 0 ∷ 0 ∷ 0 ∷ 100 ∷ 2 ∷ 0 ∷ 0 ∷ 1 ∷ 0 ∷ 0 ∷ 0 ∷ 97 ∷ 0 ∷ 1 ∷ 0 ∷ 0 ∷ 0 ∷ 97 ∷ 1 ∷ 0 ∷ 0 ∷ 0 ∷ 0 ∷ 0 ∷ []) ∷ is_read (bytes_of 10 (0 ∷ [])) ∷ is_read (bytes_of 42 (0 ∷ [])) ∷ is_read [] ∷ []) ≡ (true ∷ false ∷ false ∷ true ∷ false ∷ false ∷ false ∷ false ∷ [])
unfolding byte_at number_at signed_at text_at bool_at net_at port_at value_at element_at many_at container_at set_cell_at cell_at row_at elem_of_code kind_of_code field_at heading_at rows_at format_coded content_at net_of
batches_read = refl

-- rows of no columns take no bytes: 4,096 are read, and 4,097 are not
rows_read : (is_some (rows_at Second [] (0 ∷ 16 ∷ 0 ∷ 0 ∷ [])) ∷ is_some (rows_at Second [] (1 ∷ 16 ∷ 0 ∷ 0 ∷ [])) ∷ []) ≡ (true ∷ false ∷ [])
unfolding number_at many_at row_at rows_at
rows_read = refl
