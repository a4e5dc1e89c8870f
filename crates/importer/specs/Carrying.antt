-- The transport of a row's ports, where the row itself names it.
use Rattle.std.specs.Prelude.{ℕ, ◌+◌, Bool, true, false, if◌then◌else◌, List, [], ◌∷◌, Option, None, Some, codes, slice_get}
use Rattle.std.specs.Str.{bytes_eq}
use Rattle.std.specs.List.{list_any}
use Rattle.vast_value.specs.declared.cell.Cell.{Cell}
use Rattle.vast_value.specs.declared.cell.Cell.TheVariants.{One}
use Rattle.vast_value.specs.declared.kind.Elem.TheVariants as elem
use Rattle.vast_value.specs.declared.kind.Kind.{Kind}
use Rattle.vast_value.specs.declared.kind.Kind.TheVariants as kind
use Rattle.vast_value.specs.declared.transport.Transport.{Transport}
use Rattle.vast_value.specs.declared.transport.Transport.TheVariants.{Unknown, Tcp, Udp, Icmp}
use Rattle.vast_value.specs.declared.value.Value.TheVariants.{Text, Name, Port}
use Rattle.vast_value.specs.Headings.{Field}

-- the transport that a text names: every other text names none
abbrev pub transport_named : List ℕ → Transport
transport_named text =
    if bytes_eq text (codes "tcp") then Tcp
    else (if bytes_eq text (codes "udp") then Udp
    else (if bytes_eq text (codes "icmp") then Icmp else Unknown))

-- the transport that a protocol's cell names: an unset cell names none
abbrev pub cell_transport : Cell → Transport
cell_transport (One (Text text)) = transport_named text
cell_transport (One (Name text)) = transport_named text
cell_transport _ = Unknown

abbrev pub is_protocol_name : List ℕ → Bool
is_protocol_name name = bytes_eq name (codes "proto")

-- a string or an enum
abbrev pub is_text_kind : Kind → Bool
is_text_kind (kind.One elem.Text) = true
is_text_kind (kind.One elem.Name) = true
is_text_kind _ = false

abbrev pub is_port_kind : Kind → Bool
is_port_kind (kind.One elem.Port) = true
is_port_kind _ = false

-- The transport that the row's protocol names. The protocol is the cell of the first column named `proto`, where that
-- column is of kind string or enum.
abbrev pub row_transport : List Field → List Cell → Transport
row_transport [] cells = Unknown
row_transport (field ∷ fields) [] = Unknown
row_transport (field ∷ fields) (cell ∷ cells) =
    if is_protocol_name field.name then (if is_text_kind field.kind then cell_transport cell else Unknown)
    else row_transport fields cells

-- a port of an unknown transport gets this one
abbrev pub carried_cell : Transport → Cell → Cell
carried_cell over (One (Port number Unknown)) = One (Port number over)
carried_cell over cell = cell

-- each cell of a port column gets this transport, if its own is unknown
abbrev pub carried_cells : Transport → List Field → List Cell → List Cell
carried_cells over [] cells = cells
carried_cells over (field ∷ fields) [] = []
carried_cells over (field ∷ fields) (cell ∷ cells) =
    (if is_port_kind field.kind then carried_cell over cell else cell) ∷ carried_cells over fields cells

-- The row in which each set cell of a port column whose transport is unknown gets the one that the row's protocol names. A
-- container of ports is no port column, and stays as it is.
abbrev pub carried : List Field → List Cell → List Cell
carried fields row = carried_cells (row_transport fields row) fields row

-- Where a row is looked at: the place of the protocol's column, the first field's place being `at`.

abbrev pub protocol_from : ℕ → List Field → Option ℕ
protocol_from at [] = None
protocol_from at (field ∷ fields) =
    if is_protocol_name field.name then (if is_text_kind field.kind then Some at else None) else protocol_from (at + 1) fields

abbrev pub has_ports : List Field → Bool
has_ports fields = list_any (λ field. is_port_kind field.kind) fields

-- the place of the protocol's column, where there are port columns too
abbrev pub protocol_place : List Field → Option ℕ
protocol_place fields = if has_ports fields then protocol_from 0 fields else None

abbrev pub cell_or_none_transport : Option Cell → Transport
cell_or_none_transport None = Unknown
cell_or_none_transport (Some cell) = cell_transport cell

-- the transport that the cell at a place names
abbrev pub transport_at : Option ℕ → List Cell → Transport
transport_at None row = Unknown
transport_at (Some at) row = cell_or_none_transport (slice_get row at)

-- Where one cell is looked at: whether the column at a place is one of ports.

abbrev pub port_or_none : Option Field → Bool
port_or_none None = false
port_or_none (Some field) = is_port_kind field.kind

abbrev pub is_port_at : List Field → ℕ → Bool
is_port_at fields at = port_or_none (slice_get fields at)

-- the cell of a column, in a port column with this transport
abbrev pub carried_at : Transport → List Field → ℕ → Cell → Cell
carried_at over fields at cell = if is_port_at fields at then carried_cell over cell else cell
