-- What a batch says: its source, its heading and its rows. And what its bytes say besides: their format.
use Rattle.std.specs.Prelude.{ℕ, Bool, true, ◌&&◌, ◌^◌, List, Option, None, Some, length, nat_lt, nat_le, is_none}
use Rattle.std.specs.List.{list_all}
use Rattle.vast_value.specs.declared.transport.Transport.TheVariants.{Unknown}
use Rattle.vast_value.specs.declared.value.Value.{Value}
use Rattle.vast_value.specs.declared.value.Value.TheVariants.{Port}
use Rattle.vast_value.specs.declared.cell.Cell.{Cell}
use Rattle.vast_value.specs.declared.cell.Cell.TheVariants.{Unset, One, Many}
use Rattle.vast_value.specs.Headings.{Field, Heading, heading_of, heading_fault, fits_fields}
use Rattle.vast_value.specs.Ports.{transport_eq}
use Rattle.event_batch.specs.declared.batch.Batch.{Batch}
use Rattle.event_batch.specs.declared.format.Format.{Format}
use Rattle.event_batch.specs.declared.format.Format.TheVariants.{First}
use Rattle.event_batch.specs.Sizes.{is_batch_size}

pub record Content : Type 0 where
  pub source : ℕ
  pub heading : Heading
  pub rows : List (List Cell)

abbrev pub content_of : Batch → Content
content_of b = record { source = b.source; heading = heading_of b.layout; rows = b.rows }

-- a name has at most 2^24 bytes
abbrev pub is_short_field : Field → Bool
is_short_field f = nat_le (length f.name) (2 ^ 24)

-- a layout's heading
abbrev pub is_heading : Heading → Bool
is_heading h = is_none (heading_fault h) && (nat_le (length h.path) (2 ^ 24) && list_all is_short_field h.fields)

-- a batch's content: 1 to 4,096 rows of a layout that they fit
abbrev pub is_content : Content → Bool
is_content c = nat_lt c.source (2 ^ 32) && (is_heading c.heading && (is_batch_size (length c.rows) && list_all (fits_fields c.heading.fields) c.rows))

-- what the bytes of a batch say
pub record Spelled : Type 0 where
  pub format : Format
  pub content : Content

-- The first format has no place for a transport.
abbrev pub has_place : Format → Value → Bool
has_place First (Port p over) = transport_eq over Unknown
has_place f v = true

abbrev pub element_has_place : Format → Option Value → Bool
element_has_place f None = true
element_has_place f (Some v) = has_place f v

abbrev pub cell_has_place : Format → Cell → Bool
cell_has_place f Unset = true
cell_has_place f (One v) = has_place f v
cell_has_place f (Many items) = list_all (element_has_place f) items

-- a batch's content that the format can spell
abbrev pub is_spellable : Spelled → Bool
is_spellable s = is_content s.content && list_all (list_all (cell_has_place s.format)) s.content.rows
