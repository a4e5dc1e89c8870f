-- Which rows fit a layout.
use Rattle.std.specs.Prelude.{ℕ, ℤ, pos, negsuc, ◌^◌, Bool, true, ◌&&◌, List, Option, None, Some, length, nat_lt, nat_le}
use Rattle.std.specs.List.{list_all}
use Rattle.std.specs.Cmp.Lexicographic.{pointwise}
use Rattle.vast_value.specs.declared.value.Value.{Value}
use Rattle.vast_value.specs.declared.value.Value.TheVariants.{Bool as BoolOf, Count, Int, Time, Span, Text, Name, Addr, Subnet, Port}
use Rattle.vast_value.specs.declared.cell.Cell.{Cell}
use Rattle.vast_value.specs.declared.cell.Cell.TheVariants.{Unset, One, Many}
use Rattle.vast_value.specs.declared.column.Column.{Column}
use Rattle.vast_value.specs.Kinds.{has_kind}

-- The tests of ranges below hold of every number that a program keeps in its type. They are tested here so that what
-- fits is known to be in range wherever it is read.
abbrev pub is_byte : ℕ → Bool
is_byte b = nat_lt b (2 ^ 8)

abbrev pub is_i64 : ℤ → Bool
is_i64 (pos n) = nat_lt n (2 ^ 63)
is_i64 (negsuc n) = nat_lt n (2 ^ 63)

-- the most bytes of a text, and the most elements of a container
abbrev pub most_parts : ℕ
most_parts = 2 ^ 24

abbrev pub is_ranged : Value → Bool
is_ranged (BoolOf b) = true
is_ranged (Count n) = nat_lt n (2 ^ 64)
is_ranged (Int z) = is_i64 z
is_ranged (Time z) = is_i64 z
is_ranged (Span z) = is_i64 z
is_ranged (Text t) = list_all is_byte t
is_ranged (Name t) = list_all is_byte t
is_ranged (Addr a) = nat_lt a (2 ^ 128)
is_ranged (Subnet n) = nat_lt n.base (2 ^ 128)
is_ranged (Port p over) = nat_lt p (2 ^ 16)

abbrev pub is_ranged_element : Option Value → Bool
is_ranged_element None = true
is_ranged_element (Some v) = is_ranged v

abbrev pub is_ranged_cell : Cell → Bool
is_ranged_cell Unset = true
is_ranged_cell (One v) = is_ranged v
is_ranged_cell (Many items) = list_all is_ranged_element items

-- a text is not too long
abbrev pub is_sized : Value → Bool
is_sized (Text t) = nat_le (length t) most_parts
is_sized (Name t) = nat_le (length t) most_parts
is_sized _ = true

-- a text has at most 2^24 bytes, which are bytes
abbrev pub is_short : List ℕ → Bool
is_short text = nat_le (length text) most_parts && list_all is_byte text

abbrev pub is_bounded : Value → Bool
is_bounded v = is_sized v && is_ranged v

abbrev pub is_bounded_element : Option Value → Bool
is_bounded_element None = true
is_bounded_element (Some v) = is_bounded v

-- each text has at most 2^24 bytes and each container at most 2^24 elements
abbrev pub is_small : Cell → Bool
is_small Unset = true
is_small (One v) = is_bounded v
is_small (Many items) = nat_le (length items) most_parts && list_all is_bounded_element items

abbrev pub fits_column : Column → Cell → Bool
fits_column c x = has_kind x c.kind && is_small x

-- as many cells as columns, and each cell fits its column
abbrev pub fits_columns : List Column → List Cell → Bool
fits_columns = pointwise fits_column
