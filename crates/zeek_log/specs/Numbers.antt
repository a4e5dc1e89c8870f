-- The numbers of cells.
use Rattle.std.specs.Prelude.{ℕ, Option, None, Some}
use Rattle.vast_value.specs.declared.cell.Cell.{Cell}
use Rattle.vast_value.specs.declared.cell.Cell.TheVariants.{One}
use Rattle.vast_value.specs.declared.value.Value.TheVariants as value

-- the number of a cell that is a count or a port
abbrev pub number_in : Option Cell → Option ℕ
number_in (Some (One (value.Count n))) = Some n
number_in (Some (One (value.Port p over))) = Some p
number_in _ = None
