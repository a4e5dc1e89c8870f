-- Cells as they are seen in a row, wherever it is kept.
use Rattle.vast_value.specs.declared.cell.Cell.{Cell}
use Rattle.vast_value.specs.declared.cell.Cell.TheVariants.{One}
use Rattle.vast_value.specs.declared.transport.Transport.TheVariants.{Unknown}
use Rattle.vast_value.specs.declared.value.Value.TheVariants as value
use Rattle.vast_value.specs.declared.view.PlainNumber.{PlainNumber}
use Rattle.vast_value.specs.declared.view.PlainNumber.TheVariants as plain
use Rattle.vast_value.specs.declared.view.SeenCell.{SeenCell}
use Rattle.vast_value.specs.declared.view.SeenCell.TheVariants.{Held, Made}

-- the cell that is seen, held by the row or made for the one who looks
abbrev pub cell_seen : SeenCell → Cell
cell_seen (Held x) = x.now
cell_seen (Made x) = x

-- the cell of a kind's plain number: a count, or a port of an unknown transport
abbrev pub number_cell : PlainNumber → Cell
number_cell (plain.Count n) = One (value.Count n)
number_cell (plain.Port p) = One (value.Port p Unknown)
