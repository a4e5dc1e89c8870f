use Rattle.std.proofs.Common.{◌≡◌, map, take, length}
use Rattle.column_index.specs.Stands.{Stands}
use Rattle.partition.specs.Building.{cell_at}
use Rattle.partition.proofs.building.column_of.Given as goal

abbrev pub invariant-loop-row : goal.invariant-loop-row
invariant-loop-row l = record { stands : Stands l.index (map (cell_at l.at) (take l.row l.rows)); kind : l.index.kind ≡ l.fn.kind; rows : length l.index.has ≡ l.row }
