use Rattle.std.proofs.Common.{◌≡◌, ◌≤◌, ◌++◌, ◌∷◌, take}
use Rattle.std.specs.List.{between, flat_map}
use Rattle.value_text.specs.Writing.{cell_text}
use Rattle.zeek_log.specs.Reader.{heading_told}
use Rattle.importer.specs.Carrying.{carried_cells}
use Rattle.importer.specs.Coming.{fields_told}
use Rattle.importer.proofs.current.write_carried.Given as goal

abbrev pub invariant-loop-column : goal.invariant-loop-column
invariant-loop-column l = record {
  low : l.from ≤ l.column;
  written : l.out ≡ l.initial.out ++ flat_map (λ x. 9 ∷ cell_text x) (take l.from (carried_cells l.over (fields_told (heading_told l.reader.at.state)) l.reader.row));
  same : between l.from l.column l.reader.row ≡ between l.from l.column (carried_cells l.over (fields_told (heading_told l.reader.at.state)) l.reader.row);
}
