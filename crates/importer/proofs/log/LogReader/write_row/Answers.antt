use Rattle.std.proofs.Common.{◌≡◌, ◌++◌, ◌∷◌, List, subst}
use Rattle.std.specs.Prelude.{OnOk}
use Rattle.std.specs.List.{flat_map}
use Rattle.value_text.specs.Writing.{cell_text}
use Rattle.vast_value.specs.declared.cell.Cell.{Cell}
use Rattle.importer.proofs.CurrentLemmas.{row_still}
use Rattle.importer.proofs.log.LogReader.write_row.Goals as goal

pub returns-in-Unknown : goal.returns-in-Unknown
returns-in-Unknown c =
    subst (λ (row : List Cell). OnOk c.write_row.result (c.write_row.new.out ≡ c.args.out.now ++ flat_map (λ x. 9 ∷ cell_text x) row))
    (row_still c.args.self.now c.self.inside.reader c.self.inside.protocol c.in_ok-over.over c.self.view_is c.self.invariant c.in_ok-over.ensures c.in-Unknown.is) c.write_row.ensures
