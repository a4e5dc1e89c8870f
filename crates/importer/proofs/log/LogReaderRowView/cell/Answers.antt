use Rattle.std.proofs.Common.{◌≡◌, List, subst}
use Rattle.std.specs.Prelude.{IfOk, slice_get}
use Rattle.std.specs.Option.{option_map}
use Rattle.vast_value.specs.declared.cell.Cell.{Cell}
use Rattle.vast_value.specs.Views.{cell_seen}
use Rattle.importer.proofs.CurrentLemmas.{row_plain}
use Rattle.importer.proofs.log.LogReaderRowView.cell.Goals as goal

pub returns-in-None : goal.returns-in-None
returns-in-None c =
    subst (λ (row : List Cell). IfOk c.cell.result (λ found. option_map cell_seen found ≡ slice_get row c.args.column))
    (row_plain c.args.self.now c.self.inside.reader c.self.inside.protocol c.self.view_is c.self.invariant c.in-None.is) c.cell.ensures
