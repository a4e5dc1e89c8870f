use Rattle.std.proofs.Common.{List, ap, sym, ◌∙◌}
use Rattle.std.specs.Prelude.{slice_get}
use Rattle.vast_value.specs.declared.cell.Cell.{Cell}
use Rattle.importer.proofs.CurrentLemmas.{count_at, row_plain}
use Rattle.importer.proofs.log.LogReaderRowView.plain_number.Goals as goal

pub returns-in-Count : goal.returns-in-Count
returns-in-Count c =
    count_at c.args.self.now c.self.inside.reader c.args.column c.in-Count.field-0 c.in_ok-number.number c.self.view_is c.in-Count.is c.in_ok-number.ensures

pub returns-in-None : goal.returns-in-None
returns-in-None c =
    ap (λ (row : List Cell). slice_get row c.args.column) (sym (row_plain c.args.self.now c.self.inside.reader c.self.inside.protocol c.self.view_is c.self.invariant c.in-None.is)) ∙ c.in_ok-number.ensures
