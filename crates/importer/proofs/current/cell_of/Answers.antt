use Rattle.std.proofs.Common.{◌≡◌, List, Option, ap, sym, subst, ◌∙◌}
use Rattle.std.specs.Prelude.{IfOk}
use Rattle.std.specs.Option.{option_map}
use Rattle.vast_value.specs.declared.cell.Cell.{Cell}
use Rattle.vast_value.specs.Headings.{Field}
use Rattle.vast_value.specs.Views.{cell_seen}
use Rattle.zeek_log.specs.Reader.{heading_told}
use Rattle.importer.specs.Carrying.{is_port_at, transport_at}
use Rattle.importer.specs.Coming.{fields_told}
use Rattle.importer.proofs.CurrentLemmas.{other_get}
use Rattle.importer.proofs.current.cell_of.Goals as goal

pub returns-then-not-is_port_at : goal.returns-then-not-is_port_at
returns-then-not-is_port_at c =
    let row = c.args.reader.now.row in
    let other =
    sym (c.is_port_at.ensures ∙ ap (λ (fs : List Field). is_port_at fs c.args.column) c.columns_of.ensures) ∙ c.if-not-is_port_at.true in
    subst (λ (o : Option Cell). IfOk c.cell.result (λ found. option_map cell_seen found ≡ o))
    (sym (other_get (transport_at c.args.protocol row) (fields_told (heading_told c.args.reader.now.at.state)) row c.args.column other)) c.cell.ensures
