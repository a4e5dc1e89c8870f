use Rattle.std.proofs.Common.{ap, sym, ◌∙◌}
use Rattle.std.specs.Option.{option_map}
use Rattle.vast_value.specs.Views.{cell_seen}
use Rattle.zeek_log.specs.Reader.{heading_told}
use Rattle.importer.specs.Carrying.{carried_cell}
use Rattle.importer.specs.Coming.{fields_told}
use Rattle.importer.proofs.CurrentLemmas.{port_cell, port_past, port_seen}
use Rattle.importer.proofs.current.port_of.Goals as goal

pub returns-in-Some : goal.returns-in-Some
returns-in-Some c =
    port_seen c.args.over (fields_told (heading_told c.args.reader.now.at.state)) c.args.reader.now.row c.args.column c.in-Some.number c.requires c.in-Some.ensures

pub returns-in_ok-carry_cell-in-Some-2 : goal.returns-in_ok-carry_cell-in-Some-2
returns-in_ok-carry_cell-in-Some-2 c =
    port_cell c.args.over (fields_told (heading_told c.args.reader.now.at.state)) c.args.reader.now.row c.args.column (cell_seen c.in-Some-2.seen) c.in_ok-carry_cell-in-Some-2.field-0 c.requires
    (ap (option_map cell_seen) (sym c.in-Some-2.is) ∙ c.in_ok-seen.ensures) (c.in_ok-carry_cell-in-Some-2.ensures ∙ ap (carried_cell c.args.over) c.get.ensures)

pub returns-in-None : goal.returns-in-None
returns-in-None c =
    port_past c.args.over (fields_told (heading_told c.args.reader.now.at.state)) c.args.reader.now.row c.args.column c.requires
    (ap (option_map cell_seen) (sym c.in-None.is) ∙ c.in_ok-seen.ensures)
