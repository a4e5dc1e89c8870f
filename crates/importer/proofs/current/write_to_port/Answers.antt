use Rattle.std.proofs.Common.{◌++◌, List, ℕ, ap, sym, ◌∙◌, arith}
use Rattle.std.proofs.lemmas.Option.{slice_get-get_or}
use Rattle.std.specs.Option.{option_map}
use Rattle.vast_value.specs.declared.cell.Cell.TheVariants.{Unset}
use Rattle.vast_value.specs.Views.{cell_seen}
use Rattle.importer.proofs.CurrentLemmas.{marked}
use Rattle.importer.proofs.current.write_to_port.Goals as goal

pub overflow_add-column : goal.overflow_add-column
overflow_add-column c = omega (arith, c.requires.within, c.requires.few)

pub unreachable-requires : goal.unreachable-requires
unreachable-requires c =
    let past = ap (option_map cell_seen) (sym c.in_default-2.is) ∙ c.in_ok-seen.ensures ∙ slice_get-get_or c.args.reader.now.row c.args.column Unset c.requires.within in
    cc

pub returns-in-Some : goal.returns-in-Some
returns-in-Some c =
    marked c.args.over c.args.reader.now.row c.args.out.now c.write_cells.new.out c.append.new.self c.args.from c.args.column c.in-Some.field-0 c.requires.order c.requires.within
    c.in-Some.ensures c.in_ok-write_cells.ensures (c.in_ok-append.ensures.ok ∙ ap (λ (t : List ℕ). c.write_cells.new.out ++ t) c.mark_of.ensures)
