use Rattle.std.proofs.Common.{◌≡◌, List, ℕ, ap, sym, subst, ◌∙◌, arith}
use Rattle.std.specs.Prelude.{OnOk}
use Rattle.std.specs.List.{between}
use Rattle.vast_value.specs.Headings.{Field}
use Rattle.zeek_log.specs.Reader.{heading_told}
use Rattle.importer.specs.Carrying.{carried_cells, is_port_at}
use Rattle.importer.specs.Coming.{fields_told}
use Rattle.importer.proofs.CurrentLemmas.{end_written, turn_other, turn_port}
use Rattle.importer.proofs.current.write_carried.Goals as goal
use Rattle.importer.proofs.current.write_carried.Goals.{then-is_port_at+in_ok-write_to_port, else-is_port_at}

pub loop-column-preserved : goal.loop-column-preserved
loop-column-preserved c =
    let row = c.args.reader.now.row in
    let fields = fields_told (heading_told c.args.reader.now.at.state) in
    let so = c.loop-column.invariant in
    let is = c.is_port_at.ensures ∙ ap (λ (fs : List Field). is_port_at fs c.loop-column.column) c.columns_of-columns.ensures in
    elim c.if-is_port_at.branch [
      | then-is_port_at+in_ok-write_to_port w ↦
          (let turn = turn_port c.args.over fields row c.args.out.now c.loop-column.out w.write_to_port.new.out c.if-is_port_at.out c.loop-column.from c.loop-column.column c.if-is_port_at.from
          w.from-is w.out-is so.low (omega (arith, c.count-count.ensures)) (sym is ∙ w.if-is_port_at.true) so.written so.same w.in_ok-write_to_port.ensures in
          record { low = turn.0; written = turn.1; same = turn.2 })
      | else-is_port_at w ↦
          (let turn = turn_other c.args.over fields row c.args.out.now c.loop-column.out c.if-is_port_at.out c.loop-column.from c.loop-column.column c.if-is_port_at.from
          w.from-is w.out-is so.low (omega (arith, c.count-count.ensures)) (sym is ∙ w.if-is_port_at.false) so.written so.same in
          record { low = turn.0; written = turn.1; same = turn.2 })
    ]

pub returns : goal.returns
returns c =
    let row = c.args.reader.now.row in
    let fields = fields_told (heading_told c.args.reader.now.at.state) in
    let so = c.loop-column.invariant in
    let all : c.loop-column.column ≡ c.count-count.result = omega arith in
    let same = subst (λ (n : ℕ). between c.loop-column.from n row ≡ between c.loop-column.from n (carried_cells c.args.over fields row)) all so.same in
    let text = end_written c.args.over fields row c.args.out.now c.loop-column.out c.loop-column.from c.count-count.result (omega (arith, so.low)) c.count-count.ensures so.written same in
    subst (λ (t : List ℕ). OnOk c.write_cells.result (c.write_cells.new.out ≡ t)) text c.write_cells.ensures
