use Rattle.std.proofs.Common.{ap, length, sym, subst, arith, ◌∙◌}
use Rattle.zeek_log.specs.declared.reader.Current.{Current}
use Rattle.zeek_log.specs.Reader.{Standing}
use Rattle.zeek_log.specs.Standing.{IsPlainAt, StandsWell, standing}
use Rattle.zeek_log.proofs.StandingLemmas.{cell_past, row_count}
use Rattle.zeek_log.proofs.reader.ZeekReaderRowView.cell.Goals as goal

pub returns-then-column-count : goal.returns-then-column-count
returns-then-column-count c =
    let i = c.self.inside in
    let plain : IsPlainAt i.lines.state i.lines.held i.places c.in-Plain.count = subst (λ (x : Current). StandsWell i.lines x i.places) c.in-Plain.is c.self.invariant in
    cell_past c.args.self.now.row c.args.column c.in-Plain.count
    (ap (λ (s : Standing). length s.row) (sym c.self.view_is) ∙ ap (λ (x : Current). length (standing i.lines x i.places).row) c.in-Plain.is
    ∙ row_count i.places c.in-Plain.count i.lines.state i.lines.held plain)
    (omega arith)
