use Rattle.std.proofs.Common.{ap, length, sym, subst, ◌∙◌, arith}
use Rattle.zeek_log.specs.declared.reader.Current.{Current}
use Rattle.zeek_log.specs.Reader.{Standing}
use Rattle.zeek_log.specs.Standing.{IsPlainAt, StandsWell, standing}
use Rattle.zeek_log.proofs.StandingLemmas.{row_count}
use Rattle.zeek_log.proofs.reader.ZeekReader.write_cells.Goals as goal

pub write_plain-requires-clause-within : goal.write_plain-requires-clause-within
write_plain-requires-clause-within c =
    let i = c.self.inside in
    let plain : IsPlainAt i.lines.state i.lines.held i.places c.in-Plain.count = subst (λ (x : Current). StandsWell i.lines x i.places) c.in-Plain.is c.self.invariant in
    let count =
    ap (λ (s : Standing). length s.row) (sym c.self.view_is) ∙ ap (λ (x : Current). length (standing i.lines x i.places).row) c.in-Plain.is
    ∙ row_count i.places c.in-Plain.count i.lines.state i.lines.held plain in
    omega (arith, count, c.requires.within)
