use Rattle.std.proofs.Common.{ap, length, sym, subst, ◌∙◌}
use Rattle.zeek_log.specs.declared.reader.Current.{Current}
use Rattle.zeek_log.specs.Reader.{Standing}
use Rattle.zeek_log.specs.Standing.{IsPlainAt, StandsWell, standing}
use Rattle.zeek_log.proofs.StandingLemmas.{row_count}
use Rattle.zeek_log.proofs.reader.ZeekReader.count.Goals as goal

pub returns-in-Plain : goal.returns-in-Plain
returns-in-Plain c =
    let i = c.self.inside in
    let plain : IsPlainAt i.lines.state i.lines.held i.places c.in-Plain.count = subst (λ (x : Current). StandsWell i.lines x i.places) c.in-Plain.is c.self.invariant in
    sym (ap (λ (s : Standing). length s.row) (sym c.self.view_is) ∙ ap (λ (x : Current). length (standing i.lines x i.places).row) c.in-Plain.is
    ∙ row_count i.places c.in-Plain.count i.lines.state i.lines.held plain)
