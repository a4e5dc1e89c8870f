use Rattle.std.proofs.Common.{subst, arith}
use Rattle.zeek_log.specs.declared.reader.Current.{Current}
use Rattle.zeek_log.specs.Standing.{IsPlainAt, StandsWell}
use Rattle.zeek_log.proofs.StandingLemmas.{some_cell}
use Rattle.zeek_log.proofs.reader.pass_current.Goals as goal

pub overflow_sub-count : goal.overflow_sub-count
overflow_sub-count c =
    let lines = c.args.lines.now in
    let plain : IsPlainAt lines.state lines.held c.args.places.now c.in-Plain.count = subst (λ (x : Current). StandsWell lines x c.args.places.now) c.in-Plain.is c.requires in
    omega (arith, some_cell c.args.places.now c.in-Plain.count lines.state lines.held plain)
