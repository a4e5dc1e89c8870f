use Rattle.std.proofs.Common.{ap, sym, ◌∙◌}
use Rattle.zeek_log.specs.Reader.{Standing}
use Rattle.zeek_log.proofs.StandingLemmas.{plain_follows, plain_has}
use Rattle.zeek_log.proofs.reader.ZeekReader.advance_in_place.Goals as goal

pub returns-in-Some-clause-next : goal.returns-in-Some-clause-next
returns-in-Some-clause-next c =
    let same = sym (c.pass_current.ensures.lines ∙ ap (λ (s : Standing). s.at) c.self.view_is) in
    λ yes left. plain_follows c.plain_line.new.places c.in-Some.count c.pass_current.new.lines c.args.self.now.at left same c.in-Some.ensures.plain

pub returns-in-Some-clause-has : goal.returns-in-Some-clause-has
returns-in-Some-clause-has c =
    let same = sym (c.pass_current.ensures.lines ∙ ap (λ (s : Standing). s.at) c.self.view_is) in
    λ yes. plain_has c.plain_line.new.places c.in-Some.count c.pass_current.new.lines c.args.self.now.at same c.in-Some.ensures.plain
