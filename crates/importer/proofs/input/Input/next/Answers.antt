use Rattle.std.proofs.Common.{List, [], subst, sym}
use Rattle.zeek_log.specs.Table.{LogStep}
use Rattle.importer.specs.Coming.{Ended, Standpoint, StepsOn}
use Rattle.importer.proofs.GoingLemmas.{end_stays, end_steps}
use Rattle.importer.proofs.input.Input.next.Goals as goal

pub returns-in-Err-clause-next : goal.returns-in-Err-clause-next
returns-in-Err-clause-next g c =
    subst (λ (xs : List LogStep). StepsOn c.args.self.now.at (Ended c.in-Err.end) (g.S.Source.left c.args.self.now.source) (g.S.Source.left c.self.inside.source) xs)
    (end_steps c.in-Err.end c.end_answer.result c.end_answer.ensures)
    (subst (λ (s : Standpoint g.row.S.Denot). StepsOn c.args.self.now.at (Ended c.in-Err.end) (g.S.Source.left c.args.self.now.source) (g.S.Source.left s.source) []) (sym c.self.view_is)
    c.in-Err.ensures.next)

pub returns-in-Err-clause-stays : goal.returns-in-Err-clause-stays
returns-in-Err-clause-stays g c =
    end_stays c.args.self.now c.read.new.self c.self.inside.phase c.self.inside.source c.in-Err.end c.end_answer.result c.self.view_is c.in-Err.ensures.stays c.end_answer.ensures
