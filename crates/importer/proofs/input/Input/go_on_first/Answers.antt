use Rattle.importer.proofs.GoingLemmas.{begun_steps}
use Rattle.importer.proofs.input.Input.go_on_first.Goals as goal

pub returns-clause-next : goal.returns-clause-next
returns-clause-next g c =
    begun_steps c.args.self.now.at c.begin.new.self.at _ _ (g.S.Source.left c.begin.new.self.source) _ _ c.in_ok-begin.ensures.next c.go_on.ensures.next
