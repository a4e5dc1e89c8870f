use Rattle.std.proofs.Common.{sym, ap, ◌∙◌}
use Rattle.importer.specs.Coming.{Standpoint}
use Rattle.importer.specs.Inputs.{standing_of}
use Rattle.importer.proofs.GoingLemmas.{stay_at}
use Rattle.importer.proofs.input.Input.read_begun.Goals as goal

pub returns-in-Ended-clause-next : goal.returns-in-Ended-clause-next
returns-in-Ended-clause-next g c =
    stay_at c.args.self.now.at c.in-Ended.end (g.S.Source.left c.args.self.now.source) (g.S.Source.left c.self.inside.source)
    (ap (λ (s : Standpoint g.row.S.Denot). s.at) (sym c.self.view_is) ∙ ap standing_of c.in-Ended.is)
    (ap (λ (s : Standpoint g.row.S.Denot). g.S.Source.left s.source) c.self.view_is)
