use Rattle.std.proofs.Common.{ap, ◌∙◌}
use Rattle.importer.specs.Coming.{Standpoint}
use Rattle.importer.proofs.input.Input.advance.Goals as goal

pub returns-clause-stays : goal.returns-clause-stays
returns-clause-stays g c = λ end is.
    let same = c.advance_in_place.ensures.ended end is in
    let again = c.advance_by_reading.ensures.stays end (ap (λ (s : Standpoint g.row.S.Denot). s.at) same ∙ is) in
    (again.0, again.1 ∙ same)
