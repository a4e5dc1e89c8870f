use Rattle.std.proofs.Common.{refl}
use Rattle.zeek_log.specs.declared.step.Moved.TheVariants.{Line}
use Rattle.importer.proofs.GoingLemmas.{faults_in_place, has_at, moved_at, point_stays, there_in_place}
use Rattle.importer.proofs.log.LogReader.advance_in_place.Goals as goal

pub returns-clause-next : goal.returns-clause-next
returns-clause-next c = λ yes left.
    moved_at c.args.self.now c.self.inside.reader c.advance_in_place.new.self Line Line left left c.self.view_is refl (c.advance_in_place.ensures.next yes left) (c.advance_in_place.ensures.has yes)

pub returns-clause-has : goal.returns-clause-has
returns-clause-has c = λ yes. has_at c.args.self.now c.self.inside.reader c.advance_in_place.new.self Line Line c.self.view_is refl (c.advance_in_place.ensures.has yes)

pub returns-clause-stays : goal.returns-clause-stays
returns-clause-stays c = λ no. point_stays c.args.self.now c.self.inside.reader c.advance_in_place.new.self c.self.view_is (c.advance_in_place.ensures.stays no)

pub returns-clause-faults : goal.returns-clause-faults
returns-clause-faults c = λ yes count.
    faults_in_place c.args.self.now.at c.advance_in_place.new.self.at _ count (has_at c.args.self.now c.self.inside.reader c.advance_in_place.new.self Line Line c.self.view_is refl (c.advance_in_place.ensures.has yes))

pub returns-clause-there : goal.returns-clause-there
returns-clause-there c = λ yes.
    there_in_place c.args.self.now.at c.advance_in_place.new.self.at _ (has_at c.args.self.now c.self.inside.reader c.advance_in_place.new.self Line Line c.self.view_is refl (c.advance_in_place.ensures.has yes))
