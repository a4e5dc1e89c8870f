use Rattle.std.proofs.Common.{ap}
use Rattle.std.proofs.lemmas.Result.{err_from_is_err_and}
use Rattle.zeek_log.specs.Reader.{Standing}
use Rattle.zeek_log.specs.declared.step.Moved.TheVariants.{Head, Line}
use Rattle.importer.proofs.GoingLemmas.{end_at, has_at, moved_at}
use Rattle.importer.proofs.log.LogReader.advance_by_reading.Goals as goal

pub returns-in_err-advance_by_reading-clause-goes : goal.returns-in_err-advance_by_reading-clause-goes
returns-in_err-advance_by_reading-clause-goes g c =
    let p = err_from_is_err_and c.from_residual.result c.from_residual.ensures.1 in
    rw (p.1, p.2) (end_at c.args.self.now.at c.self.inside.reader.at c.advance_by_reading.new.self.at (g.S.Source.left c.args.source.now) (g.S.Source.left c.advance_by_reading.new.source)
    c.in_err-advance_by_reading.field-0.0 (ap (λ (s : Standing). s.at) c.self.view_is) c.in_err-advance_by_reading.ensures.next)

pub returns-in-Head-clause-goes : goal.returns-in-Head-clause-goes
returns-in-Head-clause-goes g c =
    moved_at c.args.self.now c.self.inside.reader c.advance_by_reading.new.self c.in_ok-advance_by_reading.field-0 Head (g.S.Source.left c.args.source.now) (g.S.Source.left c.advance_by_reading.new.source)
    c.self.view_is c.in-Head.is c.in_ok-advance_by_reading.ensures.next c.in_ok-advance_by_reading.ensures.has

pub returns-in-Line-clause-goes : goal.returns-in-Line-clause-goes
returns-in-Line-clause-goes g c =
    moved_at c.args.self.now c.self.inside.reader c.advance_by_reading.new.self c.in_ok-advance_by_reading.field-0 Line (g.S.Source.left c.args.source.now) (g.S.Source.left c.advance_by_reading.new.source)
    c.self.view_is c.in-Line.is c.in_ok-advance_by_reading.ensures.next c.in_ok-advance_by_reading.ensures.has

pub returns-in-Line-clause-has : goal.returns-in-Line-clause-has
returns-in-Line-clause-has g c =
    has_at c.args.self.now c.self.inside.reader c.advance_by_reading.new.self c.in_ok-advance_by_reading.field-0 Line c.self.view_is c.in-Line.is c.in_ok-advance_by_reading.ensures.has
