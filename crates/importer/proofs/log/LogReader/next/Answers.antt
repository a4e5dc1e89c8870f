use Rattle.std.proofs.Common.{ap}
use Rattle.std.proofs.lemmas.Result.{err_from_is_err_and}
use Rattle.zeek_log.specs.Reader.{Standing}
use Rattle.importer.proofs.CurrentLemmas.{point_none}
use Rattle.importer.proofs.GoingLemmas.{head_at, end_at, line_at, line_fits_at}
use Rattle.importer.proofs.log.LogReader.next.Goals as goal

pub returns-in_err-layout-clause-goes : goal.returns-in_err-layout-clause-goes
returns-in_err-layout-clause-goes g c =
    let p = err_from_is_err_and c.from_residual.result c.from_residual.ensures.1 in
    rw (p.1, p.2) (end_at c.args.self.now.at c.self.inside.reader.at c.next.new.self.at (g.S.Source.left c.args.source.now) (g.S.Source.left c.next.new.source) c.in_err-layout.field-0.0
    (ap (λ (s : Standing). s.at) c.self.view_is) c.in_err-layout.ensures.next)

pub returns-in-Head-clause-goes : goal.returns-in-Head-clause-goes
returns-in-Head-clause-goes g c =
    head_at c.args.self.now.at c.self.inside.reader.at c.next.new.self.at (g.S.Source.left c.args.source.now) (g.S.Source.left c.next.new.source) c.in_ok-layout.field-0 c.in-Head.layout
    (ap (λ (s : Standing). s.at) c.self.view_is) c.in_ok-layout.ensures.next c.in_ok-layout.ensures.fits c.in-Head.is

pub returns-in_ok-carry-in-Line-clause-goes : goal.returns-in_ok-carry-in-Line-clause-goes
returns-in_ok-carry-in-Line-clause-goes g c =
    line_at c.args.self.now.at c.self.inside.reader.at c.next.new.self.at (g.S.Source.left c.args.source.now) (g.S.Source.left c.next.new.source) c.in_ok-layout.field-0 c.in-Line.row
    c.in_ok-carry-in-Line.field-0 c.self.inside.protocol
    (ap (λ (s : Standing). s.at) c.self.view_is) c.self.invariant c.in_ok-layout.ensures.next c.in_ok-layout.ensures.fits c.in-Line.is c.in_ok-carry-in-Line.ensures.carried

pub returns-in_ok-carry-in-Line-clause-fits : goal.returns-in_ok-carry-in-Line-clause-fits
returns-in_ok-carry-in-Line-clause-fits g c =
    line_fits_at c.args.self.now.at c.self.inside.reader.at c.next.new.self.at c.in_ok-layout.field-0 c.in-Line.row c.in_ok-carry-in-Line.field-0 c.self.inside.protocol
    (ap (λ (s : Standing). s.at) c.self.view_is) c.self.invariant c.in_ok-layout.ensures.fits c.in-Line.is c.in_ok-carry-in-Line.ensures.carried

pub returns-in_err-carry-in-Line-clause-row : goal.returns-in_err-carry-in-Line-clause-row
returns-in_err-carry-in-Line-clause-row g c = point_none c.next.new.self c.next.ensures.row

pub returns-in-Head-clause-row : goal.returns-in-Head-clause-row
returns-in-Head-clause-row g c = point_none c.next.new.self c.next.ensures.row

pub returns-in_ok-carry-in-Line-clause-row : goal.returns-in_ok-carry-in-Line-clause-row
returns-in_ok-carry-in-Line-clause-row g c = point_none c.next.new.self c.next.ensures.row

pub returns-in_err-layout-clause-row : goal.returns-in_err-layout-clause-row
returns-in_err-layout-clause-row g c = point_none c.next.new.self c.next.ensures.row
