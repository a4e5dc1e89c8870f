use Rattle.std.proofs.Common.{ap, sym}
use Rattle.std.proofs.lemmas.Result.{err_from_is_err_and}
use Rattle.source_block.specs.Holding.{Hold}
use Rattle.importer.specs.Coming.{Standpoint}
use Rattle.importer.proofs.BeginLemmas.{begins_faults, begins_reader, begins_refused, begins_stops, begins_tells, refused_faults}
use Rattle.importer.proofs.input.Input.begin.Goals as goal

pub returns-in_err-self-inside-in-Ok-Enough-clause-next : goal.returns-in_err-self-inside-in-Ok-Enough-clause-next
returns-in_err-self-inside-in-Ok-Enough-clause-next g c =
    let p = err_from_is_err_and c.from_residual.result c.from_residual.ensures.1 in
    let source = ap (λ (s : Standpoint g.row.S.Denot). g.S.Source.left s.source) c.self.view_is in
    let t = c.in-Ok-Enough.ensures.takes in
    rw (p.1, p.2, sym source) (begins_refused c.args.self.now.at _ c.take_start.new.block _ _ c.in_err-self-inside-in-Ok-Enough.field-0.0 c.requires t
    (ap (λ (h : Hold). h.bytes) c.in-Ok.ensures) c.in_err-self-inside-in-Ok-Enough.ensures.opens)

pub returns-in_err-self-inside-in-Ok-Enough-clause-faults : goal.returns-in_err-self-inside-in-Ok-Enough-clause-faults
returns-in_err-self-inside-in-Ok-Enough-clause-faults g c =
    let p = err_from_is_err_and c.from_residual.result c.from_residual.ensures.1 in
    let source = ap (λ (s : Standpoint g.row.S.Denot). g.S.Source.faults s.source) c.self.view_is in
    rw (p.1, p.2, sym source) (refused_faults c.args.self.now.at c.take_start.new.block.bytes c.in_err-self-inside-in-Ok-Enough.field-0.0 _ _ c.requires c.in_err-self-inside-in-Ok-Enough.ensures.opens (rw c.in-Ok-Enough.field-0-is at c.in-Ok-Enough.ensures.counts))

pub returns-in_ok-self-inside-in-Ok-Enough-clause-next : goal.returns-in_ok-self-inside-in-Ok-Enough-clause-next
returns-in_ok-self-inside-in-Ok-Enough-clause-next g c =
    let source = ap (λ (s : Standpoint g.row.S.Denot). g.S.Source.left s.source) c.self.view_is in
    rw (sym source) (begins_reader c.args.self.now.at _ _ c.take_start.new.block _ _ c.requires c.in-Ok-Enough.ensures.takes (ap (λ (h : Hold). h.bytes) c.in-Ok.ensures) c.in_ok-self-inside-in-Ok-Enough.ensures.opens.0)

pub returns-in_ok-self-inside-in-Ok-Enough-clause-faults : goal.returns-in_ok-self-inside-in-Ok-Enough-clause-faults
returns-in_ok-self-inside-in-Ok-Enough-clause-faults g c =
    let source = ap (λ (s : Standpoint g.row.S.Denot). g.S.Source.faults s.source) c.self.view_is in
    rw (sym source) (begins_faults c.args.self.now.at _ c.take_start.new.block.bytes _ _ c.requires c.in_ok-self-inside-in-Ok-Enough.ensures.opens.0 (rw c.in-Ok-Enough.field-0-is at c.in-Ok-Enough.ensures.counts))

pub returns-in_ok-self-inside-in-Ok-Enough-clause-tells : goal.returns-in_ok-self-inside-in-Ok-Enough-clause-tells
returns-in_ok-self-inside-in-Ok-Enough-clause-tells g c =
    let source = ap (λ (s : Standpoint g.row.S.Denot). g.S.Source.left s.source) c.self.view_is in
    rw (sym source) (begins_tells _ c.take_start.new.block _ _ c.in-Ok-Enough.ensures.takes)

pub returns-in-Ok-Stopped-clause-next : goal.returns-in-Ok-Stopped-clause-next
returns-in-Ok-Stopped-clause-next g c =
    let source = ap (λ (s : Standpoint g.row.S.Denot). g.S.Source.left s.source) c.self.view_is in
    let decides = rw (c.in-Ok-Stopped.field-0-is) at c.in-Ok-Stopped.ensures.decides in
    rw (sym source) (begins_stops c.args.self.now.at _ c.take_start.new.block _ _ c.in-Ok-Stopped.stop _ _ c.requires c.in-Ok-Stopped.ensures.takes (ap (λ (h : Hold). h.bytes) c.in-Ok.ensures) (ap (λ (h : Hold). h.taken) c.in-Ok.ensures)
    decides.0 decides.1 c.as_slice.ensures c.end_of_start.ensures)
