use Rattle.std.proofs.Common.{ap}
use Rattle.input_report.specs.Texts.{scan_text}
use Rattle.vast.specs.Causes.{outside, rest_in}
use Rattle.vast.proofs.CauseLemmas.{reports_unopened}
use Rattle.vast.proofs.files.scan_opened.Goals as goal

pub returns-in-Err : goal.returns-in-Err
returns-in-Err g c =
    reports_unopened (outside (g.O.Opener.bytes_of c.args.opener.now) (g.O.Opener.faults c.args.opener.now) (g.K.Sink.written c.args.sink.now) (g.K.Sink.faults c.args.sink.now))
    (outside (g.O.Opener.bytes_of c.open_file.new.opener) (g.O.Opener.faults c.open_file.new.opener) (g.K.Sink.written c.open_file.new.sink) (g.K.Sink.faults c.open_file.new.sink))
    g.O.Src.Source.left g.O.Src.Source.faults c.args.file.now (λ steps. scan_text steps c.args.expr.now) c.unopened.result.status c.in-Err.status (rest_in c.unopened.result.end) c.unopened.ensures.status (ap rest_in c.unopened.ensures.end)
    (c.in-Err.ensures.unopened (λ steps. scan_text steps c.args.expr.now))
