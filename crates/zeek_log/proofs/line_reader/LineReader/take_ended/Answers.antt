use Rattle.std.proofs.Common.{sym}
use Rattle.zeek_log.specs.Answers.{told_of}
use Rattle.zeek_log.proofs.GoingLemmas.{ended_line_at}
use Rattle.zeek_log.proofs.line_reader.LineReader.take_ended.Goals as goal

pub returns-clause-next : goal.returns-clause-next
returns-clause-next c =
    ended_line_at c.args.self.now c.self.inside.phase (told_of c.self.inside.known) (told_of c.take_line-outcome.new.known) c.self.inside.line c.args.count
    c.self.inside.block c.skip.new.self c.split_at.result.0.now c.as_slice.result.now c.take_line-outcome.result c.answer_of.result
    (sym c.self.view_is) c.requires.reads c.requires.found c.split_at.ensures.front c.as_slice.ensures c.skip.ensures
    c.take_line-outcome.ensures.does c.take_line-outcome.ensures.fits c.answer_of.ensures
