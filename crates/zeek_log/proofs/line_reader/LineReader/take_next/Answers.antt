use Rattle.std.proofs.Common.{sym}
use Rattle.zeek_log.specs.Answers.{told_of}
use Rattle.zeek_log.specs.Going.{reading}
use Rattle.zeek_log.proofs.GoingLemmas.{then_answer, goes_at, long_at}
use Rattle.zeek_log.proofs.line_reader.LineReader.take_next.Goals as goal

pub returns-in-Line-clause-next : goal.returns-in-Line-clause-next
returns-in-Line-clause-next g c =
    let i = c.self.inside in
    let now = g.S.Source.left c.find_line.new.source in
    then_answer c.args.self.now (reading i.phase (told_of i.known) i.line c.find_line.new.block) c.take_ended.new.self _ now now c.take_ended.result
    (goes_at c.args.self.now i.phase (told_of i.known) i.line i.block c.find_line.new.block _ now (sym c.self.view_is) c.requires c.find_line.ensures.takes)
    (c.take_ended.ensures.next now)

pub returns-in-Stopped-clause-next : goal.returns-in-Stopped-clause-next
returns-in-Stopped-clause-next g c =
    let i = c.self.inside in
    let now = g.S.Source.left c.find_line.new.source in
    let finds = rw c.in-Stopped.is at c.in_ok-count.ensures.finds in
    then_answer c.args.self.now (reading i.phase (told_of i.known) i.line c.find_line.new.block) c.take_rest.new.self _ now now c.take_rest.result
    (goes_at c.args.self.now i.phase (told_of i.known) i.line i.block c.find_line.new.block _ now (sym c.self.view_is) c.requires c.find_line.ensures.takes)
    (c.take_rest.ensures.next now finds.2)

pub returns-in-Long-clause-next : goal.returns-in-Long-clause-next
returns-in-Long-clause-next g c =
    let i = c.self.inside in
    let finds = rw c.in-Long.is at c.in_ok-count.ensures.finds in
    long_at c.args.self.now i.phase (told_of i.known) i.line i.block c.find_line.new.block _ _ (sym c.self.view_is) c.requires
    c.find_line.ensures.takes finds.0 finds.1
