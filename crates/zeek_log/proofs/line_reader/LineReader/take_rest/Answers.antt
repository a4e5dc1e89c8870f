use Rattle.zeek_log.proofs.GoingLemmas.{failed_there, bound_there}
use Rattle.zeek_log.proofs.line_reader.LineReader.take_rest.Goals as goal

pub returns-in-Failed-clause-next : goal.returns-in-Failed-clause-next
returns-in-Failed-clause-next c now why =
    let r = c.args.self.now in
    failed_there r.state r.held r.taken r.kept now c.requires.reads c.requires.found c.requires.short

pub returns-in-AtBound-clause-next : goal.returns-in-AtBound-clause-next
returns-in-AtBound-clause-next c now why =
    let r = c.args.self.now in
    bound_there r.state r.held r.taken r.kept now c.requires.reads c.requires.found c.requires.short (rw c.in-AtBound.is at why)
