use Rattle.event_history.specs.Histories.{past}
use Rattle.script_desk.proofs.StayLemmas.{session_held, took}
use Rattle.script_desk.proofs.queries.take_hold.Goals as goal

pub returns-in-Ok-clause-accepted : goal.returns-in-Ok-clause-accepted
returns-in-Ok-clause-accepted c = took c.args.store.now.limits (past c.args.store.now.history) _ c.in-Ok.taken c.in-Ok.ensures.snapshot

pub returns-in-Err-default-Left-clause-accepted : goal.returns-in-Err-default-Left-clause-accepted
returns-in-Err-default-Left-clause-accepted c = session_held (past c.args.store.now.history) c.in-Err-default-Left.session

pub returns-in-Err-default-Memory-clause-accepted : goal.returns-in-Err-default-Memory-clause-accepted
returns-in-Err-default-Memory-clause-accepted c = session_held (past c.args.store.now.history) c.in-Err-default-Memory.session
