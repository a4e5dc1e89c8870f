use Rattle.turn_book.proofs.Turning.{serves_along}
use Rattle.turn_book.proofs.lock.sleep.Goals as goal

pub returns-then-serving-ticket-clause-told : goal.returns-then-serving-ticket-clause-told
returns-then-serving-ticket-clause-told g c = serves_along _ _ _ g.S.History.history g.S.History.frame g.S.History.maker _ _ _ _ c.loop.invariant.2 (c.look-serving.ensures.served c.if-serving-ticket.true)
