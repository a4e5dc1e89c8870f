use Rattle.turn_book.proofs.Turning.{serves_along}
use Rattle.turn_book.proofs.lock.spin.Goals as goal

pub returns-then-look-ticket-clause-served : goal.returns-then-look-ticket-clause-served
returns-then-look-ticket-clause-served g c = λ _. serves_along _ _ _ g.S.History.history g.S.History.frame g.S.History.maker _ _ _ _ c.loop.invariant.2 (c.look.ensures.served c.if-look-ticket.true)
