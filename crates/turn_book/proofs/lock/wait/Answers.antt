use Rattle.std.proofs.Common.{refl}
use Rattle.turn_book.proofs.Turning.{serves_along}
use Rattle.turn_book.proofs.lock.wait.Goals as goal

pub returns-then-not-spin-clause-told : goal.returns-then-not-spin-clause-told
returns-then-not-spin-clause-told g c = serves_along _ _ _ g.S.History.history g.S.History.frame g.S.History.maker _ _ _ _ (c.if-not-spin.ensures.waits refl) c.sleep.ensures.told
