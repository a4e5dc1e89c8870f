use Rattle.turn_book.proofs.Booking.{given, last_state}
use Rattle.turn_book.proofs.book.Book.close.Goals as goal

pub unreachable-requires : goal.unreachable-requires
unreachable-requires g c = let root = c.args.root in let q = last_state _ _ _ g.S.History.history g.S.History.frame g.S.History.maker _ _ _ _ _ _ root.first root.idle c.requires.out root.framed c.close_with-closed.ensures.values.2 c.take-found.ensures.value in c.in_default.not-Some q.state q.there

pub returns-clause-history : goal.returns-clause-history
returns-clause-history g c = let root = c.args.root in (given _ _ _ g.S.History.history g.S.History.frame g.S.History.maker _ _ _ _ (last_state _ _ _ g.S.History.history g.S.History.frame g.S.History.maker _ _ _ _ _ _ root.first root.idle c.requires.out root.framed c.close_with-closed.ensures.values.2 c.take-found.ensures.value) c.in-Some.is).0

pub returns-clause-frame : goal.returns-clause-frame
returns-clause-frame g c = let root = c.args.root in (given _ _ _ g.S.History.history g.S.History.frame g.S.History.maker _ _ _ _ (last_state _ _ _ g.S.History.history g.S.History.frame g.S.History.maker _ _ _ _ _ _ root.first root.idle c.requires.out root.framed c.close_with-closed.ensures.values.2 c.take-found.ensures.value) c.in-Some.is).1

pub returns-clause-made : goal.returns-clause-made
returns-clause-made g c = let root = c.args.root in (given _ _ _ g.S.History.history g.S.History.frame g.S.History.maker _ _ _ _ (last_state _ _ _ g.S.History.history g.S.History.frame g.S.History.maker _ _ _ _ _ _ root.first root.idle c.requires.out root.framed c.close_with-closed.ensures.values.2 c.take-found.ensures.value) c.in-Some.is).2
