use Rattle.std.proofs.Common.{◌∷◌, ◌++◌, ◌∙◌, [], Some, ap}
use Rattle.turn_book.proofs.Booking.{opens_with}
use Rattle.turn_book.proofs.book.Book.new.Goals as goal

pub new-requires : goal.new-requires
new-requires g c = opens_with _ _ _ g.S.History.history g.S.History.frame g.S.History.maker _ _ _ c.requires c.of-key.ensures (c.in_ok-push.ensures.items ∙ ap (λ l. l ++ Some c.args.state ∷ []) c.new-slots.ensures.items)
