use Rattle.std.proofs.Common.{◌∙◌, arith}
use Rattle.turn_book.proofs.Booking.{idle_along, pass_made_nothing}
use Rattle.turn_book.proofs.Splitting.{learn_keeps, split_keeps}
use Rattle.turn_book.proofs.book.Book.cut.Goals as goal

pub load-requires : goal.load-requires
load-requires g c = let words = c.args.self.now.words in (c.requires.book, omega arith, learn_keeps _ _ _ _ _ _ _ _ _ _ c.args.root.now.first)

pub split_seat-place-requires : goal.split_seat-place-requires
split_seat-place-requires g c = let words = c.args.self.now.words in let along = idle_along _ _ _ _ _ _ c.load.ensures.2.0 c.args.root.now.idle c.requires.room in
    (c.load.ensures.0 ∙ c.requires.book, omega arith, split_keeps _ _ _ _ _ _ _ _ _ (c.load.ensures.1 ∙ c.args.root.now.first) along.0 along.1)

pub returns-clause-nothing_made : goal.returns-clause-nothing_made
returns-clause-nothing_made g c = pass_made_nothing _ _ g.row.S.Denot g.S.History.maker _ _ _ c.load.ensures.2.0 c.split_seat-place.ensures.4 c.load.ensures.2.1
