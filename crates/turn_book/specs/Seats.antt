-- What contracts see of a book, a root and a pass, in place of their fields.
use Rattle.turn_book.specs.declared.book.Book.{Book}
use Rattle.turn_book.specs.declared.seats.Pass.{Pass}
use Rattle.turn_book.specs.declared.seats.Root.{Root}
use Rattle.turn_book.specs.Standings.{BookId, Standing, standing_of}

abbrev pub book_id : {S E F : Type 0} → Book S E F → BookId
book_id b = b.table.shared.table_id

-- the book that a pass is of
abbrev pub pass_book : {S E F : Type 0} {g : _} → Pass S E F g → BookId
pass_book p = p.place.table_id

abbrev pub pass_standing : {S E F : Type 0} {g : _} → Pass S E F g → Standing E F
pass_standing p = standing_of p.place.me.0

-- the book that a root is of
abbrev pub root_book : {S E F : Type 0} {g : _} → Root S E F g → BookId
root_book r = r.place.table_id

abbrev pub root_standing : {S E F : Type 0} {g : _} → Root S E F g → Standing E F
root_standing r = standing_of r.place.me.0
