use Rattle.std.proofs.Common.{◌≡◌}
use Rattle.turn_book.specs.Seats.{book_id, pass_book}
use Rattle.turn_book.proofs.tests.count_up.Given as goal

abbrev pub invariant-loop-number : goal.invariant-loop-number
invariant-loop-number g l = pass_book l.pass ≡ book_id l.book
