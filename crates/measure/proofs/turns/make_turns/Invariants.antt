use Rattle.std.proofs.Common.{◌≡◌}
use Rattle.turn_book.specs.Seats.{book_id, pass_book}
use Rattle.measure.proofs.turns.make_turns.Given as goal

abbrev pub invariant-loop : goal.invariant-loop
invariant-loop g l = pass_book l.pass ≡ book_id l.book
